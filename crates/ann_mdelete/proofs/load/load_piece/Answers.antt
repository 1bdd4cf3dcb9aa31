use Rattle.std.proofs.Common.{◌≡◌, ◌+◌, ◌-◌, ◌*◌, ap, ◌∙◌, arith, length}
use Rattle.std.specs.Prelude.{slice_range}
use Rattle.ann_segment.specs.Segment.{node_block}
use Rattle.ann_mdelete.specs.Loaded.{piece_rows}
use Rattle.ann_mdelete.proofs.Loads.{unloaded}
use Rattle.ann_mdelete.proofs.load.load_piece.Goals as goal

pub returns-clause-refused : goal.returns-clause-refused
returns-clause-refused g c =
    let segment = c.args.segment.now in
    let first = c.args.first in
    let last = c.min-last.result in
    let all = c.count.ensures in
    let least = c.min-last.ensures in
    let within = c.requires.first in
    let rows : last - first + 1 ≡ piece_rows (length segment.items) first = omega arith in
    unloaded g.S.Sealed.tells g.S.Sealed.bytes segment c.args.params.now first (last - first + 1) c.read.new.self.page c.load_rows.new.self.page _ _ c.load_rows.result rows c.load_rows.ensures.page
    (λ told. c.in_ok-read.ensures.told told ∙ ap (λ n. slice_range (g.S.Sealed.bytes segment.seal) (4096 * node_block segment first) (4096 * node_block segment first + 4096 * n)) rows)
    c.in_ok-read.ensures.counted c.load_rows.ensures.refused
