use Rattle.std.proofs.Common.{◌≡◌, ℕ, ◌+◌, ◌*◌, ◌≤◌, ◌<◌, length, sym, ap, ap₂, subst, ◌∙◌, arith}
use Rattle.ann_segment.specs.Directory.{directory_blocks}
use Rattle.ann_segment.specs.Segment.{SegmentView}
use Rattle.ann_segment.proofs.Rows.{length-items, block_within}
use Rattle.ann_segment.proofs.segment.Segment.node_block.Goals as goal

pub returns-clause-value : goal.returns-clause-value
returns-clause-value g c =
    let many = length-items c.self.inside.m c.self.inside.count c.self.inside.directory.items in
    ap₂ (λ (q row : ℕ). 1 + q + row)
    (c.directory_blocks.ensures.value
    ∙ ap (λ (n : ℕ). directory_blocks n c.self.inside.m) (sym many)
    ∙ ap (λ (s : SegmentView g.row.S.Denot). directory_blocks (length s.items) s.m) c.self.view_is)
    c.from.ensures

pub returns-clause-within : goal.returns-clause-within
returns-clause-within g c = λ tells.
    let many = length-items c.self.inside.m c.self.inside.count c.self.inside.directory.items in
    let rows : c.self.inside.count ≡ length c.args.self.now.items = sym many ∙ ap (λ (s : SegmentView g.row.S.Denot). length s.items) c.self.view_is in
    let row : c.from.result ≡ c.args.row = c.from.ensures in
    let below : c.from.result < c.self.inside.count = omega (arith, c.requires, rows, row) in
    let ends = block_within c.self.inside.count c.self.inside.m c.from.result c.directory_blocks.result c.directory_blocks.ensures.value below in
    let end : ℕ = 4096 * (1 + c.directory_blocks.result + c.from.result) + 4096 in
    let long = ap (λ (s : SegmentView g.row.S.Denot). length (g.S.Sealed.bytes s.seal)) (sym c.self.view_is) ∙ (c.self.invariant.3 tells).1 in
    subst (λ (n : ℕ). end ≤ n) (sym long) ends
