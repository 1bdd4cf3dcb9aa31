use Rattle.std.proofs.Common.{◌≡◌, ℕ, ◌+◌, ◌*◌, ◌≤◌, List, length, sym, ap, ◌∙◌, arith}
use Rattle.ann_segment.specs.Directory.{item_of, pid_at}
use Rattle.ann_segment.specs.Segment.{SegmentView}
use Rattle.ann_segment.proofs.Rows.{length-items, row_within, pid_is}
use Rattle.ann_segment.proofs.segment.Segment.pid.Goals as goal

pub pid_at-requires-clause-row : goal.pid_at-requires-clause-row
pid_at-requires-clause-row g c =
    let m = c.self.inside.m in
    let count = c.self.inside.count in
    let bytes = c.self.inside.directory.items in
    let rows : count ≡ length c.args.self.now.items = sym (length-items m count bytes) ∙ ap (λ (s : SegmentView g.row.S.Denot). length s.items) c.self.view_is in
    let ends = row_within c.args.row count m (omega (arith, c.requires, rows)) in
    let whole : count * (4 + m) ≤ length bytes = c.self.invariant.1 in
    let same : length c.deref.result.now ≡ length bytes = ap length c.deref.ensures.value in
    omega (arith, ends, whole, same)

pub returns : goal.returns
returns g c =
    let m = c.self.inside.m in
    let count = c.self.inside.count in
    let bytes = c.self.inside.directory.items in
    let rows : count ≡ length c.args.self.now.items = sym (length-items m count bytes) ∙ ap (λ (s : SegmentView g.row.S.Denot). length s.items) c.self.view_is in
    c.pid_at.ensures
    ∙ ap (λ (xs : List ℕ). pid_at m xs c.args.row) c.deref.ensures.value
    ∙ pid_is m count c.args.row bytes (omega (arith, c.requires, rows))
    ∙ ap (λ (s : SegmentView g.row.S.Denot). (item_of s.items c.args.row).0) c.self.view_is
