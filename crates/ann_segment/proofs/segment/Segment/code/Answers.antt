use Rattle.std.proofs.Common.{◌≡◌, ℕ, ◌+◌, ◌-◌, ◌*◌, ◌≤◌, List, length, take, drop, sym, ap, ap₂, subst, ◌∙◌, arith}
use Rattle.ann_segment.specs.Directory.{item_of}
use Rattle.ann_segment.specs.Segment.{SegmentView}
use Rattle.ann_segment.proofs.Rows.{length-items, row_within, code_is}
use Rattle.ann_segment.proofs.segment.Segment.code.Goals as goal

pub slice_bounds-result-end : goal.slice_bounds-result-end
slice_bounds-result-end g c =
    let m = c.self.inside.m in
    let count = c.self.inside.count in
    let bytes = c.self.inside.directory.items in
    let size = c.from-size.result in
    let rows : count ≡ length c.args.self.now.items = sym (length-items m count bytes) ∙ ap (λ (s : SegmentView g.row.S.Denot). length s.items) c.self.view_is in
    let is : size ≡ m = c.from-size.ensures in
    let ends = row_within c.args.row count size (omega (arith, c.requires, rows)) in
    let whole : count * (4 + size) ≤ length bytes = subst (λ (k : ℕ). count * (4 + k) ≤ length bytes) (sym is) c.self.invariant.1 in
    let same : length c.deref.result.now ≡ length bytes = ap length c.deref.ensures.value in
    let goes : c.args.row * (4 + size) + 4 + size ≤ length c.deref.result.now = omega (arith, ends, whole, same) in
    goes

pub returns-clause-value : goal.returns-clause-value
returns-clause-value g c =
    let m = c.self.inside.m in
    let count = c.self.inside.count in
    let bytes = c.self.inside.directory.items in
    let size = c.from-size.result in
    let rows : count ≡ length c.args.self.now.items = sym (length-items m count bytes) ∙ ap (λ (s : SegmentView g.row.S.Denot). length s.items) c.self.view_is in
    let at : ℕ = c.args.row * (4 + size) + 4 in
    let width : at + size - at ≡ size = omega arith in
    ap₂ (λ (n : ℕ) (xs : List ℕ). take n (drop at xs)) width c.deref.ensures.value
    ∙ ap (λ (k : ℕ). take k (drop (c.args.row * (4 + k) + 4) bytes)) c.from-size.ensures
    ∙ code_is m count c.args.row bytes (omega (arith, c.requires, rows))
    ∙ ap (λ (s : SegmentView g.row.S.Denot). (item_of s.items c.args.row).1) c.self.view_is
