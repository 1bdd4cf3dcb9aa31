use Rattle.std.proofs.Common.{◌≤◌, ◌+◌, ◌*◌, ◌-◌, ap, ◌∙◌, arith, take, drop, length}
use Rattle.ann_frozen.proofs.Rows.{vector_end, vector_is}
use Rattle.ann_frozen.proofs.packed.Packed.vector.Goals as goal

pub slice_bounds-result-end : goal.slice_bounds-result-end
slice_bounds-result-end c =
    let size = c.self.inside.bytes.ok.0 in
    let ends = vector_end c.self.inside.width c.self.inside.labels.items c.self.inside.bytes.items c.self.inside.numbers.items c.args.self.now c.self.view_is c.self.invariant c.args.row c.from-width.result c.requires c.from-width.ensures in
    let same = c.deref.ensures.len in
    let goes : c.args.row * c.from-width.result + c.from-width.result ≤ length c.deref.result.now = omega arith in goes

pub returns : goal.returns
returns c =
    ap (λ t. take (c.args.row * c.from-width.result + c.from-width.result - c.args.row * c.from-width.result) (drop (c.args.row * c.from-width.result) t)) c.deref.ensures.value
    ∙ vector_is c.self.inside.width c.self.inside.labels.items c.self.inside.bytes.items c.self.inside.numbers.items c.args.self.now c.self.view_is c.self.invariant c.args.row c.from-width.result c.requires c.from-width.ensures
