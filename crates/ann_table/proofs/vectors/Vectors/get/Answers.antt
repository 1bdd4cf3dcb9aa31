use Rattle.std.proofs.Common.{◌≤◌, ◌+◌, ◌*◌, ◌-◌, ap, ◌∙◌, arith, take, drop, length}
use Rattle.ann_table.proofs.Filled.{filled_ends, filled_is}
use Rattle.ann_table.proofs.vectors.Vectors.get.Goals as goal

pub slice_bounds-result-end : goal.slice_bounds-result-end
slice_bounds-result-end c =
    let size = c.self.inside.bytes.ok.0 in
    let whole = c.self.invariant.0 in
    let ends = filled_ends c.self.inside.width c.self.inside.spare c.self.inside.count c.self.inside.bytes.items c.args.self.now c.self.view_is (omega arith) c.args.row c.from-width.result c.requires c.from-width.ensures in
    let same = c.deref.ensures.len in
    let goes : c.args.row * c.from-width.result + c.from-width.result ≤ length c.deref.result.now = omega arith in goes

pub returns-clause-vector : goal.returns-clause-vector
returns-clause-vector c =
    let size = c.self.inside.bytes.ok.0 in
    let whole = c.self.invariant.0 in
    ap (λ t. take (c.args.row * c.from-width.result + c.from-width.result - c.args.row * c.from-width.result) (drop (c.args.row * c.from-width.result) t)) c.deref.ensures.value
    ∙ filled_is c.self.inside.width c.self.inside.spare c.self.inside.count c.self.inside.bytes.items c.args.self.now c.self.view_is (omega arith) c.args.row c.from-width.result c.requires c.from-width.ensures
