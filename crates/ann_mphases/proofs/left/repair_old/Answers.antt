use Rattle.std.proofs.Common.{◌≡◌, ◌<◌, ℕ, ap, sym, subst, arith, length}
use Rattle.std.specs.Prelude.{All}
use Rattle.ann_mdelete.specs.Rows.{left_rows}
use Rattle.ann_mplan.proofs.Ranked.{few_ranked}
use Rattle.ann_mphases.proofs.Lefts.{left_below}
use Rattle.ann_mphases.proofs.left.repair_old.Goals as goal

pub decoded-requires-clause-few : goal.decoded-requires-clause-few
decoded-requires-clause-few g c =
    let size = ap length c.in_ok-packing.ensures in
    let some = few_ranked c.args.gone.now (length c.args.gone.now) in
    let vectors = c.requires.rows.with_vectors in
    let values = c.requires.rows.with_values in omega arith

pub decoded-requires-clause-inside : goal.decoded-requires-clause-inside
decoded-requires-clause-inside g c =
    let vectors = c.requires.rows.with_vectors in
    let values = c.requires.rows.with_values in
    subst (All (λ row. row < length c.args.decoded.now)) (sym c.in_ok-packing.ensures)
    (subst (λ (n : ℕ). All (λ row. row < n) (left_rows c.args.gone.now 0 (length c.args.gone.now))) (let e : length c.args.gone.now ≡ length c.args.decoded.now = omega arith in e)
    (left_below c.args.gone.now (length c.args.gone.now)))
