use Rattle.std.proofs.Common.{◌≡◌, sym, subst}
use Rattle.std.specs.List.{AllByRecursion}
use Rattle.std.specs.Int.{abs_diff}
use Rattle.ann_pool.specs.declared.item.Item.{Item}
use Rattle.ann_pool.proofs.Each.{all_offered, all_take}
use Rattle.ann_graph_tests.proofs.pool.offer_each.Goals as goal

pub loop-number-preserved : goal.loop-number-preserved
loop-number-preserved c =
    let IsFar : Item → Type 0 = λ item. item.distance ≡ abs_diff item.number 5 in
    subst (AllByRecursion IsFar) (sym c.offer.ensures.items) (all_take IsFar _ _ (all_offered IsFar _ _ c.abs_diff.ensures c.loop-number.invariant))
