use Rattle.std.proofs.Common.{◌≡◌, true, subst, sym, arith}
use Rattle.std.specs.List.{AllByRecursion}
use Rattle.ann_pool.specs.declared.item.Item.{Item}
use Rattle.ann_pool.specs.Pool.{IsInOrder}
use Rattle.ann_pool.proofs.Orders.{order_offered, order_take}
use Rattle.ann_pool.proofs.Marked.{marked_fewer}
use Rattle.ann_pool.proofs.pool.Pool.offer.Goals as goal

pub invariant_of-self : goal.invariant_of-self
invariant_of-self c =
    let kept = c.self.invariant in
    let few = c.offer_to-place.ensures.few in
    let wide = c.from.ensures in
    let least = c.min-self-inside.ensures in (
      kept.0,
      kept.1,
      omega arith,
      omega arith,
      subst IsInOrder (sym c.offer_to-place.ensures.items) (order_take _ _ (order_offered _ _ kept.4)),
      subst (AllByRecursion (λ (y : Item). y.visited ≡ true)) (sym (c.offer_to-place.ensures.before c.min-self-inside.result (omega arith)))
          (marked_fewer c.min-self-inside.result c.self.inside.next c.self.inside.items.items (omega arith) kept.5),
    )
