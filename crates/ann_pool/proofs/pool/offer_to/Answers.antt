use Rattle.std.proofs.Common.{◌≡◌, List, length, subst}
use Rattle.ann_pool.specs.declared.item.Item.{Item}
use Rattle.ann_pool.specs.Pool.{IsPlaceOf}
use Rattle.ann_pool.proofs.Orders.{offer_past}
use Rattle.ann_pool.proofs.pool.offer_to.Goals as goal

pub returns-then-is_past-clause-items : goal.returns-then-is_past-clause-items
returns-then-is_past-clause-items c =
    offer_past c.args.item c.args.items.now.items c.args.limit
    (subst (λ (s : List Item). length s ≡ c.args.limit) c.deref.ensures.value (c.is_past.ensures.full c.if-is_past.true))
    (subst (λ (s : List Item). IsPlaceOf c.args.item s c.args.limit) c.deref.ensures.value (c.is_past.ensures.last c.if-is_past.true))
    c.requires.same
