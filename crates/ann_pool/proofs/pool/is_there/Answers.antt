use Rattle.std.proofs.Common.{eqb, eqb-true, ap, ◌∙◌, arith}
use Rattle.std.proofs.lemmas.List.{get_or_default}
use Rattle.ann_pool.specs.declared.item.Item.{Item}
use Rattle.ann_pool.proofs.Orders.{offer_there, offer_new}
use Rattle.ann_pool.proofs.pool.is_there.Goals as goal

pub returns-then-place-items-clause-there : goal.returns-then-place-items-clause-there
returns-then-place-items-clause-there c = λ e. offer_there c.args.item.now c.args.items.now c.args.place _ c.requires.place c.requires.same c.if-place-items.true (eqb-true _ _ e)

pub returns-then-place-items-clause-new : goal.returns-then-place-items-clause-new
returns-then-place-items-clause-new c = λ e.
    offer_new c.args.item.now c.args.items.now c.args.place c.requires.place c.requires.same
    (λ d l. ap (λ (y : Item). eqb y.number c.args.item.now.number) (get_or_default c.args.items.now c.args.place d _ l) ∙ e)

pub returns-else-place-items-clause-new : goal.returns-else-place-items-clause-new
returns-else-place-items-clause-new c = λ e. offer_new c.args.item.now c.args.items.now c.args.place c.requires.place c.requires.same (λ d l. absurd (omega arith))
