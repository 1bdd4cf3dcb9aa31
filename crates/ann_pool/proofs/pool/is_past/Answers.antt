use Rattle.std.proofs.Common.{sym, ◌∙◌}
use Rattle.ann_pool.proofs.Orders.{last_place}
use Rattle.ann_pool.proofs.pool.is_past.Goals as goal

pub returns-then-items-limit-clause-last : goal.returns-then-items-limit-clause-last
returns-then-items-limit-clause-last c = λ before. last_place _ _ _ _ c.requires.order c.if-items-limit.true c.requires.some (sym c.is_before.ensures ∙ before)
