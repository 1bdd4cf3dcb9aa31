use Rattle.std.proofs.Common.{sym, refl, arith}
use Rattle.std.proofs.lemmas.List.{get_or_default}
use Rattle.ann_pool.proofs.Orders.{marked-set}
use Rattle.ann_pool.proofs.Marked.{marked_split, find_at, find_past, marked_past}
use Rattle.ann_pool.proofs.pool.mark_at.Goals as goal

pub returns-then-place-items-clause-found : goal.returns-then-place-items-clause-found
returns-then-place-items-clause-found c = sym (find_past c.args.place c.args.items.now c.if-place-items.true c.requires.before)

pub returns-then-place-items-clause-marked : goal.returns-then-place-items-clause-marked
returns-then-place-items-clause-marked c = marked_past c.args.place c.args.items.now c.if-place-items.true c.requires.before

pub returns-clause-found : goal.returns-clause-found
returns-clause-found c = sym (find_at c.args.place c.args.items.now _ (omega arith) c.requires.before (c.requires.here _ (omega arith)))

pub returns-clause-inside : goal.returns-clause-inside
returns-clause-inside c = (c.args.place, omega arith, get_or_default c.args.items.now c.args.place _ _ (omega arith))

pub returns-clause-marked : goal.returns-clause-marked
returns-clause-marked c = marked-set c.args.items.now c.args.place _ _ (omega arith) (c.requires.here _ (omega arith)) refl (marked_split c.args.place c.args.items.now c.requires.before)
