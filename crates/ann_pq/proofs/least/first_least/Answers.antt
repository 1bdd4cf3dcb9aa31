use Rattle.std.proofs.Common.{get_or, sym, ap, ◌∙◌, arith}
use Rattle.ann_pq.proofs.Leasts.{first_is, last_is}
use Rattle.ann_pq.proofs.least.first_least.Goals as goal

pub returns-then-numbers-from : goal.returns-then-numbers-from
returns-then-numbers-from c =
    first_is c.args.numbers.now c.loop-place.place c.least_of-lowest.result c.least_of-lowest.ensures (omega arith) c.loop-place.invariant
    (ap (λ n. get_or c.args.numbers.now n 0) (sym c.from.ensures) ∙ c.if-numbers-from.true)

pub returns : goal.returns
returns c = last_is c.args.numbers.now 255 c.least_of-lowest.result c.least_of-lowest.ensures c.requires (λ k l. c.loop-place.invariant k (omega arith))
