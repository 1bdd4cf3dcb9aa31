use Rattle.std.proofs.Common.{arith}
use Rattle.ann_mphases.proofs.Bases.{chosen_first, rising_first}
use Rattle.ann_mphases.proofs.grown.choose.Goals as goal

pub base-requires-clause-rising : goal.base-requires-clause-rising
base-requires-clause-rising c = rising_first _ c.args.points.now c.requires.may.rising

pub returns-clause-chosen : goal.returns-clause-chosen
returns-clause-chosen c =
    chosen_first c.args.params.now c.args.book.now c.args.lists c.args.decoded c.args.points.now c.in_ok-base-2.base c.min-first.result c.known.ensures c.requires.book
    (let least = c.min-first.ensures in omega arith) c.known-2.ensures.base (let count = c.len.ensures in let none = c.if-len-gt0.false in omega arith) c.requires.may c.in_ok-base-2.ensures
