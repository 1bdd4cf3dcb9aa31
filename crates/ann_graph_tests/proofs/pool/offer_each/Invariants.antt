use Rattle.std.proofs.Common.{◌≡◌}
use Rattle.std.specs.List.{AllByRecursion}
use Rattle.std.specs.Int.{abs_diff}
use Rattle.ann_graph_tests.proofs.pool.offer_each.Given as goal

abbrev pub invariant-loop-number : goal.invariant-loop-number
invariant-loop-number l = AllByRecursion (λ item. item.distance ≡ abs_diff item.number 5) l.pool.items
