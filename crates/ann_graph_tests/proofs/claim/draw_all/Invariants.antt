use Rattle.std.proofs.Common.{◌≡◌, ◌-◌}
use Rattle.ann_claim.specs.Claims.{least_above}
use Rattle.ann_graph_tests.proofs.claim.draw_all.Given as goal

abbrev pub invariant-loop-number : goal.invariant-loop-number
invariant-loop-number l = (l.claimer.lot ≡ l.claims) × (l.drawn.items ≡ l.claimer.drawn)

abbrev pub decreases-loop-number : goal.decreases-loop-number
decreases-loop-number l = l.claims.numbers - least_above l.claimer.drawn
