use Rattle.std.proofs.Common.{ℕ, ◌<◌, ◌≡◌, get_or, false, eqb}
use Rattle.ann_pq.proofs.least.first_least.Given as goal

abbrev pub invariant-loop-place : goal.invariant-loop-place
invariant-loop-place l = (k : ℕ) → k < l.place → eqb (get_or l.numbers k 0) l.lowest ≡ false
