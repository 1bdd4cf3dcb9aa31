use Rattle.std.proofs.Common.{ℕ, ◌<◌, ◌≤◌, get_or}
use Rattle.ann_pq.proofs.least.least_of.Given as goal

-- the greatest of all bounds of the numbers so far
abbrev pub invariant-loop-number : goal.invariant-loop-number
invariant-loop-number l = record {
  below : (k : ℕ) → k < l.number-index → l.lowest ≤ get_or l.numbers k 0;
  greatest : (b : ℕ) → b ≤ 4294967295 → ((k : ℕ) → k < l.number-index → b ≤ get_or l.numbers k 0) → b ≤ l.lowest;
}
