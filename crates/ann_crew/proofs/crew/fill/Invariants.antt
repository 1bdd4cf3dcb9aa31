use Rattle.std.proofs.Common.{◌≡◌, ◌≤◌, ◌+◌, ◌++◌, map, length, reverse, All, vec_len, vec_capacity}
use Rattle.ann_claim.specs.Claims.{Lot, newcomer_of}
use Rattle.ann_crew.specs.Members.{IsFresh, worker_of}
use Rattle.ann_crew.proofs.crew.fill.Given as goal

-- the workers that are left, and those of the members, are all
abbrev pub invariant-loop-worker : goal.invariant-loop-worker
invariant-loop-worker g l = record {
  workers : l.workers.items ++ reverse (map worker_of l.members.items) ≡ l.fn.workers.items;
  same : length l.claimers.items ≡ length l.workers.items;
  fresh : (lot : Lot) → All (λ c. c ≡ newcomer_of lot) l.fn.claimers.items → All (λ c. c ≡ newcomer_of lot) l.claimers.items × All (IsFresh lot) l.members.items;
  room : vec_len l.workers + vec_len l.members ≤ vec_capacity l.members;
}

abbrev pub decreases-loop-worker : goal.decreases-loop-worker
decreases-loop-worker g l = vec_len l.workers
