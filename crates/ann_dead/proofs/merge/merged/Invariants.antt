use Rattle.std.proofs.Common.{length, drop, ◌+◌, ◌-◌, ◌++◌, ◌≡◌, ◌≤◌}
use Rattle.ann_dead.specs.Pids.{union}
use Rattle.ann_dead.proofs.merge.merged.Given as goal

abbrev pub invariant-loop-i : goal.invariant-loop-i
invariant-loop-i l = record {
  in_first : l.i ≤ length l.first;
  in_second : l.k ≤ length l.second;
  so_far : l.pids.items ++ union (drop l.i l.first) (drop l.k l.second) ≡ union l.first l.second;
}

abbrev pub decreases-loop-i : goal.decreases-loop-i
decreases-loop-i l = (length l.first - l.i) + (length l.second - l.k)
