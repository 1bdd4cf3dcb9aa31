use Rattle.std.proofs.Common.{◌≡◌, ◌≤◌, take}
use Rattle.ann_dead.proofs.dead.Dead.copy.Given as goal

abbrev pub invariant-loop-run : goal.invariant-loop-run
invariant-loop-run l = record {
  so_far : l.runs.items ≡ take l.run-index l.run-items;
  room : 32 ≤ l.runs.capacity;
}
