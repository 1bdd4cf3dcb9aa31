use Rattle.std.proofs.Common.{◌≡◌, ◌≤◌, ◌+◌, ◌++◌, map, reverse, vec_len, vec_capacity}
use Rattle.ann_crew.specs.Members.{worker_of, drawn_of}
use Rattle.ann_crew.proofs.crew.disband.Given as goal

-- those that went back, and those that are left, are all
abbrev pub invariant-loop-member : goal.invariant-loop-member
invariant-loop-member g l = record {
  workers : l.workers.items ++ reverse (map worker_of l.members.items) ≡ reverse (map worker_of l.fn.members.items);
  drawn : l.drawn.items ++ reverse (map drawn_of l.members.items) ≡ reverse (map drawn_of l.fn.members.items);
  places : vec_len l.workers + vec_len l.members ≤ vec_capacity l.workers;
  room : vec_len l.drawn + vec_len l.members ≤ vec_capacity l.drawn;
}

abbrev pub decreases-loop-member : goal.decreases-loop-member
decreases-loop-member g l = vec_len l.members
