use Rattle.std.proofs.Common.{◌≡◌, ◌≤◌, ◌+◌, ◌++◌, take, drop, reverse, vec_len, vec_capacity}
use Rattle.ann_merge.proofs.pour.pour.Given as goal

-- those that moved, and those that will, are all
abbrev pub invariant-loop-from : goal.invariant-loop-from
invariant-loop-from g l = record {
  kept : take l.keep l.from.items ≡ take l.keep l.fn.from.items;
  moved : l.to.items ++ reverse (drop l.keep l.from.items) ≡ l.fn.to.items ++ reverse (drop l.keep l.fn.from.items);
  keep : l.keep ≤ vec_len l.from;
  room : vec_len l.to + vec_len l.from ≤ vec_capacity l.to + l.keep;
  places : vec_capacity l.from ≡ vec_capacity l.fn.from;
  same : vec_capacity l.to ≡ vec_capacity l.fn.to;
}

abbrev pub decreases-loop-from : goal.decreases-loop-from
decreases-loop-from g l = vec_len l.from
