use Rattle.std.proofs.Common.{length, take, ◌+◌, ◌++◌, ◌∷◌, [], ◌≡◌, ◌≤◌}
use Rattle.ann_dead.specs.Pids.{union_of}
use Rattle.ann_dead.specs.Digits.{carried}
use Rattle.ann_dead.specs.Run.{IsRun}
use Rattle.ann_dead.specs.Dead.{total, sizes}
use Rattle.ann_dead.proofs.carry.carry.Given as goal

abbrev pub invariant-loop-kept : goal.invariant-loop-kept
invariant-loop-kept l = record {
  kept_in : l.kept ≤ length l.runs;
  one_run : IsRun l.pids.items;
  same_pids : union_of (take l.kept l.runs ++ l.pids.items ∷ []) ≡ union_of (l.runs ++ (l.pid ∷ []) ∷ []);
  same_total : total (take l.kept l.runs ++ l.pids.items ∷ []) ≡ total l.runs + 1;
  same_carry : carried (sizes (take l.kept l.runs)) (length l.pids.items) ≡ carried (sizes l.runs) 1;
}

abbrev pub decreases-loop-kept : goal.decreases-loop-kept
decreases-loop-kept l = l.kept
