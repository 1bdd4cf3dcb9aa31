use Rattle.std.proofs.Common.{ℕ, ◌≡◌, take, not}
use Rattle.std.specs.Prelude.{◌&&◌}
use Rattle.ann_types.specs.Order.{has}
use Rattle.ann_dead.specs.Pids.{union_of, IsAscending}
use Rattle.ann_dead.proofs.dead.Dead.remove_all.Given as goal

abbrev pub invariant-loop-run : goal.invariant-loop-run
invariant-loop-run l = record {
  up : IsAscending l.left;
  members : (pid : ℕ) → has l.left pid ≡ (has (union_of (take l.run-index l.run-items)) pid && not (has l.of pid));
}
