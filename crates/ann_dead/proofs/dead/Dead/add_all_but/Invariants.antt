use Rattle.std.proofs.Common.{ℕ, ◌≡◌, take, not}
use Rattle.std.specs.Prelude.{◌||◌, ◌&&◌}
use Rattle.ann_types.specs.Order.{has}
use Rattle.ann_dead.specs.Pids.{IsAscending}
use Rattle.ann_dead.proofs.dead.Dead.add_all_but.Given as goal

abbrev pub invariant-loop-pid : goal.invariant-loop-pid
invariant-loop-pid l = record {
  up : IsAscending l.self;
  members : (pid : ℕ) → has l.self pid ≡ (has l.initial.self pid || (has (take l.pid-index l.pid-items) pid && not (has l.of pid)));
}
