use Rattle.std.proofs.Common.{◌≡◌, take, false}
use Rattle.ann_types.specs.Order.{has}
use Rattle.ann_dead.specs.Pids.{union_of}
use Rattle.ann_dead.proofs.dead.Dead.contains.Given as goal

abbrev pub invariant-loop-run : goal.invariant-loop-run
invariant-loop-run l = has (union_of (take l.run-index l.run-items)) l.pid ≡ false
