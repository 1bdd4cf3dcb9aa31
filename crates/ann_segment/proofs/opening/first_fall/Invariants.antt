use Rattle.std.proofs.Common.{ℕ, ◌-◌, ◌≤◌, ◌<◌}
use Rattle.ann_segment.specs.Directory.{pid_at}
use Rattle.ann_segment.proofs.opening.first_fall.Given as goal

-- the Pids before the row rise
abbrev pub invariant-loop-row : goal.invariant-loop-row
invariant-loop-row l = record { some : 1 ≤ l.row; rise : (row : ℕ) → 1 ≤ row → row < l.row → pid_at l.m l.directory (row - 1) < pid_at l.m l.directory row }
