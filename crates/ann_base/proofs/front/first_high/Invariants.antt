use Rattle.std.proofs.Common.{ℕ, ◌<◌}
use Rattle.ann_segment.specs.Directory.{item_of}
use Rattle.ann_base.proofs.front.first_high.Given as goal

-- the Pids of the rows so far are below the next one
abbrev pub invariant-loop-row : goal.invariant-loop-row
invariant-loop-row g l = (earlier : ℕ) → earlier < l.row → (item_of l.segment.items earlier).0 < l.next
