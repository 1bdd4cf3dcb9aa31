use Rattle.std.proofs.Common.{ℕ, ◌<◌}
use Rattle.ann_segment.specs.Directory.{item_of}
use Rattle.ann_ledger_tests.proofs.line.is_below.Given as goal

abbrev pub invariant-loop-row : goal.invariant-loop-row
invariant-loop-row l = (k : ℕ) → k < l.row → (item_of l.segment.items k).0 < l.next
