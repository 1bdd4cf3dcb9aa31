use Rattle.std.proofs.Common.{length, ◌-◌}
use Rattle.ann_frame.specs.Found.{HasEntries}
use Rattle.ann_frame.proofs.reading.read_entries.Given as goal

abbrev pub invariant-loop-at : goal.invariant-loop-at
invariant-loop-at l = HasEntries l.d l.bytes l.at l.fn.entries l.entries

abbrev pub decreases-loop-at : goal.decreases-loop-at
decreases-loop-at l = length l.bytes - l.at
