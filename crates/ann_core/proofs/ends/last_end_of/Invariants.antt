use Rattle.std.proofs.Common.{◌≡◌, take}
use Rattle.ann_core_laws.specs.State.{last_end}
use Rattle.ann_core.proofs.ends.last_end_of.Given as goal

-- the last End of the entries so far
abbrev pub invariant-loop-entry : goal.invariant-loop-entry
invariant-loop-entry l = l.last ≡ last_end (take l.entry-index l.entries)
