use Rattle.std.proofs.Common.{◌≡◌, map, take}
use Rattle.ann_types.specs.Judge.{entry_of as entry_in}
use Rattle.ann_journal.proofs.entries.entries_of.Given as goal

-- the entries of the changes so far
abbrev pub invariant-loop-change : goal.invariant-loop-change
invariant-loop-change l = l.entries.items ≡ map (entry_in l.by) (take l.change-index l.changes)
