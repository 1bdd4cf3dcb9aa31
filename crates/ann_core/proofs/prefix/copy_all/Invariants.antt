use Rattle.std.proofs.Common.{◌≡◌, ◌++◌, take}
use Rattle.ann_core.proofs.prefix.copy_all.Given as goal

-- the entries so far were added
abbrev pub invariant-loop-entry : goal.invariant-loop-entry
invariant-loop-entry l = l.out.items ≡ l.initial.out.items ++ take l.entry-index l.entries
