use Rattle.std.proofs.Common.{◌≡◌, drop}
use Rattle.std.specs.List.{list_any}
use Rattle.ann_laws.specs.Replays.{is_end}
use Rattle.ann_core.proofs.ends.has_end.Given as goal

-- none is among the entries so far
abbrev pub invariant-loop-entry : goal.invariant-loop-entry
invariant-loop-entry l = list_any is_end (drop l.entry-index l.entries) ≡ list_any is_end l.entries
