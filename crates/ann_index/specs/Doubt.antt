-- What is in doubt of a log whose call failed.
use Rattle.std.specs.Prelude.{List}
use Rattle.ann_types.specs.declared.entry.Entry.{Entry}
use Rattle.ann_disk.specs.declared.file.LogFile.{Ghosts}
use Rattle.ann_log.specs.LogView.{LogView, files_of, held_of, IsBeforeOrAfter}
use Rattle.ann_log.specs.Told.{MayLeave}

-- whether these entries stand behind what it holds: a crash now leaves either
abbrev pub IsInDoubt : {F : Type 0} → Ghosts F → LogView F → List Entry → Type 0
IsInDoubt D log entries = MayLeave D (files_of log) (IsBeforeOrAfter (held_of log) entries)
