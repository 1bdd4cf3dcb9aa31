-- A log that was just opened.
use Rattle.std.specs.Prelude.{◌≡◌, false, List, length}
use Rattle.ann_types.specs.declared.entry.Entry.{Entry}
use Rattle.ann_disk.specs.declared.file.LogFile.{Ghosts}
use Rattle.ann_frame.specs.Frames.{HaveComponents}
use Rattle.ann_log.specs.LogView.{LogView, files_of, held_of}
use Rattle.ann_log.specs.Text.{Held, StandsFor}
use Rattle.ann_log.specs.Told.{MayLeave}

-- what a log holds with these entries
abbrev pub held_with : {F : Type 0} → LogView F → List Entry → Held
held_with log entries = record { params = log.params; book = log.book; base = log.base; entries = entries }

-- a log is open, and has these entries
pub record IsFresh {F : Type 0} (D : Ghosts F) (log : LogView F) (entries : List Entry) : Type 0 where
  pub open_now : log.is_closed ≡ false
  pub listed : D.tells → log.list ≡ entries
  pub count : log.count ≡ length entries
  pub components : HaveComponents log.params.d entries
  pub leaves : MayLeave D (files_of log) (StandsFor (held_of log))
