-- What opening a log gives and leaves.
use Rattle.std.specs.Prelude.{◌≡◌, ◌⊎◌, ℕ, false, List, length, take, Some}
use Rattle.ann_types.specs.declared.entry.Entry.{Entry}
use Rattle.ann_disk.specs.File.{Cut}
use Rattle.ann_disk.specs.declared.file.LogFile.{Ghosts}
use Rattle.ann_frame.specs.Frames.{HaveComponents}
use Rattle.ann_preamble.specs.Preamble.{Said, preamble_of, said_by}
use Rattle.ann_preamble.specs.declared.choice.Side.{Side}
use Rattle.ann_log.specs.Causes.{AreCalm, AreCausedBy}
use Rattle.ann_log.specs.Found.{IsFound, IsUsable, IsRefused, held_in}
use Rattle.ann_log.specs.LogView.{LogView, IsAtRest, HasRoom, choice_of, on_side, off_side, files_in, files_of, held_of}
use Rattle.ann_log.specs.Pairs.{ReadAsBefore}
use Rattle.ann_log.specs.Text.{StandsAt, StandsFor, log_text, said_of, upto_gate}
use Rattle.ann_log.specs.Told.{AreRested, LeaveFiles, MayLeave, HoldSame}
use Rattle.ann_log.specs.declared.files.Files.{Files}
use Rattle.ann_log.specs.declared.read.Found.{Found}
use Rattle.ann_log.specs.declared.refused.OpenWhy.{OpenWhy}
use Rattle.ann_log.specs.declared.refused.OpenWhy.TheVariants.{Disk}
use Rattle.ann_log.specs.declared.room.Room.{Room}

module _ {F : Type 0} (D : Ghosts F) where
  -- what a read gives of the file that is the log, and of the other one
  abbrev pub seen_on : Side → Files F → List ℕ
  seen_on side files = on_side side (D.seen files.first) (D.seen files.second)

  abbrev pub seen_off : Side → Files F → List ℕ
  seen_off side files = off_side side (D.seen files.first) (D.seen files.second)

  -- the log's file was cut behind its last gate, or at some place between; the other one is as it was
  pub record AreCut (old new : Files F) : Type 0 where
    pub side : Side
    pub s : Said
    pub says : preamble_of (seen_on side old) ≡ Some s
    pub is_log : choice_of side s (preamble_of (seen_off side old)) ≡ Some side
    pub cut : Cut (length (upto_gate s (seen_on side old))) (seen_on side old) (seen_on side new)
    pub other : seen_off side new ≡ seen_off side old

  -- What a refusal leaves: both files hold what they held, but after a fault of the cut the log's file may be cut.
  pub record LeavesHeld (old new : Files F) (why : OpenWhy) : Type 0 where
    pub held : (why ≡ Disk → ⊥) → HoldSame D old new
    pub cut : HoldSame D old new ⊎ AreCut old new

  -- A log was opened, with this list.
  pub record IsOpened (old : Files F) (log : LogView F) (list : List Entry) : Type 0 where
    -- the files stood for what it holds, at its generation
    pub held : D.tells → StandsAt log.generation (held_of log) (D.seen old.first) (D.seen old.second)
    pub entries : D.tells → list ≡ log.list
    pub count : log.count ≡ length list
    pub components : HaveComponents log.params.d list
    pub is_open : log.is_closed ≡ false
    -- what stood behind the last gate of the log's file was cut off, and the other file is as it was
    pub cut : D.tells → D.seen log.log ≡ upto_gate (said_of (held_of log) log.generation) (seen_on log.side old)
    pub other : D.tells → D.seen log.other ≡ seen_off log.side old
    -- a crash during the call leaves files that read as a crash before it might have left them
    pub during : LeaveFiles D old (files_of log) (ReadAsBefore (D.unsynced old.first) (D.unsynced old.second))
    -- and a crash after it leaves what the log holds
    pub after : MayLeave D (files_of log) (StandsFor (held_of log))
    pub calm : AreCalm D old (files_of log)

  -- A log wasn't opened.
  pub record IsNotOpened (old new : Files F) (why : OpenWhy) : Type 0 where
    -- a refusal by the bytes is what they say
    pub refused : D.tells → IsRefused (log_text (D.seen old.first) (D.seen old.second)) why
    pub left : D.tells → LeavesHeld old new why
    pub during : LeaveFiles D old new (ReadAsBefore (D.unsynced old.first) (D.unsynced old.second))
    pub cause : AreCausedBy D old new (why ≡ Disk)

  -- What was found in files at rest, and room for writing.
  pub record IsPrepared (old new : Files F) (it : Found) (space : Room) : Type 0 where
    pub found : D.tells → IsFound (D.seen old.first) (D.seen old.second) it
    pub usable : IsUsable it
    pub room : HasRoom it.preamble.params.d space.frame.items space.preamble.items
    pub rest : D.tells → IsAtRest it.side (said_by it.preamble) (seen_on it.side new) (seen_off it.side new)
        (on_side it.side (D.unsynced new.first) (D.unsynced new.second)) (off_side it.side (D.unsynced new.first) (D.unsynced new.second))
        it.frames.gate it.frames.entries
    pub cut : D.tells → seen_on it.side new ≡ upto_gate (said_by it.preamble) (seen_on it.side old)
    pub other : D.tells → seen_off it.side new ≡ seen_off it.side old
    pub calm : AreCalm D old new

  -- What was found in files at rest, of which the first is the log, and room for writing.
  pub record StartsFrom (log other : F) (found : Found) (space : Room) : Type 0 where
    pub usable : IsUsable found
    pub room : HasRoom found.preamble.params.d space.frame.items space.preamble.items
    pub rest : D.tells → IsAtRest found.side (said_by found.preamble) (D.seen log) (D.seen other) (D.unsynced log) (D.unsynced other) found.frames.gate found.frames.entries

  -- The log that was found.
  pub record HasStarted (one two : F) (found : Found) (it : LogView F) (list : List Entry) : Type 0 where
    pub files : files_of it ≡ files_in found.side one two
    pub side : it.side ≡ found.side
    pub log : it.log ≡ one
    pub other : it.other ≡ two
    pub held : D.tells → held_of it ≡ held_in found
    pub params : it.params ≡ found.preamble.params
    pub generation : it.generation ≡ found.preamble.generation
    pub after : MayLeave D (files_of it) (StandsFor (held_of it))
    pub entries : list ≡ found.frames.entries
    pub count : it.count ≡ length list
    pub is_open : it.is_closed ≡ false

  -- The log's file was cut to this length, and the other one is as it was.
  pub record HasCutLog (side : Side) (to : ℕ) (old new : Files F) : Type 0 where
    pub cut : D.tells → seen_on side new ≡ take to (seen_on side old)
    pub other : D.tells → seen_off side new ≡ seen_off side old
    pub rest : AreRested D new
