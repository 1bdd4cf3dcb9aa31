-- What appending a frame leaves.
use Rattle.std.specs.Prelude.{◌≡◌, ◌⊎◌, ℕ, ◌+◌, ◌-◌, ◌<◌, ◌≤◌, ◌^◌, List, [], ◌∷◌, ◌++◌, length, take}
use Rattle.ann_fault.specs.Counts.{next_count}
use Rattle.ann_types.specs.declared.entry.Entry.{Entry}
use Rattle.ann_disk.specs.declared.file.LogFile.{Ghosts}
use Rattle.ann_frame.specs.Frames.{HaveComponents, frame_bytes}
use Rattle.ann_log.specs.LogView.{LogView, files_of, held_of, extended}
use Rattle.ann_log.specs.Text.{StandsFor}
use Rattle.ann_log.specs.Told.{IsSynced, MayLeave}

-- entries that a frame takes
pub record FitFrame (d : ℕ) (entries : List Entry) : Type 0 where
  pub some : 1 ≤ length entries
  pub few : length entries ≤ 64
  pub components : HaveComponents d entries

-- the file is as before up to its gate, or it has the frame behind some gate
abbrev pub MayHold : ℕ → List ℕ → List ℕ → List ℕ → Type 0
MayHold gate old frame image = ((rest : List ℕ) × (image ≡ old ++ rest)) ⊎ ((shown : ℕ) × (image ≡ take gate old ++ shown ∷ frame))

-- bytes whose last one is a gate, with that gate open, and one frame of these entries and a gate 0 behind it
abbrev pub with_frame : List ℕ → List Entry → List ℕ
with_frame bytes entries = take (length bytes - 1) bytes ++ 1 ∷ (frame_bytes entries ++ 0 ∷ [])

-- all but the log's file, its entries and whether it is closed is as it was
pub record IsSameLog {F : Type 0} (old new : LogView F) : Type 0 where
  pub other : new.other ≡ old.other
  pub side : new.side ≡ old.side
  pub params : new.params ≡ old.params
  pub book : new.book ≡ old.book
  pub base : new.base ≡ old.base
  pub generation : new.generation ≡ old.generation

module _ {F : Type 0} (D : Ghosts F) where
  -- the file ends with a gate at this place, and all of it is on the disk
  pub record EndsAtGate (gate : ℕ) (file : F) : Type 0 where
    pub place : D.tells → gate + 1 ≡ length (D.seen file)
    pub rest : IsSynced D file
    pub end : gate + 1 < 2 ^ 64

  -- the bytes of a frame were stored behind that gate, and the gate was opened
  pub record HasStored (gate : ℕ) (frame : List ℕ) (old new : F) : Type 0 where
    pub stored : D.tells → D.seen new ≡ take gate (D.seen old) ++ 1 ∷ frame
    pub rest : IsSynced D new
    pub end : gate + 1 + length frame < 2 ^ 64

  -- The log has these entries too.
  pub record HasAppended (old : LogView F) (entries : List Entry) (new : LogView F) : Type 0 where
    pub appended : D.tells → held_of new ≡ extended (held_of old) entries
    pub count : new.count ≡ old.count + length entries
    -- they stand in one frame
    pub stored : D.tells → D.seen new.log ≡ with_frame (D.seen old.log) entries
    -- a crash after the call leaves them
    pub after : MayLeave D (files_of new) (StandsFor (held_of new))
    pub calm : D.faults new.log ≡ D.faults old.log

  -- The log has what it had, and a call of its file failed.
  pub record HasNotAppended (old new : LogView F) : Type 0 where
    pub kept : D.tells → held_of new ≡ held_of old
    pub count : new.count ≡ old.count
    pub fault : D.faults new.log ≡ next_count (D.faults old.log)
