-- What reading two files finds.
use Rattle.std.specs.Prelude.{◌≡◌, ℕ, ◌+◌, ◌-◌, ◌*◌, ◌^◌, ◌<◌, ◌≤◌, List, length, drop, Some}
use Rattle.ann_preamble.specs.Preamble.{Said, said_by, preamble_of}
use Rattle.ann_frame.specs.Frames.{HaveComponents}
use Rattle.ann_frame.specs.Text.{StandFor}
use Rattle.ann_frame.specs.declared.reading.Frames.{Frames}
use Rattle.ann_frame.specs.declared.frames_refused.FramesRefused.{FramesRefused}
use Rattle.ann_frame.specs.declared.frames_refused.FramesRefused.TheVariants as framed
use Rattle.ann_disk.specs.declared.file.LogFile.{Ghosts}
use Rattle.ann_log.specs.LogView.{IsSaid, choice_of, on_side, off_side}
use Rattle.ann_log.specs.Text.{Held, LogText, no_index, bad_log, first_gate, log_text}
use Rattle.ann_log.specs.declared.files.Files.{Files}
use Rattle.ann_log.specs.declared.read.Found.{Found}
use Rattle.ann_log.specs.declared.refused.OpenWhy.{OpenWhy}
use Rattle.ann_log.specs.declared.refused.OpenWhy.TheVariants.{NoIndex, BadLog, Disk, Memory}

-- the bytes are a preamble, frames with these entries, and a gate that isn't open at this place
pub record IsFoundIn (bytes : List ℕ) (s : Said) (frames : Frames) (end : ℕ) : Type 0 where
  pub says : preamble_of bytes ≡ Some s
  pub sound : IsSaid s
  pub stands : StandFor s.fields.d (drop (first_gate s) bytes) frames.entries (frames.gate - first_gate s)
  pub place : first_gate s ≤ frames.gate
  pub inside : frames.gate < end
  pub end_is : end ≡ length bytes

-- one of two files is the log, and this is in it
pub record IsFound (first second : List ℕ) (found : Found) : Type 0 where
  pub is_log : choice_of found.side (said_by found.preamble) (preamble_of (off_side found.side first second)) ≡ Some found.side
  pub in_file : IsFoundIn (on_side found.side first second) (said_by found.preamble) found.frames found.end

-- what the log in it holds
abbrev pub held_in : Found → Held
held_in found = record { params = found.preamble.params; book = found.preamble.book; base = found.preamble.base; entries = found.frames.entries }

-- what is known of it whatever the files tell
pub record IsUsable (found : Found) : Type 0 where
  pub said : IsSaid (said_by found.preamble)
  pub inside : found.frames.gate < found.end
  pub components : HaveComponents found.preamble.params.d found.frames.entries
  pub few : 5 * length found.frames.entries ≤ found.frames.gate

-- the refusal is what the files stand for, or a fault or want of memory
abbrev pub IsRefused : LogText → OpenWhy → Type 0
IsRefused text NoIndex = text ≡ no_index
IsRefused text (BadLog entry) = text ≡ bad_log entry
IsRefused text Disk = Unit {0}
IsRefused text Memory = Unit {0}

-- the refusal of frames behind a base at this position
abbrev pub refusal_of : ℕ → FramesRefused → OpenWhy
refusal_of position (framed.Bad entry) = BadLog (position + entry)
refusal_of position framed.Memory = Memory

-- the position of the entry at fault fits a number of 64 bits
abbrev pub IsInReach : ℕ → FramesRefused → Type 0
IsInReach position (framed.Bad entry) = position + entry < 2 ^ 64
IsInReach position framed.Memory = Unit {0}

module _ {F : Type 0} (D : Ghosts F) where
  -- what was found in two files
  pub record HasFound (files : Files F) (it : Found) : Type 0 where
    pub found : D.tells → IsFound (D.seen files.first) (D.seen files.second) it
    pub usable : IsUsable it

  -- the refusal is what the files stand for, or a fault or want of memory
  abbrev pub IsRefusedFor : Files F → OpenWhy → Type 0
  IsRefusedFor files why = D.tells → IsRefused (log_text (D.seen files.first) (D.seen files.second)) why
