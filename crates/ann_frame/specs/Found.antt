-- What reading finds.
use Rattle.std.specs.Prelude.{◌≡◌, ℕ, ◌+◌, ◌<◌, ◌≤◌, List, ◌++◌, length, drop}
use Rattle.ann_types.specs.declared.entry.Entry.{Entry}
use Rattle.ann_entry.specs.EntryBytes.{entries_bytes}
use Rattle.ann_frame.specs.Frames.{AreEntries, IsFrame, frame_bytes}
use Rattle.ann_frame.specs.Text.{IsBroken, IsBadAt}
use Rattle.ann_frame.specs.declared.frames_refused.FramesRefused.{FramesRefused}
use Rattle.ann_frame.specs.declared.frames_refused.FramesRefused.TheVariants.{Bad, Memory}

-- entries that stand at the front of the bytes were added, and end at the place
pub record HasEntries (d : ℕ) (bytes : List ℕ) (place : ℕ) (before after : List Entry) : Type 0 where
  pub entries : List Entry
  pub each : AreEntries d entries
  pub added : after ≡ before ++ entries
  pub begins : bytes ≡ entries_bytes entries ++ drop place bytes
  pub within : place ≤ length bytes

-- the entries of the whole frame at the front were added, and the gate behind it is at the place
pub record HasFrame (d : ℕ) (tail : List ℕ) (place : ℕ) (before after : List Entry) : Type 0 where
  pub entries : List Entry
  pub frame : IsFrame d entries
  pub added : after ≡ before ++ entries
  pub begins : tail ≡ frame_bytes entries ++ drop place tail
  pub size : place ≡ length (frame_bytes entries)
  pub within : place < length tail

-- the frame behind so many entries is refused
abbrev pub IsRefusedFrame : ℕ → List ℕ → ℕ → FramesRefused → Type 0
IsRefusedFrame d tail before (Bad entry) = (within : ℕ) × IsBroken d tail within × (entry ≡ before + within)
IsRefusedFrame d tail before Memory = Unit {0}

-- the frames are refused
abbrev pub AreRefused : ℕ → List ℕ → FramesRefused → Type 0
AreRefused d bytes (Bad entry) = IsBadAt d bytes entry
AreRefused d bytes Memory = Unit {0}
