-- One file of a log while it is written anew.
use Rattle.std.specs.Prelude.{◌≡◌, ◌⊎◌, ◌<◌, ◌≤◌, ◌+◌, ◌-◌, ◌^◌, ℕ, List, [], ◌∷◌, ◌++◌, length, take, drop, ◌≢◌, ◌*◌, None, Some, slice_index_or}
use Rattle.std.specs.List.{AllByRecursion}
use Rattle.ann_types.specs.declared.params.Params.{Params}
use Rattle.ann_types.specs.declared.entry.Entry.{Entry}
use Rattle.ann_disk.specs.Image.{Unsynced, IsFree}
use Rattle.ann_disk.specs.File.{BeginsAnImage}
use Rattle.ann_frame.specs.Frames.{IsFrame, AreFrames, HaveComponents, frame_bytes, frames_bytes, entries_of}
use Rattle.ann_pq.specs.Codebook.{CodebookView}
use Rattle.ann_preamble.specs.declared.base.Base.{Base}
use Rattle.ann_preamble.specs.Preamble.{Said, preamble_of}
use Rattle.ann_preamble.specs.Written.{preamble_bytes}
use Rattle.ann_disk.specs.declared.file.LogFile.{Ghosts}
use Rattle.ann_log.specs.Text.{Held, first_gate, said_of}
use Rattle.ann_log.specs.Told.{IsSynced, Leaves}

-- the bytes have no preamble
abbrev pub IsUnmade : List ℕ → Type 0
IsUnmade bytes = preamble_of bytes ≡ None

-- The made byte was 0 at the last sync, and no write has covered it since.
pub record StaysShut (u : Unsynced) : Type 0 where
  pub there : 0 < length u.kept
  pub shut : slice_index_or u.kept 0 0 ≡ 0
  pub free : IsFree u.covered 0

-- each frame but the last has 64 entries, and the last has no more
abbrev pub AreFull : List (List Entry) → Type 0
AreFull [] = Unit {0}
AreFull (frame ∷ []) = length frame ≤ 64
AreFull (frame ∷ next ∷ frames) = (length frame ≡ 64) × AreFull (next ∷ frames)

-- the bytes are those of full frames, which have these entries
pub record AreTail (d : ℕ) (bytes : List ℕ) (entries : List Entry) : Type 0 where
  pub frames : List (List Entry)
  pub each : AllByRecursion (IsFrame d) frames
  pub full : AreFull frames
  pub spelled : bytes ≡ frames_bytes frames
  pub joined : entries ≡ entries_of frames

-- so many bytes of some, then the frames of a tail, and a last gate 0, which stands at the place
pub record HoldsTail (tells : Type 0) (d : ℕ) (start : ℕ) (old : List ℕ) (tail : List Entry) (gate : ℕ) (seen : List ℕ) : Type 0 where
  pub frames : List ℕ
  pub are : AreTail d frames tail
  pub place : gate ≡ start + length frames
  pub end : gate + 1 < 2 ^ 64
  pub file : tells → seen ≡ take start old ++ frames ++ 0 ∷ []

-- a made byte 0, some bytes, and a gate 0
abbrev pub IsHead : List ℕ → Type 0
IsHead bytes = (fields : List ℕ) × (bytes ≡ 0 ∷ fields ++ 0 ∷ [])

-- bytes with an open made byte in place of theirs
abbrev pub opened : List ℕ → List ℕ
opened bytes = 1 ∷ drop 1 bytes

-- no preamble, or these bytes
abbrev pub IsUnmadeOr : List ℕ → List ℕ → Type 0
IsUnmadeOr whole bytes = IsUnmade bytes ⊎ (bytes ≡ whole)

-- the front of what might have been left before, or no preamble
abbrev pub IsFrontOrUnmade : Unsynced → List ℕ → Type 0
IsFrontOrUnmade before bytes = BeginsAnImage before bytes ⊎ IsUnmade bytes

-- the bytes of this head with an open made byte, and the frames of a tail
abbrev pub IsWhole : ℕ → List ℕ → List Entry → List ℕ → Type 0
IsWhole d head tail bytes = (gate : ℕ) × HoldsTail (Unit {0}) d (length head - 1) (opened head) tail gate bytes

-- no preamble, or these
abbrev pub IsUnmadeOrWhole : ℕ → List ℕ → List Entry → List ℕ → Type 0
IsUnmadeOrWhole d head tail bytes = IsUnmade bytes ⊎ IsWhole d head tail bytes

-- the front of what might have been left before, no preamble, or these
abbrev pub IsFrontOrWhole : Unsynced → ℕ → List ℕ → List Entry → List ℕ → Type 0
IsFrontOrWhole before d head tail bytes = BeginsAnImage before bytes ⊎ IsUnmadeOrWhole d head tail bytes

-- ---- by what it says

-- a preamble that says s, frames with these entries, and a gate that isn't open
pub record IsText (s : Said) (entries : List Entry) (bytes : List ℕ) : Type 0 where
  pub head : List ℕ
  pub front : List ℕ
  pub shown : ℕ
  pub spelled : bytes ≡ head ++ (front ++ shown ∷ [])
  pub place : length head ≡ first_gate s
  pub frames : AreFrames s.fields.d front entries
  pub shut : shown ≢ 1
  pub says : preamble_of bytes ≡ Some s

-- the file is such a text, and its last gate stands at this place
pub record HoldsText (tells : Type 0) (s : Said) (entries : List Entry) (gate : ℕ) (seen : List ℕ) : Type 0 where
  pub text : tells → IsText s entries seen
  pub last : tells → gate + 1 ≡ length seen
  pub end : gate + 1 < 2 ^ 64
  pub few : 5 * length entries ≤ gate

-- no preamble, or such a text
abbrev pub IsUnmadeOrText : Said → List Entry → List ℕ → Type 0
IsUnmadeOrText s entries bytes = IsUnmade bytes ⊎ IsText s entries bytes

-- the front of what might have been left before, no preamble, or such a text
abbrev pub IsFrontOrText : Unsynced → Said → List Entry → List ℕ → Type 0
IsFrontOrText before s entries bytes = BeginsAnImage before bytes ⊎ IsUnmadeOrText s entries bytes

-- what a log holds with these
abbrev pub held_in : Params → CodebookView → Base → List Entry → Held
held_in params book base entries = record { params = params; book = book; base = base; entries = entries }

-- The bytes of a file that was written anew: a preamble with an open made byte, the frames of the entries, each behind an
-- open gate, and a last gate 0. The first of these gates ends the preamble.
pub record IsWritten (held : Held) (generation : ℕ) (bytes : List ℕ) : Type 0 where
  pub frames : List ℕ
  pub are : AreTail held.params.d frames held.entries
  pub first : ℕ
  pub rest : List ℕ
  pub gates : frames ++ 0 ∷ [] ≡ first ∷ rest
  pub spelled : bytes ≡ preamble_bytes 1 held.params generation held.base held.book.bytes first ++ rest

-- ---- the steps

-- the fields of a head, the entries behind it, and room for a frame
pub record CanFill (bytes : List ℕ) (tail : List Entry) (d : ℕ) (frame : List ℕ) : Type 0 where
  pub head : IsHead bytes
  pub each : HaveComponents d tail
  pub room : length frame ≡ 837 + 64 * d

module _ {F : Type 0} (D : Ghosts F) where
  -- the file is a made byte that isn't open, and that is on the disk
  pub record IsCleared (file : F) : Type 0 where
    pub cleared : D.tells → D.seen file ≡ 0 ∷ []
    pub rest : IsSynced D file

  -- a frame of these entries can be put behind the file's last byte, a gate, while the made byte stays shut
  pub record CanPut (gate : ℕ) (entries : List Entry) (d : ℕ) (frame : List ℕ) (file : F) : Type 0 where
    pub place : D.tells → length (D.seen file) ≡ gate + 1
    pub behind : (1 ≤ gate) × (gate + 1 < 2 ^ 64)
    pub shut : D.tells → StaysShut (D.unsynced file)
    pub few : length entries ≤ 64
    pub each : HaveComponents d entries
    pub room : length frame ≡ 837 + 64 * d

  -- it stands there, behind an open gate, and the gate behind it is at the next place
  pub record HasPut (gate : ℕ) (entries : List Entry) (old new : F) (next : ℕ) : Type 0 where
    pub file : D.tells → D.seen new ≡ take gate (D.seen old) ++ 1 ∷ frame_bytes entries ++ 0 ∷ []
    pub place : next ≡ gate + (1 + length (frame_bytes entries))
    pub end : next + 1 < 2 ^ 64

  -- nothing was synced, and the made byte stays shut
  pub record IsStillShut (old new : F) : Type 0 where
    pub past : D.tells → D.past new ≡ D.past old
    pub shut : D.tells → StaysShut (D.unsynced new)

  -- a tail can be put behind the file's last byte, a gate 0
  pub record CanPutTail (gate : ℕ) (tail : List Entry) (d : ℕ) (frame : List ℕ) (file : F) : Type 0 where
    pub last : D.tells → D.seen file ≡ take gate (D.seen file) ++ 0 ∷ []
    pub behind : (1 ≤ gate) × (gate + 1 < 2 ^ 64)
    pub shut : D.tells → StaysShut (D.unsynced file)
    pub each : HaveComponents d tail
    pub room : length frame ≡ 837 + 64 * d

  -- the file is so many bytes of this head and the frames of a tail, all on the disk, and its last gate stands at the place
  pub record IsFilled (d : ℕ) (start : ℕ) (head : List ℕ) (tail : List Entry) (file : F) (gate : ℕ) : Type 0 where
    pub held : HoldsTail D.tells d start head tail gate (D.seen file)
    pub rest : IsSynced D file

  -- what a call leaves that writes a file anew with this head and tail
  pub record LeavesWhole (d : ℕ) (head : List ℕ) (tail : List Entry) (old new : F) : Type 0 where
    -- a crash meanwhile leaves the front of what it might have left before, no preamble, or all of this
    pub during : Leaves D old new (IsFrontOrWhole (D.unsynced old) d head tail)
    -- where a read gave no preamble it gives none, or all of this
    pub read : D.tells → IsUnmade (D.seen old) → IsUnmadeOrWhole d head tail (D.seen new)

  -- the file was written anew with what is held, and its last gate stands at the place
  pub record HasWritten (held : Held) (generation : ℕ) (file : F) (gate : ℕ) : Type 0 where
    pub text : HoldsText D.tells (said_of held generation) held.entries gate (D.seen file)
    pub written : D.tells → IsWritten held generation (D.seen file)
    pub rest : IsSynced D file

  -- what a call leaves that writes it
  pub record LeavesText (held : Held) (generation : ℕ) (old new : F) : Type 0 where
    -- a crash meanwhile leaves the front of what it might have left before, no preamble, or this text
    pub during : Leaves D old new (IsFrontOrText (D.unsynced old) (said_of held generation) held.entries)
    -- where a read gave no preamble it gives none, or this text
    pub read : D.tells → IsUnmade (D.seen old) → IsUnmadeOrText (said_of held generation) held.entries (D.seen new)
