-- Frames: entries behind an open gate. A gate is one byte, and it is open where it is 1. Behind an open gate stand the
-- length of the entries in bytes, and the entries.
use Rattle.std.specs.Prelude.{◌≡◌, ℕ, ◌<◌, ◌^◌, List, ◌∷◌, ◌++◌, length, flat_map}
use Rattle.std.specs.List.{AllByRecursion}
use Rattle.ann_bytes.specs.LittleEndian.{bytes_of}
use Rattle.ann_types.specs.declared.entry.Entry.{Entry}
use Rattle.ann_entry.specs.EntryBytes.{IsEntry, HasComponents, entries_bytes}

-- entries whose vectors have d components
abbrev pub AreEntries : ℕ → List Entry → Type 0
AreEntries d entries = AllByRecursion (IsEntry d) entries

-- where these entries have vectors, they have d components
abbrev pub HaveComponents : ℕ → List Entry → Type 0
HaveComponents d entries = AllByRecursion (HasComponents d) entries

-- what entries a frame has: at least one, and no more than its length can say
pub record IsFrame (d : ℕ) (entries : List Entry) : Type 0 where
  pub each : AreEntries d entries
  pub some : 0 < length entries
  pub short : length (entries_bytes entries) < 2 ^ 32

-- the bytes of a frame, without its gates
abbrev pub frame_bytes : List Entry → List ℕ
frame_bytes entries = bytes_of 4 (length (entries_bytes entries)) ++ entries_bytes entries

-- the bytes of frames, each behind an open gate
abbrev pub frames_bytes : List (List Entry) → List ℕ
frames_bytes frames = flat_map (λ frame. 1 ∷ frame_bytes frame) frames

-- the entries of frames, in order
abbrev pub entries_of : List (List Entry) → List Entry
entries_of frames = flat_map (λ frame. frame) frames

-- the bytes are those of whole frames, which have these entries
pub record AreFrames (d : ℕ) (bytes : List ℕ) (entries : List Entry) : Type 0 where
  pub frames : List (List Entry)
  pub each : AllByRecursion (IsFrame d) frames
  pub spelled : bytes ≡ frames_bytes frames
  pub joined : entries ≡ entries_of frames
