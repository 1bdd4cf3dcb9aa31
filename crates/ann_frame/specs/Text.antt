-- What bytes stand for, from a gate on.
use Rattle.std.specs.Prelude.{◌≡◌, ◌≢◌, ◌⊎◌, ℕ, ◌+◌, ◌<◌, ◌≤◌, List, ◌∷◌, ◌++◌, length}
use Rattle.ann_bytes.specs.LittleEndian.{number_of, field}
use Rattle.ann_types.specs.declared.entry.Entry.{Entry}
use Rattle.ann_entry.specs.EntryBytes.{entries_bytes}
use Rattle.ann_entry.specs.Standing.{StandsAt}
use Rattle.ann_frame.specs.Frames.{AreEntries, AreFrames}

-- The entries of the frames up to the first gate that isn't open, and the place of that gate. Whatever stands behind it
-- is ignored.
pub record StandFor (d : ℕ) (bytes : List ℕ) (entries : List Entry) (gate : ℕ) : Type 0 where
  pub front : List ℕ
  pub shown : ℕ
  pub rest : List ℕ
  pub frames : AreFrames d front entries
  pub cut : bytes ≡ front ++ shown ∷ rest
  pub shut : shown ≢ 1
  pub place : gate ≡ length front

-- no entry stands at the front, wholly
abbrev pub NoEntry : ℕ → List ℕ → Type 0
NoEntry d bytes = (entry : Entry) → StandsAt d bytes 0 entry → ⊥

-- the length that a frame gives for its entries
abbrev pub size_of : List ℕ → ℕ
size_of tail = number_of (field tail 0 4)

-- Behind an open gate there is no whole frame with a gate behind it, and so many entries stand within the frame's length
-- and are wholly there: the bytes or the next gate are missing, or the length is 0, or the entries don't fill it.
pub record IsBroken (d : ℕ) (tail : List ℕ) (count : ℕ) : Type 0 where
  pub entries : List Entry
  pub rest : List ℕ
  pub each : AreEntries d entries
  pub begins : field tail 4 (size_of tail) ≡ entries_bytes entries ++ rest
  pub ends : NoEntry d rest
  pub counted : count ≡ length entries
  pub why : (length tail ≤ 4 + size_of tail) ⊎ (size_of tail ≡ 0) ⊎ (0 < length rest)

-- the number of the first entry that isn't wholly there: it counts the entries of the frames before, and those within
-- the first frame that is broken
pub record IsBadAt (d : ℕ) (bytes : List ℕ) (n : ℕ) : Type 0 where
  pub front : List ℕ
  pub tail : List ℕ
  pub entries : List Entry
  pub within : ℕ
  pub frames : AreFrames d front entries
  pub cut : bytes ≡ front ++ 1 ∷ tail
  pub broken : IsBroken d tail within
  pub place : n ≡ length entries + within
