-- The entries of a log as bytes: a kind, who made the entry, and what its kind has besides.
use Rattle.std.specs.Prelude.{◌≡◌, ℕ, ◌<◌, ◌^◌, List, ◌∷◌, ◌++◌, length, flat_map}
use Rattle.ann_bytes.specs.LittleEndian.{bytes_of}
use Rattle.ann_types.specs.declared.entry.Entry.{Entry}
use Rattle.ann_types.specs.declared.entry.Entry.TheVariants.{Insert, Delete, Begin, End, Replace}

-- the numbers of an entry are in the ranges of their fields
abbrev pub IsInRange : Entry → Type 0
IsInRange (Insert by tag vector) = (by < 2 ^ 32) × (tag < 2 ^ 64)
IsInRange (Delete by tag) = (by < 2 ^ 32) × (tag < 2 ^ 64)
IsInRange (Begin by) = by < 2 ^ 32
IsInRange (End by segment) = (by < 2 ^ 32) × (segment < 2 ^ 64)
IsInRange (Replace by tag vector) = (by < 2 ^ 32) × (tag < 2 ^ 64)

-- where an entry has a vector, it has d components
abbrev pub HasComponents : ℕ → Entry → Type 0
HasComponents d (Insert by tag vector) = length vector ≡ d
HasComponents d (Delete by tag) = Unit {0}
HasComponents d (Begin by) = Unit {0}
HasComponents d (End by segment) = Unit {0}
HasComponents d (Replace by tag vector) = length vector ≡ d

-- what an entry is whose vectors have d components
pub record IsEntry (d : ℕ) (entry : Entry) : Type 0 where
  pub numbers : IsInRange entry
  pub components : HasComponents d entry

-- the bytes of an entry
unfoldable pub entry_bytes : Entry → List ℕ
entry_bytes (Insert by tag vector) = 1 ∷ bytes_of 4 by ++ bytes_of 8 tag ++ vector
entry_bytes (Delete by tag) = 2 ∷ bytes_of 4 by ++ bytes_of 8 tag
entry_bytes (Begin by) = 3 ∷ bytes_of 4 by
entry_bytes (End by segment) = 4 ∷ bytes_of 4 by ++ bytes_of 8 segment
entry_bytes (Replace by tag vector) = 5 ∷ bytes_of 4 by ++ bytes_of 8 tag ++ vector

-- the bytes of entries, one behind the other
abbrev pub entries_bytes : List Entry → List ℕ
entries_bytes entries = flat_map entry_bytes entries
