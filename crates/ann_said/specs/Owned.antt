-- The entries of a list past a beginning of it, each at its position, and whose they are.
use Rattle.std.specs.Prelude.{◌≡◌, ℕ, ◌+◌, ◌==◌, max, List, [], ◌∷◌, map, filter, drop, length}
use Rattle.ann_types.specs.Lists.{BasedList, length_of}
use Rattle.ann_types.specs.declared.entry.Entry.{Entry}
use Rattle.ann_types.specs.declared.entry.Entry.TheVariants.{Insert, Delete, Begin, End, Replace}

-- an entry at its position
pub record Placed : Type 0 where
  pub position : ℕ
  pub entry : Entry

-- entries side by side, the first of them at this position
abbrev pub placed_from : ℕ → List Entry → List Placed
placed_from position [] = []
placed_from position (e ∷ es) = record { position = position; entry = e } ∷ placed_from (position + 1) es

-- the client who made an entry
abbrev pub by_of : Entry → ℕ
by_of (Insert by tag vector) = by
by_of (Delete by tag) = by
by_of (Begin by) = by
by_of (End by segment) = by
by_of (Replace by tag vector) = by

-- the entries of h past h0, and those of them that are this client's
abbrev pub past : BasedList → BasedList → List Placed
past h0 h = placed_from (length_of h0) (drop (length h0.entries) h.entries)

abbrev pub own : BasedList → BasedList → ℕ → List Placed
own h0 h client = filter (λ (p : Placed). by_of p.entry == client) (past h0 h)

-- the entries alone
abbrev pub entries_of : List Placed → List Entry
entries_of ps = map (λ (p : Placed). p.entry) ps

-- how long a prefix of the list must be to have all of these: one past the last position
abbrev pub reach : List Placed → ℕ
reach [] = 0
reach (p ∷ ps) = max (p.position + 1) (reach ps)

-- they stand side by side
pub record StandTogether (ps : List Placed) : Type 0 where
  pub first : ℕ
  pub are : ps ≡ placed_from first (entries_of ps)

-- they are these entries, side by side, at the positions up to n - 1
pub record EndAt (entries : List Entry) (n : ℕ) (ps : List Placed) : Type 0 where
  pub first : ℕ
  pub are : ps ≡ placed_from first entries
  pub end : first + length entries ≡ n
