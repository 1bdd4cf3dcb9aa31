-- What a caller sees of claims: which object it is, and what each claimer has drawn.
use Rattle.std.specs.Prelude.{◌≡◌, ℕ, ◌+◌, ◌==◌, Bool, false, max, nat_lt, if◌then◌else◌, List, [], ◌∷◌, ◌++◌}
use Rattle.atomic_table.specs.Seated.{TableId}

-- one object: its word, how many numbers are drawn from it, and how many claimers it has
pub record Lot : Type 0 where
  pub table_id : TableId
  pub numbers : ℕ
  pub seats : ℕ

abbrev pub lot_of : TableId → ℕ → ℕ → Lot
lot_of table_id numbers seats = record { table_id = table_id; numbers = numbers; seats = seats }

-- a claimer of one object, the numbers that it has drawn, in order, and whether it was told that there are no more
pub record Drawer : Type 0 where
  pub lot : Lot
  pub drawn : List ℕ
  pub ended : Bool

-- a claimer that has drawn nothing yet
abbrev pub newcomer_of : Lot → Drawer
newcomer_of lot = record { lot = lot; drawn = []; ended = false }

-- how often x stands in the list
abbrev pub times : ℕ → List ℕ → ℕ
times x [] = 0
times x (y ∷ ys) = (if y == x then 1 else 0) + times x ys

-- 1 for a number below n, and else 0
abbrev pub once_below : ℕ → ℕ → ℕ
once_below x n = if nat_lt x n then 1 else 0

-- each number below n stands in the list once, and no other number does
abbrev pub IsEachOnce : ℕ → List ℕ → Type 0
IsEachOnce n xs = (x : ℕ) → times x xs ≡ once_below x n

-- the least number above all in the list
abbrev pub least_above : List ℕ → ℕ
least_above [] = 0
least_above (y ∷ ys) = max (y + 1) (least_above ys)

-- all that the claimers have drawn, one claimer after the other
abbrev pub all_drawn : List Drawer → List ℕ
all_drawn [] = []
all_drawn (c ∷ cs) = c.drawn ++ all_drawn cs
