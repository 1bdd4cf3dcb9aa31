-- What is seen of the candidates of a prune.
use Rattle.std.specs.Prelude.{◌≡◌, ◌≤◌, ◌<◌, ◌+◌, ℕ, List, [], length, All}
use Rattle.ann_types.specs.Kept.{Rule}
use Rattle.ann_types.specs.Kept.{kept as kept_of}

-- the rows in the order in which they were added, and the room for more
pub record Gathered : Type 0 where
  pub rows : List ℕ
  pub room : ℕ

-- a point and its candidates are rows
pub record AreRows (size p : ℕ) (rows : List ℕ) : Type 0 where
  pub own : p < size
  pub others : All (λ row. row < size) rows

-- a prune of candidates was made: these are the kept ones, in ascending order, and the candidates are empty, with room for
-- as many
pub record IsPruned (rule : Rule) (apart : ℕ → ℕ → ℕ) (p : ℕ) (old new : Gathered) (out : List ℕ) : Type 0 where
  pub kept : out ≡ kept_of rule apart p old.rows
  pub emptied : new.rows ≡ []
  pub room : old.room + length old.rows ≤ new.room
