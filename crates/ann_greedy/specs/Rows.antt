-- A graph by its rows, as a walk reads it.
use Rattle.std.specs.Prelude.{ℕ, List, [], Option, Some, None}
use Rattle.ann_types.specs.Distance.{distance}
use Rattle.ann_types.specs.Walk.{Ground, near, visited_of}

-- how many rows, of vectors of how many components; the row of the entry; each row's vector and neighbours
pub record Rows : Type 0 where
  pub count : ℕ
  pub width : ℕ
  pub start : Option ℕ
  pub vector : ℕ → List ℕ
  pub links : ℕ → List ℕ

-- how far a row is from a query
abbrev pub far_row : Rows → List ℕ → ℕ → ℕ
far_row rows query row = distance query (rows.vector row)

-- what a walk for a query sees from an entry
abbrev pub ground_at : Rows → List ℕ → ℕ → Ground
ground_at rows query entry = record { entry = entry; links = rows.links; far = far_row rows query }

-- Visited of a walk of this width, and Near; without an entry there are none
abbrev pub visited_rows : Rows → List ℕ → ℕ → Option ℕ → List ℕ
visited_rows rows query width None = []
visited_rows rows query width (Some entry) = visited_of (ground_at rows query entry) width rows.count

abbrev pub near_rows : Rows → List ℕ → ℕ → Option ℕ → List ℕ
near_rows rows query width None = []
near_rows rows query width (Some entry) = near (ground_at rows query entry) width (visited_rows rows query width (Some entry))
