-- Tables of distances, by which the distance of a query to a code is a sum of one number for each part.
use Rattle.std.specs.Prelude.{◌≡◌, ℕ, ◌+◌, ◌*◌, List, [], ◌∷◌, map, take, drop, length, slice_index_or}
use Rattle.ann_types.specs.Distance.{distance}
use Rattle.ann_types.specs.Codes.{Book}
use Rattle.ann_pq.specs.Codebook.{IsBook}

-- for each part of a query, its distances to the centroids of that part
abbrev pub tables_of : ℕ → Book → List ℕ → List (List ℕ)
tables_of width [] query = []
tables_of width (centroids ∷ book) query = map (distance (take width query)) centroids ∷ tables_of width book (drop width query)

-- the tables are those of this query and this codebook
pub record AreTablesOf (book : Book) (query : List ℕ) (tables : List (List ℕ)) : Type 0 where
  pub width : ℕ
  pub shape : IsBook (length book) width book
  pub long : length query ≡ length book * width
  pub each : tables ≡ tables_of width book query

-- the numbers that a code names in the tables, together
abbrev pub looked_up : List (List ℕ) → List ℕ → ℕ
looked_up [] code = 0
looked_up (table ∷ tables) [] = 0
looked_up (table ∷ tables) (n ∷ code) = slice_index_or table n 0 + looked_up tables code
