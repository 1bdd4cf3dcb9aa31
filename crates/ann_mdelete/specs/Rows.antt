-- The Delete phase by rows: points whose Pid is their row, with the decoded vectors and the lists of the rows.
use Rattle.std.specs.Prelude.{◌≡◌, ◌<◌, ℕ, Bool, false, List, [], map, length, filter, get_or, flat_map}
use Rattle.std.specs.List.{range_with_len}
use Rattle.ann_types.specs.Graph.{Point, apart_in}
use Rattle.ann_types.specs.Order.{has}
use Rattle.ann_types.specs.Kept.{Rule}
use Rattle.ann_types.specs.Merge.{without, repaired}
use Rattle.ann_types.specs.Rows.{AreNeighbours}
use Rattle.ann_types.specs.declared.params.Params.{Params}

-- a row as a point
abbrev pub row_point : List (List ℕ) → List (List ℕ) → ℕ → Point
row_point lists vectors row = record { pid = row; tag = 0; vector = get_or vectors row []; links = get_or lists row [] }

abbrev pub by_rows : List (List ℕ) → List (List ℕ) → List Point
by_rows lists vectors = map (row_point lists vectors) (range_with_len 0 (length lists))

-- the deleted rows
abbrev pub gone_rows : List Bool → List ℕ
gone_rows gone = filter (λ row. get_or gone row false) (range_with_len 0 (length gone))

-- the neighbours of the deleted rows of a list, one list after the other
abbrev pub behind : List (List ℕ) → List Bool → List ℕ → List ℕ
behind lists gone list = flat_map (λ row. get_or lists row []) (filter (has (gone_rows gone)) list)

-- lists by row that are a graph
abbrev pub AreLists : Params → List (List ℕ) → Type 0
AreLists params lists = (row : ℕ) → row < length lists → AreNeighbours params (length lists) row (get_or lists row [])

-- the lists are a graph, and each row has a vector and a truth value, whether it is deleted
pub record AreRows (params : Params) (lists vectors : List (List ℕ)) (gone : List Bool) : Type 0 where
  pub graph : AreLists params lists
  pub with_vectors : length vectors ≡ length lists
  pub with_values : length gone ≡ length lists

-- the neighbours of a row that survives
abbrev pub repaired_row : Rule → List (List ℕ) → List (List ℕ) → List Bool → ℕ → List ℕ
repaired_row rule lists vectors gone row =
    let points : List Point = by_rows lists vectors in
    (repaired rule (apart_in points) points (gone_rows gone) (row_point lists vectors row)).links

-- the surviving rows among so many rows from one on, and their new lists
abbrev pub left_rows : List Bool → ℕ → ℕ → List ℕ
left_rows gone first count = without (gone_rows gone) (range_with_len first count)

abbrev pub repaired_rows : Rule → List (List ℕ) → List (List ℕ) → List Bool → ℕ → ℕ → List (List ℕ)
repaired_rows rule lists vectors gone first count = map (repaired_row rule lists vectors gone) (left_rows gone first count)
