-- The lists of a piece after the Delete phase, by the ranks of the rows that survive.
use Rattle.std.specs.Prelude.{◌*◌, ℕ, Bool, List, map, length}
use Rattle.ann_types.specs.Kept.{rule_of}
use Rattle.ann_types.specs.declared.params.Params.{Params}
use Rattle.ann_mdelete.specs.Loaded.{piece_rows}
use Rattle.ann_mdelete.specs.Rows.{AreRows, left_rows, repaired_rows}
use Rattle.ann_mplan.specs.Packing.{rank_in}

-- what the phase reads of all rows
pub record RepairView : Type 0 where
  pub lists : List (List ℕ)
  pub vectors : List (List ℕ)
  pub gone : List Bool
  pub params : Params

-- its lists are a graph, and each row has a vector and a truth value
abbrev pub MayRepair : RepairView → Type 0
MayRepair rows = AreRows rows.params rows.lists rows.vectors rows.gone

-- the rows that survive
abbrev pub left_in : RepairView → List ℕ
left_in rows = left_rows rows.gone 0 (length rows.gone)

-- the new lists of those that survive among so many rows from one on, by ranks
abbrev pub ranked_rows : RepairView → ℕ → ℕ → List (List ℕ)
ranked_rows rows first count =
    map (map (rank_in (left_in rows))) (repaired_rows (rule_of rows.params) rows.lists rows.vectors rows.gone first count)

-- those of a piece
abbrev pub ranked_piece : RepairView → ℕ → List (List ℕ)
ranked_piece rows number = ranked_rows rows (256 * number) (piece_rows (length rows.lists) (256 * number))
