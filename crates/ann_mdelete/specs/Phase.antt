-- What the Delete phase reads, and what it gives.
use Rattle.std.specs.Prelude.{ℕ, List}
use Rattle.ann_types.specs.Kept.{rule_of}
use Rattle.ann_mdelete.specs.Rows.{AreRows, repaired_row, repaired_rows}
use Rattle.ann_mdelete.specs.declared.delete.Phase.{Phase}

-- its lists are a graph, and each row has a vector and a truth value
abbrev pub IsReady : Phase → Type 0
IsReady phase = AreRows phase.params.now phase.lists.now phase.decoded.now phase.gone.now

-- the neighbours of a row that survives
abbrev pub new_list : Phase → ℕ → List ℕ
new_list phase row = repaired_row (rule_of phase.params.now) phase.lists.now phase.decoded.now phase.gone.now row

-- those of each row that survives, of so many rows from one on
abbrev pub new_lists : Phase → ℕ → ℕ → List (List ℕ)
new_lists phase first rows = repaired_rows (rule_of phase.params.now) phase.lists.now phase.decoded.now phase.gone.now first rows
