-- What is seen of a frozen graph, and what it keeps of a table.
use Rattle.std.specs.Prelude.{◌≡◌, ℕ, ◌+◌, List, [], ◌∷◌, map, length}
use Rattle.ann_types.specs.declared.params.Params.{Params}
use Rattle.ann_greedy.specs.Rows.{Rows}
use Rattle.ann_table.specs.Node.{Node}

-- the index's parameters, and the rows in order of Pid
pub record FrozenView : Type 0 where
  pub params : Params
  pub nodes : List Node

-- a node without what its last prune left known: its number, name, vector and neighbours
abbrev pub forgotten : Node → Node
forgotten x = record x { newer = 0 }

-- the rows that a frozen graph keeps of a table's
abbrev pub frozen_of : List Node → List Node
frozen_of nodes = map forgotten nodes

-- how many neighbours all rows have together
abbrev pub edges_of : List Node → ℕ
edges_of [] = 0
edges_of (x ∷ nodes) = length x.links + edges_of nodes

-- a walk reads the same in both
pub record AreSameRows (a b : Rows) : Type 0 where
  pub count : a.count ≡ b.count
  pub width : a.width ≡ b.width
  pub start : a.start ≡ b.start
  pub vector : (row : ℕ) → a.vector row ≡ b.vector row
  pub links : (row : ℕ) → a.links row ≡ b.links row
