-- The rows of a table, and the graph that they make.
use Rattle.std.specs.Prelude.{ℕ, List, [], ◌∷◌, Option, Some, None, map, length, get_or, slice_set}
use Rattle.ann_types.specs.Distance.{distance}
use Rattle.ann_types.specs.Graph.{Point, Graph}
use Rattle.ann_types.specs.declared.params.Params.{Params}
use Rattle.ann_greedy.specs.Rows.{Rows}

-- a point in its row: its number, the client's name for it, its vector, the rows of its neighbours, and a row
-- below which none of its neighbours leaves out a later one
pub record Node : Type 0 where
  pub pid : ℕ
  pub tag : ℕ
  pub vector : List ℕ
  pub links : List ℕ
  pub newer : ℕ

-- a node of whose neighbours nothing is known
abbrev pub new_node : ℕ → ℕ → List ℕ → List ℕ → Node
new_node pid tag vector links = record { pid = pid; tag = tag; vector = vector; links = links; newer = 0 }

-- what stands where there is no row
abbrev pub nothing : Node
nothing = record { pid = 0; tag = 0; vector = []; links = []; newer = 0 }

abbrev pub node_at : List Node → ℕ → Node
node_at nodes row = get_or nodes row nothing

-- ---- what a walk and a prune see of the rows

abbrev pub first_row : List Node → Option ℕ
first_row [] = None
first_row (x ∷ nodes) = Some 0

abbrev pub rows_of : Params → List Node → Rows
rows_of params nodes = record {
  count = length nodes;
  width = params.d;
  start = first_row nodes;
  vector = λ row. (node_at nodes row).vector;
  links = λ row. (node_at nodes row).links;
}

-- how far two rows are from each other
abbrev pub apart_rows : List Node → ℕ → ℕ → ℕ
apart_rows nodes x y = distance (node_at nodes x).vector (node_at nodes y).vector

-- ---- the graph by Pids

abbrev pub row_pids : List Node → List ℕ
row_pids nodes = map (λ x. x.pid) nodes

-- the Pid of a row
abbrev pub row_pid : List Node → ℕ → ℕ
row_pid nodes row = (node_at nodes row).pid

-- a node's point, with the Pids of its neighbours
abbrev pub point_of : List Node → Node → Point
point_of nodes x = record { pid = x.pid; tag = x.tag; vector = x.vector; links = map (row_pid nodes) x.links }

-- the first point is the entry
abbrev pub first_pid : List Node → Option ℕ
first_pid [] = None
first_pid (x ∷ nodes) = Some x.pid

abbrev pub graph_of : List Node → Graph
graph_of nodes = record { entry = first_pid nodes; points = map (point_of nodes) nodes }

-- ---- one row changed

-- the rows with these neighbours of one row
abbrev pub linked : List Node → ℕ → List ℕ → ℕ → List Node
linked nodes row links newer = slice_set nodes row (record (node_at nodes row) { links = links; newer = newer })
