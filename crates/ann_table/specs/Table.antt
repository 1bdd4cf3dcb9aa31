-- What is seen of a table, and what is true of every table.
use Rattle.std.specs.Prelude.{◌≡◌, ◌≢◌, ◌≤◌, ◌<◌, ◌+◌, ℕ, List, [], ◌∷◌, length, All}
use Rattle.std.specs.List.Sorted.{IsStrictlyIncreasing}
use Rattle.ann_types.specs.Kept.{rule_of}
use Rattle.ann_types.specs.Legal.{pid_end}
use Rattle.ann_types.specs.Rows.{AreNeighbours}
use Rattle.ann_types.specs.declared.params.Params.{Params}
use Rattle.ann_prune.specs.Newer.{AreSettled}
use Rattle.ann_table.specs.Lists.{Lists}
use Rattle.ann_table.specs.Node.{Node, node_at, row_pids, apart_rows}
use Rattle.ann_table.specs.declared.label.Label.{Label}

-- the index's parameters, the rows in order of Pid, and for how many more there is room
pub record TableView : Type 0 where
  pub params : Params
  pub nodes : List Node
  pub spare : ℕ

-- a node in its row: a vector of d components, neighbours, and of those below `newer` none leaves out a later one
pub record IsNode (params : Params) (nodes : List Node) (row : ℕ) (x : Node) : Type 0 where
  pub vector : length x.vector ≡ params.d
  pub links : AreNeighbours params (length nodes) row x.links
  pub settled : AreSettled (rule_of params) (apart_rows nodes) row x.newer x.links
  pub newer : x.newer ≤ length nodes

-- above all neighbours of a node, and not below its `newer`
pub record ComesLast (neighbour : ℕ) (x : Node) : Type 0 where
  pub above : All (λ other. other < neighbour) x.links
  pub newer : x.newer ≤ neighbour

-- Pids rise with the rows and are below 2^32 - 1, and each row is sound
pub record AreNodes (params : Params) (nodes : List Node) : Type 0 where
  pub rising : IsStrictlyIncreasing (row_pids nodes)
  pub small : All (λ x. x.pid < pid_end) nodes
  pub each : (row : ℕ) → row < length nodes → IsNode params nodes row (node_at nodes row)

-- ---- how a table keeps its rows

-- a node from its label, its vector and its neighbours
abbrev pub node : Label → List ℕ → List ℕ → Node
node x vector links = record { pid = x.pid; tag = x.tag; vector = vector; links = links; newer = x.newer }

abbrev pub nodes_of : List Label → List (List ℕ) → List (List ℕ) → List Node
nodes_of [] vectors links = []
nodes_of (x ∷ labels) [] links = []
nodes_of (x ∷ labels) (v ∷ vectors) [] = []
nodes_of (x ∷ labels) (v ∷ vectors) (ls ∷ links) = node x v ls ∷ nodes_of labels vectors links

-- each row has a label, a vector and neighbours, and each has room for so many more rows
pub record AreStored (params : Params) (spare count room : ℕ) (rows edges : Lists) : Type 0 where
  pub width : rows.places ≡ params.d
  pub places : edges.places ≡ params.r
  pub vectors : length rows.lists ≡ count
  pub links : length edges.lists ≡ count
  pub labels_fit : count + spare ≤ room
  pub vectors_fit : spare ≤ rows.spare
  pub links_fit : spare ≤ edges.spare
