-- The nodes of a segment's rows, and the graph that they are.
use Rattle.std.specs.Prelude.{◌≡◌, ◌≤◌, ◌<◌, ◌+◌, ℕ, List, [], ◌∷◌, map, length, get_or}
use Rattle.std.specs.List.{range_with_len, zip}
use Rattle.std.specs.Option.{option_map}
use Rattle.ann_types.specs.Graph.{Point, Graph}
use Rattle.ann_types.specs.Lists.{Names}
use Rattle.ann_types.specs.Rows.{AreNeighbours}
use Rattle.ann_types.specs.declared.params.Params.{Params}
use Rattle.ann_block.specs.Node.{NodeFields}
use Rattle.ann_segment.specs.Directory.{Item, item_of}
use Rattle.ann_segment.specs.Rows.{node_in}
use Rattle.ann_segment.specs.Segment.{SegmentView}

-- the Pid in a row
abbrev pub pid_of : {S : Type 0} → SegmentView S → ℕ → ℕ
pid_of segment row = (item_of segment.items row).0

-- the point of a row's node: its neighbours by Pid
abbrev pub point_in : {S : Type 0} → SegmentView S → ℕ → NodeFields → Point
point_in segment row node = record { pid = pid_of segment row; tag = node.tag; vector = node.vector; links = map (pid_of segment) node.neighbours }

-- the points of nodes from a row on
abbrev pub points_from : {S : Type 0} → SegmentView S → ℕ → List NodeFields → List Point
points_from segment row [] = []
points_from segment row (node ∷ nodes) = point_in segment row node ∷ points_from segment (row + 1) nodes

-- the graph of a node for each row
abbrev pub graph_in : {S : Type 0} → SegmentView S → List NodeFields → Graph
graph_in segment nodes = record { entry = option_map (pid_of segment) segment.entry; points = points_from segment 0 nodes }

-- the nodes of all rows, by what is sealed
abbrev pub nodes_in : {S : Type 0} → SegmentView S → Params → List ℕ → List NodeFields
nodes_in segment params bytes = map (node_in segment bytes params.d) (range_with_len 0 (length segment.items))

-- the tags of nodes
abbrev pub tags_of : List NodeFields → List ℕ
tags_of nodes = map (λ (node : NodeFields). node.tag) nodes

-- the tags of the first rows with their Pids
abbrev pub named : {S : Type 0} → SegmentView S → List ℕ → Names
named segment tags = zip tags (map (λ (x : Item). x.0) segment.items)

abbrev pub no_node : NodeFields
no_node = record { tag = 0; vector = []; neighbours = [] }

-- nodes of the first rows are in the format
pub record AreNodes {S : Type 0} (segment : SegmentView S) (params : Params) (nodes : List NodeFields) : Type 0 where
  pub few : length nodes ≤ length segment.items
  pub long : (row : ℕ) → row < length nodes → length (get_or nodes row no_node).vector ≡ params.d
  pub neighbours : (row : ℕ) → row < length nodes → AreNeighbours params (length segment.items) row (get_or nodes row no_node).neighbours
