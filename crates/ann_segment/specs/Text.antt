-- The text of a graph as a segment: the header block, the blocks of the directory, and a node block for each row. Rows
-- stand in order of Pid, and neighbours are ascending rows.
use Rattle.std.specs.Prelude.{ℕ, List, ◌++◌, ◌==◌, map, length}
use Rattle.std.specs.List.{flat_map, position_or_len}
use Rattle.std.specs.Option.{option_map}
use Rattle.ann_types.specs.Graph.{Point, Graph, pids_of}
use Rattle.ann_types.specs.Codes.{Book, code}
use Rattle.ann_types.specs.declared.params.Params.{Params}
use Rattle.ann_block.specs.Header.{header_bytes}
use Rattle.ann_block.specs.Node.{node_bytes}
use Rattle.ann_block.specs.declared.header.Header.{Header}
use Rattle.ann_segment.specs.Directory.{Item, directory_bytes, filled}

-- the row of a Pid
abbrev pub row_of : List Point → ℕ → ℕ
row_of points pid = position_or_len (λ p. p == pid) (pids_of points)

abbrev pub header_for : Params → Graph → ℕ → Header
header_for params graph number =
    record { number = number; d = params.d; r = params.r; m = params.m; count = length graph.points; start_row = option_map (row_of graph.points) graph.entry }

abbrev pub items_for : Book → Graph → List Item
items_for book graph = map (λ (x : Point). (x.pid, code book x.vector)) graph.points

-- the node block of a point
abbrev pub node_for : List Point → Point → List ℕ
node_for points x = node_bytes x.pid x.tag x.vector (map (row_of points) x.links)

-- the blocks before the nodes
unfoldable pub front_bytes : Header → List Item → List ℕ
front_bytes header items = header_bytes header ++ filled (directory_bytes items)

-- SegmentText(G, number)
unfoldable pub segment_text : Params → Book → Graph → ℕ → List ℕ
segment_text params book graph number =
    front_bytes (header_for params graph number) (items_for book graph) ++ flat_map (node_for graph.points) graph.points
