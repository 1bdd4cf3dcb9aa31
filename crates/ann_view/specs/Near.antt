-- What the walks of the graphs in memory add to a search's result.
use Rattle.std.specs.Prelude.{◌≡◌, ℕ, true, List, map}
use Rattle.ann_types.specs.Order.{has}
use Rattle.ann_types.specs.Graph.{Graph, pids_of, far_from, tag_of, near_to}
use Rattle.ann_types.specs.Merge.{without}
use Rattle.ann_table.specs.Node.{Node, node_at, row_pid}
use Rattle.ann_pool.specs.declared.item.Item.{Item}
use Rattle.ann_beam.specs.Ranking.{Ranked, rank}

-- the point of an item of a walk by rows
abbrev pub row_point : List Node → Item → Ranked
row_point nodes item = record { pid = row_pid nodes item.number; tag = (node_at nodes item.number).tag; distance = item.distance }

-- the points near a query in a graph that aren't deleted, at their distances
abbrev pub near_points : List ℕ → Graph → List ℕ → ℕ → List Ranked
near_points dead graph query width =
    map (rank (far_from graph.points query) (tag_of graph.points)) (without dead (near_to graph query width))

-- the points near a query are points of the graph
abbrev pub AreInside : List ℕ → ℕ → Graph → Type 0
AreInside query width graph = (p : ℕ) → has (near_to graph query width) p ≡ true → has (pids_of graph.points) p ≡ true
