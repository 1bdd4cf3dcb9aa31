-- The new points of a merge: those of its frozen graphs that aren't deleted.
use Rattle.std.specs.Prelude.{ℕ, List, ◌++◌, not, map, filter, flat_map}
use Rattle.ann_types.specs.Fold.{new_point}
use Rattle.ann_types.specs.Graph.{Point, pids_of}
use Rattle.ann_types.specs.Merge.{survivors, without}
use Rattle.ann_types.specs.Order.{has}
use Rattle.ann_types.specs.declared.new_point.NewPoint.{NewPoint}
use Rattle.ann_frozen.specs.Frozen.{FrozenView}
use Rattle.ann_table.specs.Node.{Node, graph_of}
use Rattle.ann_segment.specs.Directory.{Item}

-- the points of frozen graphs, one graph after the other
abbrev pub frozen_points : List FrozenView → List Point
frozen_points frozen = flat_map (λ (f : FrozenView). (graph_of f.nodes).points) frozen

-- those that aren't deleted, without their neighbours
abbrev pub new_of : List ℕ → List FrozenView → List NewPoint
new_of gone frozen = map new_point (survivors gone (frozen_points frozen))

-- ---- by rows

-- the point in a row, without its neighbours
abbrev pub plain : Node → NewPoint
plain x = record { pid = x.pid; tag = x.tag; vector = x.vector }

-- the rows of one graph that aren't deleted
abbrev pub kept_rows : List ℕ → List Node → List NewPoint
kept_rows gone nodes = map plain (filter (λ (x : Node). not (has gone x.pid)) nodes)

-- ---- Pids

-- the Pids of all points before the merge, in order
abbrev pub all_pids : List Item → List FrozenView → List ℕ
all_pids items frozen = map (λ (item : Item). item.0) items ++ pids_of (frozen_points frozen)

-- those that the merge keeps
abbrev pub merged_pids : List ℕ → List Item → List FrozenView → List ℕ
merged_pids gone items frozen = without gone (all_pids items frozen)
