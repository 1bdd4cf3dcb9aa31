use Rattle.std.proofs.Common.{◌≡◌, ◌++◌, map, take}
use Rattle.std.specs.Prelude.{flat_map}
use Rattle.std.specs.Arc.{arc_value}
use Rattle.ann_table.specs.Node.{graph_of}
use Rattle.ann_frozen.specs.Frozen.{FrozenView}
use Rattle.ann_view.specs.Collected.{alive_in}
use Rattle.ann_view.proofs.collect.add_frozen.Given as goal

-- the live points of the graphs so far were added
abbrev pub invariant-loop-graph : goal.invariant-loop-graph
invariant-loop-graph l = l.out ≡ l.fn.out ++ alive_in l.dead (flat_map (λ (f : FrozenView). (graph_of f.nodes).points) (take l.graph-index (map arc_value l.graphs)))
