use Rattle.std.proofs.Common.{◌≡◌, map, take}
use Rattle.std.specs.Arc.{arc_value}
use Rattle.std.specs.List.{AllByRecursion, flat_map}
use Rattle.ann_table.specs.Node.{graph_of}
use Rattle.ann_frozen.specs.Frozen.{FrozenView}
use Rattle.ann_beam.specs.Desk.{result_of}
use Rattle.ann_beam.specs.Ranking.{with_all}
use Rattle.ann_view.specs.Near.{near_points, AreInside}
use Rattle.ann_view.proofs.near.add_near_frozen.Given as goal

-- the graphs so far were walked
abbrev pub invariant-loop-graph : goal.invariant-loop-graph
invariant-loop-graph l = record {
  limit : (result_of l.desk).limit ≡ (result_of l.fn.desk).limit;
  points : (result_of l.desk).points ≡ with_all (result_of l.fn.desk).limit (flat_map (λ (f : FrozenView). near_points l.dead (graph_of f.nodes) l.ask.vector l.ask.l) (take l.graph-index (map arc_value l.graphs))) (result_of l.fn.desk).points;
  inside : AllByRecursion (λ (f : FrozenView). AreInside l.ask.vector l.ask.l (graph_of f.nodes)) (take l.graph-index (map arc_value l.graphs));
}
