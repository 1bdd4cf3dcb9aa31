use Rattle.std.proofs.Common.{◌≡◌, ◌<◌, ◌^◌, map, take, length, All}
use Rattle.std.specs.Arc.{arc_value}
use Rattle.std.specs.List.{flat_map}
use Rattle.ann_frozen.specs.Frozen.{FrozenView}
use Rattle.ann_merge.specs.Gathered.{kept_rows}
use Rattle.ann_merge.proofs.gather.new_points.Given as goal

-- the graphs so far
abbrev pub invariant-loop-graph : goal.invariant-loop-graph
invariant-loop-graph l = record {
  points : l.points.items ≡ flat_map (λ (f : FrozenView). kept_rows l.gone f.nodes) (map arc_value (take l.graph-index l.graphs));
  vectors : All (λ x. length x.vector ≡ l.params.d) l.points.items;
  tags : All (λ x. x.tag < 2 ^ 64) l.points.items;
}
