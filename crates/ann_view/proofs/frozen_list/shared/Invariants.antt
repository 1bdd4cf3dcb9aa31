use Rattle.std.proofs.Common.{◌≡◌, take, map}
use Rattle.std.specs.Arc.{arc_value}
use Rattle.ann_view.proofs.frozen_list.shared.Given as goal

abbrev pub invariant-loop-graph : goal.invariant-loop-graph
invariant-loop-graph l = map arc_value l.first.items ≡ take l.graph-index (map arc_value (take l.count l.graphs))
