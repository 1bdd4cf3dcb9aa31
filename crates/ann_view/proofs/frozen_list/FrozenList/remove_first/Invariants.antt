use Rattle.std.proofs.Common.{◌≡◌, drop, map}
use Rattle.std.specs.Arc.{arc_value}
use Rattle.ann_view.proofs.frozen_list.FrozenList.remove_first.Given as goal

abbrev pub invariant-loop-removed : goal.invariant-loop-removed
invariant-loop-removed l = map arc_value l.self-inside.graphs.items ≡ drop l.removed l.fn.self
