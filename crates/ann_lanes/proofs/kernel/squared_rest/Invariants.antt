use Rattle.std.proofs.Common.{◌≡◌, ◌≤◌, ◌*◌, take}
use Rattle.ann_types.specs.Distance.{distance}
use Rattle.ann_lanes.proofs.kernel.squared_rest.Given as goal

abbrev pub invariant-loop-i : goal.invariant-loop-i
invariant-loop-i l = record {
  sum : l.sum ≡ distance (take l.i l.x) (take l.i l.y);
  small : l.sum ≤ 65025 * l.i;
}
