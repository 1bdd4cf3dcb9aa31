use Rattle.std.proofs.Common.{◌+◌, ◌*◌, sym, ap, ◌∙◌, arith, take}
use Rattle.ann_types.specs.Distance.{distance}
use Rattle.ann_types.proofs.Distances.{distance-take_one}
use Rattle.ann_lanes.proofs.Differences.{byte_square}
use Rattle.ann_lanes.proofs.kernel.squared_rest.Goals as goal

pub loop-i-preserved : goal.loop-i-preserved
loop-i-preserved c = record {
  sum =
      ap (λ n. n + c.abs_diff-difference.result * c.abs_diff-difference.result) c.loop-i.invariant.sum
      ∙ ap (λ d. distance (take c.loop-i.i c.args.x.now) (take c.loop-i.i c.args.y.now) + d * d) c.abs_diff-difference.ensures
      ∙ sym (distance-take_one c.loop-i.i c.args.x.now c.args.y.now c.requires.same c.loop-i-test.true);
  small = omega (arith, byte_square c.abs_diff-difference.result (omega arith));
}
