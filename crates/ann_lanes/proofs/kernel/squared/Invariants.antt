use Rattle.std.proofs.Common.{◌≡◌, ◌≤◌, ◌*◌, take, length, ℕ}
use Rattle.ann_types.specs.Distance.{distance}
use Rattle.ann_lanes.specs.Lanes.{Each1}
use lib.Lanes.{sum_l}
use Rattle.ann_lanes.proofs.kernel.squared.Given as goal

-- the lanes add up to the distance of the blocks so far
abbrev pub invariant-loop-block : goal.invariant-loop-block
invariant-loop-block l = record {
  lanes : length l.sums ≡ 16;
  sum : sum_l l.sums ≡ distance (take (16 * l.block) l.x) (take (16 * l.block) l.y);
  small : Each1 {A = ℕ} (λ s. s ≤ 65025 * l.block) l.sums;
}
