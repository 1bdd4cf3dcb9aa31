use Rattle.std.proofs.Common.{◌≡◌, ◌≤◌, ◌*◌, length, ℕ}
use Rattle.ann_lanes.specs.Lanes.{Each1}
use Rattle.ann_pq.specs.Turned.{IsBlock}
use Rattle.ann_pq.proofs.turned.block_distances.Given as goal

-- the lanes are the distances by the components so far
abbrev pub invariant-loop-i : goal.invariant-loop-i
invariant-loop-i l = record {
  lanes : length l.sums ≡ 16;
  value : IsBlock l.part l.turned l.at l.i l.sums;
  small : Each1 {A = ℕ} (λ sum. sum ≤ 65025 * l.i) l.sums;
}
