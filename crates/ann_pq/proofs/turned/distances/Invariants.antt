use Rattle.std.proofs.Common.{◌≡◌, ◌≤◌, ◌<◌, ◌*◌, ℕ, length, get_or}
use Rattle.ann_types.specs.Distance.{distance}
use Rattle.ann_pq.specs.Turned.{column}
use Rattle.ann_pq.proofs.turned.distances.Given as goal

abbrev pub invariant-loop-block : goal.invariant-loop-block
invariant-loop-block l = record {
  size : length l.out ≡ 256;
  value : (number : ℕ) → number < 16 * l.block → get_or l.out number 0 ≡ distance l.part (column l.turned number (length l.part));
  small : (number : ℕ) → number < 16 * l.block → get_or l.out number 0 ≤ 66585600;
}
