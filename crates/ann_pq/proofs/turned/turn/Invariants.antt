use Rattle.std.proofs.Common.{◌≡◌, ◌≤◌, ◌<◌, ◌*◌, ℕ, get_or, vec_len, vec_capacity}
use Rattle.ann_pq.specs.Turned.{source}
use Rattle.ann_pq.proofs.turned.turn.Given as goal

abbrev pub invariant-loop-place : goal.invariant-loop-place
invariant-loop-place l = record {
  size : vec_len l.turned ≡ l.place;
  room : 256 * l.d ≤ vec_capacity l.turned;
  turned : (k : ℕ) → k < l.place → get_or l.turned.items k 0 ≡ get_or l.bytes (source l.width k) 0;
}
