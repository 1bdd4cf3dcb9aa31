use Rattle.std.proofs.Common.{◌≡◌, ◌<◌, ◌/◌, ℕ, [], length, get_or}
use Rattle.ann_types.specs.Codes.{nearest}
use Rattle.ann_pq.specs.Codebook.{part_of}
use Rattle.ann_pq.proofs.codebook.Codebook.code.Given as goal

-- the numbers of the parts so far
abbrev pub invariant-loop-part : goal.invariant-loop-part
invariant-loop-part l = record {
  size : length l.out ≡ l.self.m;
  room : length l.to_centroids ≡ 256;
  each : (k : ℕ) → k < l.part → get_or l.out k 0 ≡ nearest (get_or l.self.book k []) (part_of (l.self.d / l.self.m) l.vector k);
}
