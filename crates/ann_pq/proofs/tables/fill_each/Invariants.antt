use Rattle.std.proofs.Common.{◌≡◌, ◌≤◌, ◌<◌, ◌*◌, ◌/◌, ℕ, [], length, get_or, take, drop, map}
use Rattle.ann_types.specs.Distance.{distance}
use Rattle.ann_pq.specs.Codebook.{part_of}
use Rattle.ann_pq.proofs.tables.fill_each.Given as goal

-- the tables of the parts so far
abbrev pub invariant-loop-part : goal.invariant-loop-part
invariant-loop-part l = record {
  size : length l.sums ≡ 16384;
  small : (place : ℕ) → get_or l.sums place 0 ≤ 66585600;
  each : (p : ℕ) → p < l.part → take 256 (drop (256 * p) l.sums) ≡ map (distance (part_of (l.book.d / l.book.m) l.query p)) (get_or l.book.book p []);
}
