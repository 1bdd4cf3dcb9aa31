use Rattle.std.proofs.Common.{◌≡◌, ◌*◌, length, take}
use Rattle.ann_types.specs.Codes.{decode}
use Rattle.ann_pq.proofs.codebook.Codebook.decode.Given as goal

-- the centroids of the parts so far
abbrev pub invariant-loop-part : goal.invariant-loop-part
invariant-loop-part l = record {
  size : length l.out ≡ l.self.d;
  joined : take (l.part * l.width) l.out ≡ decode (take l.part l.self.book) (take l.part l.code);
}
