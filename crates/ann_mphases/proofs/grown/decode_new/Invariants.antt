use Rattle.std.proofs.Common.{◌≡◌, ◌++◌, take, map, length}
use Rattle.std.specs.Prelude.{All}
use Rattle.ann_types.specs.Codes.{decoded}
use Rattle.ann_types.specs.declared.new_point.NewPoint.{NewPoint}
use Rattle.ann_mphases.proofs.grown.decode_new.Given as goal

-- the points so far are decoded, and all vectors have one dimension
abbrev pub invariant-loop-point : goal.invariant-loop-point
invariant-loop-point l = record {
  vectors : l.decoded ≡ l.fn.decoded ++ map (λ (x : NewPoint). decoded l.book.book x.vector) (take l.point-index l.points);
  wide : All (λ vector. length vector ≡ l.book.d) l.decoded;
}
