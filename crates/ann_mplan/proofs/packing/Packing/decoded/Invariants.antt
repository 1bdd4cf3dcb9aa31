use Rattle.std.proofs.Common.{◌≡◌, [], map, take, get_or, length}
use Rattle.std.specs.Prelude.{All}
use Rattle.ann_mdelete.specs.Decoded.{width_of}
use Rattle.ann_mplan.proofs.packing.Packing.decoded.Given as goal

-- the vectors of the survivors so far
abbrev pub invariant-loop-row : goal.invariant-loop-row
invariant-loop-row l = record {
  vectors : l.left ≡ map (λ row. get_or l.decoded row []) (take l.row-index l.self);
  same : All (λ vector. length vector ≡ width_of l.decoded) l.left;
}
