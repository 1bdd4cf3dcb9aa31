use Rattle.std.proofs.Common.{◌≡◌, take}
use Rattle.ann_mphases.specs.Pieces.{joined}
use Rattle.ann_mphases.proofs.joining.join.Given as goal

-- the pieces so far
abbrev pub invariant-loop-piece : goal.invariant-loop-piece
invariant-loop-piece l = l.lists ≡ joined (take l.piece-index l.pieces)
