use Rattle.std.proofs.Common.{◌≡◌, drop}
use Rattle.ann_core.specs.Made.{is_finished_in}
use Rattle.ann_core.proofs.merging.is_finished.Given as goal

-- the number isn't among those so far
abbrev pub invariant-loop-piece : goal.invariant-loop-piece
invariant-loop-piece l = is_finished_in (drop l.piece-index l.pieces) l.number ≡ is_finished_in l.pieces l.number
