use Rattle.std.proofs.Common.{take}
use Rattle.ann_mphases.specs.Left.{AreWide}
use Rattle.ann_mphases.proofs.left.know_codes.Given as goal

-- the rows so far
abbrev pub invariant-loop-row : goal.invariant-loop-row
invariant-loop-row g l = AreWide l.book (take l.row l.segment.items)
