use Rattle.std.proofs.Common.{◌≡◌, ◌++◌, take}
use Rattle.ann_mpatch.proofs.list.gather_warm.Given as goal

-- the rows so far are added
abbrev pub invariant-loop-row : goal.invariant-loop-row
invariant-loop-row l = l.candidates.rows ≡ l.fn.candidates.rows ++ take l.row-index l.rows
