use Rattle.std.proofs.Common.{◌≡◌, ◌<◌, ◌+◌, ℕ, take, length, get_or}
use Rattle.ann_mplan.specs.Back.{once}
use Rattle.ann_mplan.proofs.back.count_each.Given as goal

-- the rows of the list so far are counted
abbrev pub invariant-loop-row : goal.invariant-loop-row
invariant-loop-row l = (row : ℕ) → row < length l.sizes → get_or l.sizes row 0 ≡ get_or l.initial.sizes row 0 + length (once (take l.row-index l.list) 0 row)
