use Rattle.std.proofs.Common.{◌≡◌, ◌++◌, take}
use Rattle.ann_mphases.proofs.joining.add_all.Given as goal

-- the lists so far
abbrev pub invariant-loop-i : goal.invariant-loop-i
invariant-loop-i l = l.out ≡ l.fn.out ++ take l.i l.piece
