use Rattle.std.proofs.Common.{◌≡◌, take}
use Rattle.ann_mdelete.proofs.load.copy_neighbours.Given as goal

-- those so far are copied
abbrev pub invariant-loop-i : goal.invariant-loop-i
invariant-loop-i l = l.out.items ≡ take l.i l.node.neighbours
