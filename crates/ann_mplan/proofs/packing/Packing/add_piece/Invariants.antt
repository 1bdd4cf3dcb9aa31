use Rattle.std.proofs.Common.{◌≡◌, ◌++◌, map, take}
use Rattle.ann_mplan.specs.Packing.{rank_in}
use Rattle.ann_mplan.proofs.packing.Packing.add_piece.Given as goal

-- the lists so far are added by ranks
abbrev pub invariant-loop-i : goal.invariant-loop-i
invariant-loop-i l = l.out ≡ l.fn.out ++ map (map (rank_in l.self)) (take l.i l.piece.lists)
