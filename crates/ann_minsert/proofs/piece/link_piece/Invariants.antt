use Rattle.std.proofs.Common.{◌≡◌, ◌++◌, take}
use Rattle.ann_minsert.specs.Added.{linked_all}
use Rattle.ann_minsert.proofs.piece.link_piece.Given as goal

-- the lists of the points so far are added
abbrev pub invariant-loop-point : goal.invariant-loop-point
invariant-loop-point l = l.out ≡ l.fn.out ++ linked_all l.params l.book.book l.base (take l.point-index l.points)
