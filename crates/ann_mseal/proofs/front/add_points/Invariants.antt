use Rattle.std.proofs.Common.{◌≡◌, ◌++◌, map, take}
use Rattle.ann_mseal.specs.Merged.{new_item}
use Rattle.ann_mseal.proofs.front.add_points.Given as goal

-- the points so far were added
abbrev pub invariant-loop-point : goal.invariant-loop-point
invariant-loop-point l = l.directory ≡ l.fn.directory ++ map (new_item l.book.book) (take l.point-index l.points)
