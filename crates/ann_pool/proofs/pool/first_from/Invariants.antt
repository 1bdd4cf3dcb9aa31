use Rattle.std.proofs.Common.{◌-◌, length}
use Rattle.ann_pool.specs.Marks.{AreMarked}
use Rattle.ann_pool.proofs.pool.first_from.Given as goal

-- the items so far are marked
abbrev pub invariant-loop-place : goal.invariant-loop-place
invariant-loop-place l = AreMarked l.place l.items

abbrev pub decreases-loop-place : goal.decreases-loop-place
decreases-loop-place l = length l.items - l.place
