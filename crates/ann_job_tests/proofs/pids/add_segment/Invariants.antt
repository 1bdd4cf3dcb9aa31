use Rattle.std.proofs.Common.{◌≡◌, ◌++◌, map, take}
use Rattle.ann_segment.specs.Directory.{Item}
use Rattle.ann_job_tests.proofs.pids.add_segment.Given as goal

-- the rows so far
abbrev pub invariant-loop-row : goal.invariant-loop-row
invariant-loop-row l = l.pids.items ≡ l.fn.pids.items ++ map (λ (item : Item). item.0) (take l.row l.segment.items)
