use Rattle.std.proofs.Common.{◌≤◌, length}
use Rattle.ann_job_tests.proofs.again.refusals.Given as goal

-- no eye is lost
abbrev pub invariant-loop-refused : goal.invariant-loop-refused
invariant-loop-refused g l = l.workers ≤ length l.job.eyes
