use Rattle.std.proofs.Common.{◌≡◌, length}
use Rattle.ann_job_tests.proofs.started.eyes.Given as goal

-- so many eyes
abbrev pub invariant-loop : goal.invariant-loop
invariant-loop l = length l.eyes.items ≡ l.counter
