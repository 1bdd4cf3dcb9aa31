use Rattle.std.proofs.Common.{◌≡◌, length}
use Rattle.ann_recover_tests.proofs.check.eyes.Given as goal

-- so many eyes
abbrev pub invariant-loop : goal.invariant-loop
invariant-loop l = length l.eyes.items ≡ l.counter
