use Rattle.std.proofs.Common.{◌≡◌, length}
use Rattle.ann_command_tests.proofs.commands.eyes.Given as goal

abbrev pub invariant-loop : goal.invariant-loop
invariant-loop l = length l.eyes.items ≡ l.counter
