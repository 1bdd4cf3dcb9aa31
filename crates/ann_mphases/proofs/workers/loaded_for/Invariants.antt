use Rattle.std.proofs.Common.{◌≡◌, length}
use Rattle.ann_mphases.proofs.workers.loaded_for.Given as goal

-- as many as were made
abbrev pub invariant-loop-made : goal.invariant-loop-made
invariant-loop-made l = length l.all.items ≡ l._made
