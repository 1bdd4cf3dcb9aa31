use Rattle.std.proofs.Common.{◌≡◌}
use Rattle.ann_script.specs.Operands.{later}
use Rattle.ann_script.specs.Words.{words}
use Rattle.ann_script.proofs.operands.behind_separator.Given as goal

-- what stands behind the first `;` is still to come
abbrev pub invariant-loop-word : goal.invariant-loop-word
invariant-loop-word l = later (words l.text.rest.now) ≡ later (words l.fn.text)
