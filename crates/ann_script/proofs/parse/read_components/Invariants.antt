use Rattle.std.proofs.Common.{◌≡◌}
use Rattle.ann_script.specs.Grammar.{components}
use Rattle.ann_script.specs.Operands.{given}
use Rattle.ann_script.proofs.Behind.{behind}
use Rattle.ann_script.proofs.parse.read_components.Given as goal

-- the components so far, and those of the words to come, are all
abbrev pub invariant-loop-word : goal.invariant-loop-word
invariant-loop-word l = behind l.bytes.items (components (given l.word-iterator)) ≡ components (given l.fn.operands)
