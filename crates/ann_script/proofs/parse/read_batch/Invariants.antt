use Rattle.std.proofs.Common.{◌≡◌, length}
use Rattle.ann_script.specs.Grammar.{changes, parts}
use Rattle.ann_script.specs.Words.{words}
use Rattle.ann_script.proofs.Behind.{behind}
use Rattle.ann_script.proofs.parse.read_batch.Given as goal

-- the changes so far, one a turn, and those of the parts to come, are all
abbrev pub invariant-loop : goal.invariant-loop
invariant-loop l = (behind l.changes (changes (parts (words l.rest))) ≡ changes (parts (words l.fn.text))) × (length l.changes ≡ l.counter)
