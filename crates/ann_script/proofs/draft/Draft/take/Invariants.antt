use Rattle.std.proofs.Common.{length}
use Rattle.ann_script.proofs.Drafting.{Taking}
use Rattle.ann_script.proofs.draft.Draft.take.Given as goal

-- the lines so far were taken
abbrev pub invariant-loop-line : goal.invariant-loop-line
invariant-loop-line l = Taking l.fn.self l.self l.piece l.rest

abbrev pub decreases-loop-line : goal.decreases-loop-line
decreases-loop-line l = length l.rest
