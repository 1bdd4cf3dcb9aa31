use Rattle.ann_types.specs.Lists.{BasedList}
use Rattle.ann_judge.specs.Standing.{KnowsOf}
use Rattle.ann_judge.proofs.Living.{Judging}
use Rattle.ann_judge.proofs.standing.Standing.first_refused.Given as goal

-- the changes so far are accepted
abbrev pub invariant-loop-index : goal.invariant-loop-index
invariant-loop-index l = (h : BasedList) → KnowsOf h l.self → Judging l.self.params.now h l.changes l.index
