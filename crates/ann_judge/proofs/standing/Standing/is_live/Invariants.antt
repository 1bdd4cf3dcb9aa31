use Rattle.std.proofs.Common.{◌≡◌, take}
use Rattle.ann_types.specs.Lists.{BasedList, is_live, live_of}
use Rattle.ann_judge.specs.Standing.{behind}
use Rattle.ann_judge.specs.Standing.{KnowsOf}
use Rattle.ann_judge.proofs.standing.Standing.is_live.Given as goal

-- whether the tag is live behind the changes so far
abbrev pub invariant-loop-change : goal.invariant-loop-change
invariant-loop-change l = (h : BasedList) → KnowsOf h l.self → l.live ≡ is_live (live_of (behind h (take l.change-index l.changes))) l.tag
