use Rattle.std.proofs.Common.{◌≡◌, ◌<◌, ◌+◌, ◌^◌, take}
use Rattle.ann_types.specs.Lists.{BasedList, next_pid}
use Rattle.ann_judge.specs.Standing.{behind}
use Rattle.ann_judge.specs.Standing.{KnowsOf}
use Rattle.ann_judge.proofs.standing.Standing.next.Given as goal

-- the next Pid behind the changes so far
abbrev pub invariant-loop-change : goal.invariant-loop-change
invariant-loop-change l = ((h : BasedList) → KnowsOf h l.self → l.next ≡ next_pid (behind h (take l.change-index l.changes))) × (l.next < 2 ^ 32 + l.change-index)
