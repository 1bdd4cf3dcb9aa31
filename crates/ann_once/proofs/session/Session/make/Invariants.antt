use Rattle.std.proofs.Common.{◌≡◌, ◌+◌, take, None}
use Rattle.ann_types.specs.Judge.{judge_all}
use Rattle.ann_types.specs.Lists.{BasedList}
use Rattle.ann_judge.specs.Standing.{behind}
use Rattle.ann_once.specs.Session.{Keeps}
use Rattle.ann_judge.proofs.Living.{Judging}
use Rattle.ann_once.proofs.session.Session.make.Given as goal

-- the changes so far are made, and accepted
abbrev pub invariant-loop-change : goal.invariant-loop-change
invariant-loop-change l =
    (l.self.params ≡ l.fn.self.params)
    × (l.self.view.at ≡ l.fn.self.view.at + l.change-index)
    × ((h : BasedList) → Keeps h l.fn.self → judge_all l.fn.self.params h 0 l.changes ≡ None → Keeps (behind h (take l.change-index l.changes)) l.self × Judging l.fn.self.params h l.changes l.change-index)
