use Rattle.std.proofs.Common.{◌-◌}
use Rattle.ann_claim.specs.Claims.{least_above}
use Rattle.ann_crew.specs.Members.{IsDrawing}
use Rattle.ann_crew.proofs.member.draw_all.Given as goal

-- the results of what was drawn so far are there
abbrev pub invariant-loop-number : goal.invariant-loop-number
invariant-loop-number g l =
    IsDrawing (g.T.Task.goes l.task) (g.T.Task.causes l.task) (g.T.Task.is_piece l.task) l.stretch.first l.claims l.fn.member l.member

abbrev pub decreases-loop-number : goal.decreases-loop-number
decreases-loop-number g l = l.claims.numbers - least_above l.member.claimer.drawn
