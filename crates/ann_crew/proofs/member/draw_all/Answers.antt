use Rattle.std.proofs.Common.{◌≡◌, ◌+◌, ◌<◌, ◌≤◌, ap, sym, ◌∙◌, arith, refl}
use Rattle.ann_claim.specs.Claims.{Drawer, least_above}
use Rattle.ann_crew.proofs.Drawing.{above_push, drawing_more}
use Rattle.ann_crew.proofs.member.draw_all.Goals as goal

pub loop-number-smaller : goal.loop-number-smaller
loop-number-smaller g c =
    let drawn = c.in-Some.ensures.drawn in
    let now : least_above c.do_piece.new.member.claimer.drawn ≡ c.in-Some.number + 1 = ap (λ (d : Drawer). least_above d.drawn) (c.do_piece.ensures.claimer ∙ drawn) ∙ above_push c.loop-number.member.claimer.drawn c.in-Some.number c.in-Some.ensures.rises in
    let below : c.in-Some.number < c.args.claims.now.numbers = c.in-Some.ensures.below in
    let rises : least_above c.loop-number.member.claimer.drawn ≤ c.in-Some.number = c.in-Some.ensures.rises in
    omega arith

pub loop-number-preserved : goal.loop-number-preserved
loop-number-preserved g c =
    drawing_more _ _ _ _ c.args.claims.now c.args.member.now c.loop-number.member (record c.loop-number.member { claimer = c.draw.new.claimer }) c.do_piece.new.member c.in-Some.number
    (g.met.T.Task.goes_on c.args.task.now) (g.met.T.Task.caused c.args.task.now) c.loop-number.invariant c.in-Some.ensures.drawn refl refl refl c.do_piece.ensures
