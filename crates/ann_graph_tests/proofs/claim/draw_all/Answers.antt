use Rattle.std.proofs.Common.{ap, ◌∙◌, arith}
use Rattle.ann_claim.specs.Claims.{Drawer, least_above}
use Rattle.ann_claim.proofs.Drawn.{least_above_last}
use Rattle.ann_graph_tests.proofs.claim.draw_all.Goals as goal

pub loop-number-smaller : goal.loop-number-smaller
loop-number-smaller c =
    let more = ap (λ (d : Drawer). least_above d.drawn) c.in-Some.ensures.drawn ∙ least_above_last c.loop-number.claimer.drawn c.in-Some.number in
    let below = c.in-Some.ensures.below in
    let rises = c.in-Some.ensures.rises in
    omega arith
