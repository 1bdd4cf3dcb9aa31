use Rattle.std.proofs.Common.{◌+◌, sym, subst}
use Rattle.ann_view.specs.Temp.{Temp}
use Rattle.ann_view.specs.View.{IsView, shown}
use Rattle.ann_view.proofs.Ages.{view_begun}
use Rattle.ann_view.proofs.view.View.begin.Goals as goal

pub invariant_of-self-2 : goal.invariant_of-self-2
invariant_of-self-2 g c =
    subst (λ (t : Temp). IsView {S = g.row.S.Denot} (shown t c.self.inside.book (c.self.inside.at + 1) c.self.inside.next c.self.inside.segment c.self.inside.closed)) (sym c.in_ok-begin.ensures.begun)
    (view_begun (shown c.self.inside.temp c.self.inside.book c.self.inside.at c.self.inside.next c.self.inside.segment c.self.inside.closed) c.self.invariant)
