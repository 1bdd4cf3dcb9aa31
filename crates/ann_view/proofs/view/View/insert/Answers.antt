use Rattle.std.proofs.Common.{◌+◌, sym, subst}
use Rattle.ann_view.specs.Temp.{Temp}
use Rattle.ann_view.specs.View.{IndexView, IsView, shown}
use Rattle.ann_view.specs.Steps.{FitsIn}
use Rattle.ann_view.proofs.Ages.{rw_below, view_inserted}
use Rattle.ann_view.proofs.view.View.insert.Goals as goal

pub insert-requires-clause-above : goal.insert-requires-clause-above
insert-requires-clause-above g c = rw_below (shown c.self.inside.temp c.self.inside.book c.self.inside.at c.self.inside.next c.self.inside.segment c.self.inside.closed) c.self.invariant

pub invariant_of-self-2 : goal.invariant_of-self-2
invariant_of-self-2 g c =
    subst (λ (t : Temp). IsView {S = g.row.S.Denot} (shown t c.self.inside.book (c.self.inside.at + 1) (c.self.inside.next + 1) c.self.inside.segment c.self.inside.closed)) (sym c.in_ok-insert.ensures.inserted)
    (view_inserted (shown c.self.inside.temp c.self.inside.book c.self.inside.at c.self.inside.next c.self.inside.segment c.self.inside.closed) c.args.tag c.bytes.result.now c.self.invariant (subst (FitsIn (shown c.self.inside.temp c.self.inside.book c.self.inside.at c.self.inside.next c.self.inside.segment c.self.inside.closed)) (sym c.bytes.ensures.components) (subst (λ (v : IndexView g.row.S.Denot). FitsIn v c.args.vector.now) (sym c.self.view_is) c.requires.fits)))
