use Rattle.std.proofs.Common.{◌+◌, Some, sym, subst, ◌∙◌}
use Rattle.ann_segment.specs.Directory.{AreRising}
use Rattle.ann_segment.specs.Segment.{SegmentView}
use Rattle.ann_view.specs.Temp.{Temp}
use Rattle.ann_view.specs.View.{IndexView, IsView, shown}
use Rattle.ann_view.specs.Steps.{MayEnd}
use Rattle.ann_view.proofs.Ages.{view_ended}
use Rattle.ann_view.proofs.view.View.end.Goals as goal

pub invariant_of-self-2 : goal.invariant_of-self-2
invariant_of-self-2 g c =
    subst (λ (t : Temp). IsView {S = g.row.S.Denot} (shown t c.self.inside.book (c.self.inside.at + 1) c.self.inside.next (Some c.in_ok-segment.segment) c.self.inside.closed)) (sym c.in_ok-end.ensures.ended)
    (view_ended (shown c.self.inside.temp c.self.inside.book c.self.inside.at c.self.inside.next c.self.inside.segment c.self.inside.closed) c.in_ok-segment.segment.value c.self.invariant
    (subst (λ (s : SegmentView g.row.S.Denot). AreRising s.items) (c.deref.ensures ∙ sym c.in_ok-segment.ensures.cases) c.known.ensures.sound.rising)
    (subst (MayEnd (shown c.self.inside.temp c.self.inside.book c.self.inside.at c.self.inside.next c.self.inside.segment c.self.inside.closed)) (sym c.in_ok-segment.ensures.cases) (subst (λ (v : IndexView g.row.S.Denot). MayEnd v c.args.segment.now.value) (sym c.self.view_is) c.requires.fits)))
