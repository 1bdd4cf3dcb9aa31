use Rattle.std.proofs.Common.{Some, false, sym, subst, arith}
use Rattle.ann_segment.specs.Directory.{AreRising}
use Rattle.ann_segment.specs.Segment.{SegmentView}
use Rattle.ann_view.specs.Temp.{Temp}
use Rattle.ann_view.specs.View.{IsView, shown}
use Rattle.ann_view.proofs.Memories.{memory_start}
use Rattle.ann_view.proofs.Ages.{resumed_rising, resumed_below}
use Rattle.ann_view.proofs.view.View.resume.Goals as goal

pub invariant_of-result : goal.invariant_of-result
invariant_of-result g c =
    subst (λ (t : Temp). IsView {S = g.row.S.Denot} (shown t c.args.book c.args.at c.args.next (Some c.args.segment) false)) (sym c.in_ok-new.ensures)
    (record {
      rising = resumed_rising c.args.segment.value.items (subst (λ (s : SegmentView g.row.S.Denot). AreRising s.items) c.deref.ensures c.known.ensures.sound.rising);
      below = resumed_below c.args.segment.value.items c.args.next c.requires.below;
      next = (let fits = c.ranges.next in omega arith);
      memory = memory_start c.args.params.now;
      book = c.requires.book;
      codes = c.requires.segment;
      begun = tt;
    })
