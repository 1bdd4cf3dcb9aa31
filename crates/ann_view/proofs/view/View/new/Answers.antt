use Rattle.std.proofs.Common.{None, false, sym, subst, arith}
use Rattle.ann_view.specs.Temp.{Temp}
use Rattle.ann_view.specs.View.{IsView, shown}
use Rattle.ann_view.proofs.Memories.{memory_start}
use Rattle.ann_view.proofs.view.View.new.Goals as goal

pub invariant_of-result : goal.invariant_of-result
invariant_of-result g c =
    subst (λ (t : Temp). IsView {S = g.row.S.Denot} (shown t c.args.book 0 0 None false)) (sym c.in_ok-new.ensures)
    (record {
      rising = λ k l. absurd (omega arith);
      below = λ k d l. absurd (omega arith);
      next = omega arith;
      memory = memory_start c.args.params.now;
      book = c.requires.book;
      codes = tt;
      begun = tt;
    })
