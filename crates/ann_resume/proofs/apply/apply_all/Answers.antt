use Rattle.std.proofs.Common.{◌<◌, sym, subst, arith, take, get_or, length}
use Rattle.std.specs.Prelude.{None}
use Rattle.ann_types.specs.Lists.{BasedList, with_entries}
use Rattle.ann_types.specs.declared.entry.Entry.{Entry}
use Rattle.ann_view.specs.Holding.{HoldsGraph}
use Rattle.ann_view.specs.Stands.{StandsFor, lti_of}
use Rattle.ann_resume.specs.Applied.{AreNext, IsNext}
use Rattle.ann_resume.proofs.Applying.{next_of_all, entries_more, same_then, get_again, gone_long}
use Rattle.ann_resume.proofs.apply.apply_all.Goals as goal

pub bounds-gone-index : goal.bounds-gone-index
bounds-gone-index g c =
    let many = gone_long c.args.view.now c.requires.next.0 c.args.entries.now c.args.gone.now c.requires.next.1 in
    omega (arith, many)

pub apply-requires-clause-next : goal.apply-requires-clause-next
apply-requires-clause-next g c =
    let i = c.loop-index.index in
    let es = c.args.entries.now in
    let h = c.requires.next.0 in
    let n = c.requires.next.1 in
    let many = gone_long c.args.view.now h es c.args.gone.now n in
    let within : i < length c.args.gone.now = omega (arith, many) in (
      with_entries h (take i es),
      next_of_all c.args.view.now c.loop-index.view h es c.args.gone.now i c.index-entries-index.result (get_or c.args.gone.now i None) n c.loop-index.invariant.same (c.loop-index.invariant.stands h n) c.loop-index-test.true c.index-entries-index.is
          (get_again c.args.gone.now i None within),
    )

pub loop-index-preserved : goal.loop-index-preserved
loop-index-preserved g c =
    let i = c.loop-index.index in
    let es = c.args.entries.now in
    let e : Entry = c.index-entries-index.result in
    let at = c.in_ok-apply.ensures.at in
    let so_far = c.loop-index.invariant.at in
    let next : (h : BasedList) → AreNext c.args.view.now h es c.args.gone.now → IsNext c.loop-index.view (with_entries h (take i es)) e (get_or c.args.gone.now i None) = λ h n.
    let many = gone_long c.args.view.now h es c.args.gone.now n in
    let within : i < length c.args.gone.now = omega (arith, many) in
    next_of_all c.args.view.now c.loop-index.view h es c.args.gone.now i e (get_or c.args.gone.now i None) n c.loop-index.invariant.same (c.loop-index.invariant.stands h n) c.loop-index-test.true c.index-entries-index.is (get_again c.args.gone.now i None within) in
    record {
      same = same_then c.args.view.now c.loop-index.view c.apply.new.view c.loop-index.invariant.same c.in_ok-apply.ensures.index;
      at = omega (arith, at, so_far);
      stands = λ h n.
          subst (StandsFor c.apply.new.view) (sym (entries_more h es i e c.loop-index-test.true c.index-entries-index.is))
          (c.in_ok-apply.ensures.stands (with_entries h (take i es)) (next h n));
      holds = λ h n w.
          subst (λ (x : BasedList). HoldsGraph g.S.Sealed.bytes c.apply.new.view (lti_of c.apply.new.view x)) (sym (entries_more h es i e c.loop-index-test.true c.index-entries-index.is))
          (c.in_ok-apply.ensures.holds (with_entries h (take i es)) (next h n) (c.loop-index.invariant.holds h n w));
    }
