use Rattle.std.proofs.Common.{◌≡◌, true, ap, sym, subst, ◌∙◌, arith, take}
use Rattle.ann_types.specs.Fold.{fold_of}
use Rattle.ann_types.specs.Legal.{may_follow}
use Rattle.ann_types.specs.Lists.{BasedList, with_entry, live_of}
use Rattle.ann_types.specs.declared.entry.Entry.{Entry}
use Rattle.ann_laws.specs.Replays.{with_only}
use Rattle.ann_reopen.specs.Reading.{ReadingView, reading_of, after}
use Rattle.ann_reopen.proofs.Knowing.{Knows, knows_more, follows_is, stays_small}
use Rattle.ann_reopen.proofs.Verdicts.{with_next, first_illegal, judged_all, knows_start}
use Rattle.ann_reopen.proofs.judging.judge.Goals as goal

pub loop-entry-init : goal.loop-entry-init
loop-entry-init c = record {
  knows = λ index h on. knows_start index c.args.params.now c.args.basis c.args.entries.now h (reading_of c.new-reading.result) on c.new-reading.ensures;
  position = (let at = ap (λ (x : ReadingView). x.position) c.new-reading.ensures in omega (arith, at));
  points = (let rw = ap (λ (x : ReadingView). x.outline.rw) c.new-reading.ensures in omega (arith, rw));
  graphs = (let ros = ap (λ (x : ReadingView). x.outline.ros) c.new-reading.ensures in omega (arith, ros));
}

pub returns-then-not-may_come : goal.returns-then-not-may_come
returns-then-not-may_come c index h on =
    let all = c.args.entries.now in
    let i = c.loop-entry.entry-index in
    let here : BasedList = with_only h (take i all) in
    let k = c.loop-entry.invariant.knows index h on in
    first_illegal index h all (reading_of c.loop-entry.reading) i c.entry-item.result on.entries c.loop-entry-test.true c.entry-item.is k
    (sym (follows_is index here (reading_of c.loop-entry.reading) c.entry-item.result k) ∙ sym (c.may_come.ensures.come (live_of here) k.pids) ∙ c.if-not-may_come.true)

pub loop-entry-preserved : goal.loop-entry-preserved
loop-entry-preserved c =
    let all = c.args.entries.now in
    let i = c.loop-entry.entry-index in
    let r : ReadingView = reading_of c.loop-entry.reading in
    let e : Entry = c.entry-item.result in
    let small = stays_small r.params r.position r.outline e i c.loop-entry.invariant.points c.loop-entry.invariant.graphs in
    let taken : reading_of c.take.new.self ≡ after r e = c.in_ok-take.ensures in
    let at = c.loop-entry.invariant.position in
    let now = ap (λ (x : ReadingView). x.position) taken in
    let rw = ap (λ (x : ReadingView). x.outline.rw) taken in
    let ros = ap (λ (x : ReadingView). x.outline.ros) taken in
    record {
      knows = λ index h on.
          let here : BasedList = with_only h (take i all) in
          let k = c.loop-entry.invariant.knows index h on in
          let may : may_follow index.params here (fold_of index here) e ≡ true = sym (follows_is index here r e k) ∙ sym (c.may_come.ensures.come (live_of here) k.pids) ∙ c.if-not-may_come.false in
          subst (λ (g : BasedList). Knows index g (reading_of c.take.new.self)) (sym (with_next h all i e c.loop-entry-test.true c.entry-item.is))
          (subst (Knows index (with_entry here e)) (sym taken) (knows_more index here r e k may));
      position = omega (arith, now, at);
      points = omega (arith, rw, small.0);
      graphs = omega (arith, ros, small.1);
    }

pub returns : goal.returns
returns c index h on = judged_all index h c.args.entries.now (reading_of c.loop-entry.reading) c.loop-entry.entry-index c.into_judged.result on.entries c.loop-entry-test.false (c.loop-entry.invariant.knows index h on) c.into_judged.ensures
