use Rattle.std.proofs.Common.{Bool}
use Rattle.ann_types.specs.Lists.{BasedList}
use Rattle.ann_showing.proofs.Stepping.{shown_then}
use Rattle.ann_showing.proofs.show.show_all.Goals as goal

pub show_first-requires-clause-follows : goal.show_first-requires-clause-follows
show_first-requires-clause-follows g c =
    let sound : Bool = c.requires.0 in
    let h : BasedList = c.requires.1 in
    let next = c.loop-journal.invariant.follows sound h c.requires.2 c.requires.3 in
    (sound, h, next.0, next.1)

pub loop-journal-preserved : goal.loop-journal-preserved
loop-journal-preserved g c = record {
  some = shown_then c.args.journal.now c.loop-journal.journal c.show_first.new.journal c.loop-journal.invariant.some c.show_first.ensures.some;
  follows = λ sound h shown f. let next = c.loop-journal.invariant.follows sound h shown f in c.show_first.ensures.follows sound h next.0 next.1;
}

pub returns-in_err-show_first-clause-follows : goal.returns-in_err-show_first-clause-follows
returns-in_err-show_first-clause-follows g c sound h shown f =
    let next = c.loop-journal.invariant.follows sound h shown f in
    c.show_first.ensures.follows sound h next.0 next.1

pub returns-in_err-show_first-clause-some : goal.returns-in_err-show_first-clause-some
returns-in_err-show_first-clause-some g c = shown_then c.args.journal.now c.loop-journal.journal c.show_first.new.journal c.loop-journal.invariant.some c.show_first.ensures.some
