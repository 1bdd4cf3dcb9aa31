use Rattle.std.proofs.Common.{arith, sym, subst}
use Rattle.ann_entry.proofs.Spelled.{at_least_five}
use Rattle.ann_frame.specs.Found.{HasEntries}
use Rattle.ann_frame.proofs.Steps.{none_past, none_at, read_next}
use Rattle.ann_frame.proofs.reading.read_entries.Goals as goal

pub loop-at-smaller : goal.loop-at-smaller
loop-at-smaller c = let some = at_least_five c.in-Ok.entry in omega (arith, some, c.in-Ok.ensures.after, c.loop-at-test.true)

pub loop-at-preserved : goal.loop-at-preserved
loop-at-preserved c =
    subst (λ e. HasEntries c.args.d c.args.bytes.now c.in-Ok.next c.args.entries.now e) (sym c.in_ok-push-in-Ok.ensures.pushed)
    (read_next c.args.d c.args.bytes.now c.loop-at.at c.in-Ok.next c.args.entries.now c.loop-at.entries c.in-Ok.entry c.loop-at.invariant (omega arith) c.in-Ok.ensures.stands c.in-Ok.ensures.after)

pub returns-clause-ends : goal.returns-clause-ends
returns-clause-ends c = none_past c.args.d c.args.bytes.now c.loop-at.at (omega arith)

pub returns-in-Err-Kind-clause-ends : goal.returns-in-Err-Kind-clause-ends
returns-in-Err-Kind-clause-ends c = none_at c.args.d c.args.bytes.now c.loop-at.at (λ entry stands. absurd (let never = c.in-Err-Kind.ensures.only entry stands in cc))

pub returns-in-Err-Short-clause-ends : goal.returns-in-Err-Short-clause-ends
returns-in-Err-Short-clause-ends c = none_at c.args.d c.args.bytes.now c.loop-at.at (λ entry stands. absurd (let never = c.in-Err-Short.ensures.only entry stands in cc))
