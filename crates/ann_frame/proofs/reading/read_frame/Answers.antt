use Rattle.std.proofs.Common.{length, arith, rules, sym, subst}
use Rattle.ann_frame.specs.Found.{IsRefusedFrame}
use Rattle.ann_frame.proofs.Steps.{frame_whole, length_broken}
use Rattle.ann_frame.proofs.reading.read_frame.Goals as goal

pub returns-in_default-clause-refused : goal.returns-in_default-clause-refused
returns-in_default-clause-refused c =
    let before = length c.args.entries.now in
    subst (λ why. IsRefusedFrame c.args.d c.args.tail.now before why) (sym c.bad.ensures)
    (length_broken c.args.d c.args.tail.now before (c.in_default.ensures.short.0 (search rules)))

pub returns-clause-whole : goal.returns-clause-whole
returns-clause-whole c =
    frame_whole c.args.d c.args.tail.now c.in-Ok.size c.in-Ok.ensures.value c.part_of-part.result.now c.part_of-part.ensures c.in_ok-end.end c.args.entries.now c.read_entries.new.entries c.in_ok-end.ensures.read
    (λ i. omega (arith, c.type_inv.tail i)) (omega arith) (omega arith) (omega arith)
