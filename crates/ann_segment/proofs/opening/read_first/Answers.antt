use Rattle.std.proofs.Common.{ap, ◌∙◌, arith}
use Rattle.ann_fault.specs.Counts.{next_count}
use Rattle.ann_segment.specs.Opening.{header_in}
use Rattle.ann_segment.proofs.Rows.{segment_some}
use Rattle.ann_segment.proofs.opening.read_first.Goals as goal

pub returns-then-long-clause-bad : goal.returns-then-long-clause-bad
returns-then-long-clause-bad g c = λ tells is.
    let h = header_in (g.S.Sealed.bytes c.args.seal.now) in
    λ begins. omega (arith, c.if-long.true, c.in_ok-long.ensures.value tells, begins.long, segment_some h.count h.m)

pub returns-in-None-clause-reads : goal.returns-in-None-clause-reads
returns-in-None-clause-reads g c = (1, omega arith, tt, c.in_ok-read.ensures.counted ∙ ap next_count c.in_ok-long.ensures.reads)
