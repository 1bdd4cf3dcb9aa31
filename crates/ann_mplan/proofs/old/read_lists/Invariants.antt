use Rattle.ann_mdelete.specs.Refusals.{counts_of}
use Rattle.ann_mplan.specs.Old.{HasFirstLists}
use Rattle.ann_mplan.proofs.Reading.{rows_before}
use Rattle.ann_mplan.proofs.old.read_lists.Given as goal
use Rattle.std.proofs.Common.{length}

-- the pieces so far are read
abbrev pub invariant-loop-at : goal.invariant-loop-at
invariant-loop-at g l = HasFirstLists g.S.Sealed.tells g.S.Sealed.bytes l.segment l.params (rows_before (length l.segment.items) l.at) l.at l.out (counts_of (g.E.Eye.reads l.fn.eye) (g.E.Eye.faults l.fn.eye)) (counts_of (g.E.Eye.reads l.eye) (g.E.Eye.faults l.eye))
