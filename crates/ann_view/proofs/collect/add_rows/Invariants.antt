use Rattle.ann_view.specs.Collected.{HasAdded, gathering, rows_below}
use Rattle.ann_view.proofs.collect.add_rows.Given as goal

-- the rows so far were added
abbrev pub invariant-loop-row : goal.invariant-loop-row
invariant-loop-row g l = HasAdded g.S.Sealed.tells g.S.Sealed.bytes l.segment l.params l.dead (rows_below l.row) (gathering l.fn.out (g.E.Eye.reads l.fn.eye) (g.E.Eye.faults l.fn.eye)) (gathering l.out (g.E.Eye.reads l.eye) (g.E.Eye.faults l.eye))
