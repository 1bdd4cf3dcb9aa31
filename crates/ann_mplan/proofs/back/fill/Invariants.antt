use Rattle.ann_mplan.specs.Back.{AreFilled, linking}
use Rattle.ann_mplan.proofs.back.fill.Given as goal

-- the later rows so far are put
abbrev pub invariant-loop-i : goal.invariant-loop-i
invariant-loop-i l = AreFilled l.base_rows l.links (linking l.base_rows l.links l.i) l.ends l.numbers
