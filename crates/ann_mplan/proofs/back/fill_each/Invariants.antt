use Rattle.std.proofs.Common.{◌+◌, ◌++◌, [], take, get_or}
use Rattle.ann_mplan.specs.Back.{AreFilled, linking, once}
use Rattle.ann_mplan.proofs.back.fill_each.Given as goal

-- the later row stands in the places of the rows of its list so far
abbrev pub invariant-loop-row : goal.invariant-loop-row
invariant-loop-row l = AreFilled l.base_rows l.links (λ r. linking l.base_rows l.links l.i r ++ once (take l.row-index (get_or l.links l.i [])) (l.base_rows + l.i) r) l.ends l.numbers
