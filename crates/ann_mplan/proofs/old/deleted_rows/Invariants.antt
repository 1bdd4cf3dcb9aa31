use Rattle.std.proofs.Common.{◌≡◌, take}
use Rattle.ann_mplan.specs.Old.{gone_in}
use Rattle.ann_mplan.proofs.old.deleted_rows.Given as goal

-- the rows so far
abbrev pub invariant-loop-row : goal.invariant-loop-row
invariant-loop-row g l = l.gone.items ≡ gone_in (g.D.Deleted.pids l.dead) (take l.row l.segment.items)
