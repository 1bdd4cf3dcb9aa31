use Rattle.std.proofs.Common.{◌≡◌, ◌++◌, ◌∷◌, take}
use Rattle.ann_types.specs.Merge.{without}
use Rattle.ann_mdelete.specs.Rows.{gone_rows}
use Rattle.ann_mdelete.proofs.delete.Phase.gather.Given as goal

-- those so far that are left are added
abbrev pub invariant-loop-row : goal.invariant-loop-row
invariant-loop-row l = l.candidates.rows ≡ l.fn.candidates.rows ++ without (l.p ∷ gone_rows l.self.gone.now) (take l.row-index l.list)
