use Rattle.std.proofs.Common.{◌≡◌, ◌++◌, ◌∷◌, take}
use Rattle.ann_types.specs.Merge.{without}
use Rattle.ann_mdelete.specs.Rows.{gone_rows, behind}
use Rattle.ann_mdelete.proofs.delete.Phase.gather_behind.Given as goal

-- the lists of the deleted ones so far are added
abbrev pub invariant-loop-row : goal.invariant-loop-row
invariant-loop-row l = l.candidates.rows ≡ l.fn.candidates.rows ++ without (l.p ∷ gone_rows l.self.gone.now) (behind l.self.lists.now l.self.gone.now (take l.row-index l.list))
