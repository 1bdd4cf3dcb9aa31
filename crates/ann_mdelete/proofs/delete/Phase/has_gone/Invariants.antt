use Rattle.std.proofs.Common.{◌≡◌, drop}
use Rattle.std.specs.List.{list_any}
use Rattle.ann_types.specs.Order.{has}
use Rattle.ann_mdelete.specs.Rows.{gone_rows}
use Rattle.ann_mdelete.proofs.delete.Phase.has_gone.Given as goal

-- none so far is deleted
abbrev pub invariant-loop-row : goal.invariant-loop-row
invariant-loop-row l = list_any (has (gone_rows l.self.gone.now)) (drop l.row-index l.list) ≡ list_any (has (gone_rows l.self.gone.now)) l.list
