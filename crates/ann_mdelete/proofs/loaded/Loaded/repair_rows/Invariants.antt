use Rattle.std.proofs.Common.{◌≡◌, ◌++◌}
use Rattle.ann_types.specs.Kept.{rule_of}
use Rattle.ann_mdelete.specs.Rows.{repaired_rows}
use Rattle.ann_mdelete.proofs.loaded.Loaded.repair_rows.Given as goal

-- the lists of the surviving rows so far are added
abbrev pub invariant-loop-i : goal.invariant-loop-i
invariant-loop-i l = record {
  tags : l.self.tags ≡ l.fn.self.tags;
  added : l.self.lists ≡ l.fn.self.lists ++ repaired_rows (rule_of l.phase.params.now) l.phase.lists.now l.phase.decoded.now l.phase.gone.now l.first l.i;
}
