use Rattle.std.proofs.Common.{◌≡◌, length}
use Rattle.ann_mdelete.specs.Rows.{left_rows}
use Rattle.ann_mplan.specs.Packing.{AreRanks}
use Rattle.ann_mplan.proofs.packing.Packing.new.Given as goal

-- the rows so far that aren't deleted, and the ranks of them all
abbrev pub invariant-loop-row : goal.invariant-loop-row
invariant-loop-row l = record {
  left : l.survivors.items ≡ left_rows l.gone 0 l.row;
  long : length l.ranks.items ≡ l.row;
  ranked : AreRanks l.survivors.items l.ranks.items;
}
