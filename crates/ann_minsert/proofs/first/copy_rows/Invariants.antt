use Rattle.std.proofs.Common.{◌≡◌, take}
use Rattle.ann_minsert.specs.Made.{vectors_in, links_in}
use Rattle.ann_minsert.proofs.first.copy_rows.Given as goal

-- the rows so far are copied
abbrev pub invariant-loop-row : goal.invariant-loop-row
invariant-loop-row l = record {
  vectors : l.decoded ≡ vectors_in (take l.row l.table.nodes);
  lists : l.lists ≡ links_in (take l.row l.table.nodes);
}
