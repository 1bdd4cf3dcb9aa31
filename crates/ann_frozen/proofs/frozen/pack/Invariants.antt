use Rattle.std.proofs.Common.{◌≡◌, take}
use Rattle.ann_frozen.specs.Frozen.{frozen_of}
use Rattle.ann_frozen.proofs.frozen.pack.Given as goal

-- the rows so far
abbrev pub invariant-loop-row : goal.invariant-loop-row
invariant-loop-row l = record {
  width : l.rows.width ≡ l.table.params.d;
  so_far : l.rows.nodes ≡ frozen_of (take l.row l.table.nodes);
}
