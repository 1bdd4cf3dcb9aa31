use Rattle.std.proofs.Common.{◌≡◌, ◌≤◌, ◌*◌, take}
use Rattle.ann_frozen.specs.Frozen.{edges_of}
use Rattle.ann_frozen.proofs.frozen.edges.Given as goal

-- the neighbours of the rows so far, of which none has more than 128
abbrev pub invariant-loop-row : goal.invariant-loop-row
invariant-loop-row l = record {
  so_far : l.edges ≡ edges_of (take l.row l.table.nodes);
  small : l.edges ≤ l.row * 128;
}
