use Rattle.std.proofs.Common.{◌≡◌, ◌≤◌, ◌*◌, take}
use Rattle.ann_pq.specs.Tables.{looked_up}
use Rattle.ann_pq.proofs.tables.Tables.distance.Given as goal

abbrev pub invariant-loop-part : goal.invariant-loop-part
invariant-loop-part l = record {
  sum : l.sum ≡ looked_up (take l.part l.self) (take l.part l.code);
  small : l.sum ≤ 66585600 * l.part;
}
