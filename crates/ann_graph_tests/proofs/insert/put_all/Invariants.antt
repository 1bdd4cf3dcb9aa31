use Rattle.std.proofs.Common.{◌≡◌, ◌<◌, length}
use Rattle.std.specs.Prelude.{All}
use Rattle.ann_graph_tests.proofs.insert.put_all.Given as goal

-- the points so far are there, with the Pids below i
abbrev pub invariant-loop-i : goal.invariant-loop-i
invariant-loop-i l = record {
  params : l.table.params ≡ l.fn.table.params;
  count : length l.table.nodes ≡ l.i;
  below : All (λ x. x.pid < l.i) l.table.nodes;
}
