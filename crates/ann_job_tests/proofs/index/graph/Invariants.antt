use Rattle.std.proofs.Common.{◌≡◌, ◌<◌}
use Rattle.std.specs.Prelude.{All}
use Rattle.ann_job_tests.proofs.index.graph.Given as goal

-- the points so far have Pids below the next one
abbrev pub invariant-loop-pid : goal.invariant-loop-pid
invariant-loop-pid l = record {
  params : l.table.params ≡ l.params;
  below : All (λ x. x.pid < l.pid) l.table.nodes;
}
