use Rattle.std.proofs.Common.{◌≡◌, ◌++◌, take}
use Rattle.ann_table.specs.Node.{row_pids}
use Rattle.ann_job_tests.proofs.pids.add_graph.Given as goal

-- the rows so far
abbrev pub invariant-loop-row : goal.invariant-loop-row
invariant-loop-row l = l.pids.items ≡ l.fn.pids.items ++ row_pids (take l.row l.graph.nodes)
