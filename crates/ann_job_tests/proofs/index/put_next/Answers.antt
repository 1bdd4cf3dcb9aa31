use Rattle.std.proofs.Common.{◌<◌, ◌+◌}
use Rattle.std.specs.Prelude.{Result, Ok, Err, All, OnOk}
use Rattle.ann_table.specs.Node.{Node}
use Rattle.ann_insert.proofs.Pids.{pids_below}
use Rattle.ann_job_tests.proofs.index.put_next.Goals as goal

so_far : {A E : Type 0} (result : Result A E) (P Q : Type 0) → (P → Q) → OnOk result P → OnOk result Q
so_far (Ok value) P Q f h = f h
so_far (Err error) P Q f h = h

pub returns-clause-below : goal.returns-clause-below
returns-clause-below c =
    so_far c.put.result _ (All (λ (x : Node). x.pid < c.args.pid + 1) c.put.new.table.nodes)
    (λ pids. pids_below c.args.pid c.args.table.now.nodes c.put.new.table.nodes pids c.requires.below) c.put.ensures.pids
