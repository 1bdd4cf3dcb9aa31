use Rattle.std.proofs.Common.{◌++◌, ap, map, ◌∙◌, arith}
use Rattle.std.specs.Arc.{arc_value}
use Rattle.std.specs.Option.{option_map}
use Rattle.ann_segment.specs.Directory.{Item}
use Rattle.ann_table.specs.Node.{row_pids}
use Rattle.ann_frozen.specs.Frozen.{FrozenView}
use Rattle.ann_mlaws.specs.Rows.{old_items}
use Rattle.ann_job_tests.proofs.AllPids.{all_graphs, one_more}
use Rattle.ann_job_tests.proofs.pids.pids_in.Goals as goal

pub loop-graph-preserved : goal.loop-graph-preserved
loop-graph-preserved c =
    let front = map (λ (item : Item). item.0) (old_items (option_map arc_value c.args.old.now)) in
    let added = c.in_ok-add_graph.ensures ∙ ap (λ (f : FrozenView). c.loop-graph.pids.items ++ row_pids f.nodes) c.deref.ensures in
    one_more arc_value front c.args.frozen.now c.loop-graph.graph-index c.graph-item.result _ _ c.loop-graph-test.true c.graph-item.is c.loop-graph.invariant added

pub returns : goal.returns
returns c =
    let front = map (λ (item : Item). item.0) (old_items (option_map arc_value c.args.old.now)) in
    let at_end = c.loop-graph-test.false in
    let end = c.loop-graph.auto.graph-index-end in
    all_graphs arc_value front c.args.frozen.now c.loop-graph.graph-index c.loop-graph.pids.items (omega arith) c.loop-graph.invariant
