use Rattle.std.proofs.Common.{take, arith}
use Rattle.std.specs.Arc.{arc_value}
use Rattle.ann_view.proofs.Shared.{shared_more, shared_all}
use Rattle.ann_view.proofs.frozen_list.shared.Goals as goal

pub loop-graph-preserved : goal.loop-graph-preserved
loop-graph-preserved c =
    shared_more arc_value (take c.args.count c.args.graphs.now) c.loop-graph.first.items c.push.new.self.items c.loop-graph.graph-index c.in_ok-clone.field-0 c.graph-item.result c.loop-graph-test.true c.graph-item.is c.in_ok-clone.ensures.cases c.in_ok-push.ensures.items c.loop-graph.invariant

pub returns : goal.returns
returns c =
    shared_all arc_value c.args.graphs.now c.loop-graph.first.items c.args.count c.loop-graph.graph-index (let past = c.loop-graph-test.false in let within = c.loop-graph.auto.graph-index-end in omega arith) c.loop-graph.invariant
