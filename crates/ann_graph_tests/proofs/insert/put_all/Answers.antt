use Rattle.std.proofs.Common.{◌+◌, ap, ◌∙◌}
use Rattle.ann_insert.proofs.Pids.{one_more, pids_below}
use Rattle.ann_graph_tests.proofs.insert.put_all.Goals as goal

pub loop-i-preserved : goal.loop-i-preserved
loop-i-preserved c = record {
  params = c.put.ensures.params ∙ c.loop-i.invariant.params;
  count = one_more c.loop-i.i c.loop-i.table.nodes c.put.new.table.nodes c.in_ok-put.ensures.pids ∙ ap (λ k. k + 1) c.loop-i.invariant.count;
  below = pids_below c.loop-i.i c.loop-i.table.nodes c.put.new.table.nodes c.in_ok-put.ensures.pids c.loop-i.invariant.below;
}
