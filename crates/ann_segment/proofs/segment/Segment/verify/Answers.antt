use Rattle.std.proofs.Common.{rules, sym}
use Rattle.ann_segment.specs.Segment.{IsNode}
use Rattle.ann_segment.proofs.Rows.{node_moved}
use Rattle.ann_segment.proofs.segment.Segment.verify.Goals as goal

pub returns-then-is_node-clause-judged : goal.returns-then-is_node-clause-judged
returns-then-is_node-clause-judged g c =
    let is : IsNode c.read.new.buf c.pid-pid.result c.args.row c.count-count.result c.code.result.now c.args.book.now c.args.params.now = search rules in
    node_moved _ _ _ _ _ _ _ _ _ _ c.pid-pid.ensures c.count-count.ensures c.code.ensures.value is

pub returns-else-is_node-clause-judged : goal.returns-else-is_node-clause-judged
returns-else-is_node-clause-judged g c =
    let other : IsNode c.read.new.buf c.pid-pid.result c.args.row c.count-count.result c.code.result.now c.args.book.now c.args.params.now → ⊥ = search rules in (
      c.node_block-block.ensures.value,
      λ node. other (node_moved _ _ _ _ _ _ _ _ _ _ (sym c.pid-pid.ensures) (sym c.count-count.ensures) (sym c.code.ensures.value) node),
    )
