use Rattle.std.proofs.Common.{ap, sym, ◌∙◌, subst, arith}
use Rattle.ann_block.specs.Node.{NodeFields, IsNodeOf, node_bytes}
use Rattle.ann_block.proofs.Nodes.{node_grammar, node_sound}
use Rattle.ann_block.proofs.Rules.{when_ok}
use Rattle.ann_block.proofs.node.read_node.Goals as goal

pub returns-clause-grammar : goal.returns-clause-grammar
returns-clause-grammar c =
    let params = c.args.params.now in
    when_ok c.judged_node.result
    (λ node is.
    node_grammar c.args.block.now c.args.pid c.args.row c.args.count params (λ i. omega (arith, c.type_inv.block i)) is.0 params.in_limits.components.1 params.in_limits.neighbours.1
    ∙ ap (λ (n : NodeFields). node_bytes c.args.pid n.tag n.vector n.neighbours) (sym is.1))
    c.judged_node.ensures.read

pub returns-clause-sound : goal.returns-clause-sound
returns-clause-sound c =
    let params = c.args.params.now in
    when_ok c.judged_node.result
    (λ node is.
    subst (IsNodeOf c.args.row c.args.count params) (sym is.1)
    (node_sound c.args.block.now c.args.pid c.args.row c.args.count params (λ i. omega (arith, c.type_inv.block i)) is.0 params.in_limits.components.1))
    c.judged_node.ensures.read
