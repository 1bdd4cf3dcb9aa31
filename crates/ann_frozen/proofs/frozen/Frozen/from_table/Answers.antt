use Rattle.std.proofs.Common.{List, sym, ap, subst, ◌∙◌}
use Rattle.ann_types.specs.declared.params.Params.{Params}
use Rattle.ann_table.specs.Node.{Node, graph_of}
use Rattle.ann_table.specs.Table.{AreNodes}
use Rattle.ann_frozen.proofs.Same.{graph_same, sound_frozen}
use Rattle.ann_frozen.proofs.frozen.Frozen.from_table.Goals as goal

pub invariant_of-result : goal.invariant_of-result
invariant_of-result c =
    subst (λ (p : Params). AreNodes p c.in_ok-rows.rows.nodes) (sym c.params.ensures)
    (subst (λ (t : List Node). AreNodes c.args.table.now.params t) (sym c.in_ok-rows.ensures)
    (sound_frozen c.args.table.now.params c.args.table.now.nodes c.known.ensures))

pub returns-clause-graph : goal.returns-clause-graph
returns-clause-graph c = ap graph_of c.in_ok-rows.ensures ∙ graph_same c.args.table.now.nodes
