use Rattle.std.proofs.Common.{◌++◌, ◌∙◌, List, ap, subst}
use Rattle.std.specs.Prelude.{flat_map}
use Rattle.ann_types.specs.Graph.{Graph, Point}
use Rattle.ann_types.specs.Fold.{all_points}
use Rattle.ann_table.specs.Node.{graph_of}
use Rattle.ann_frozen.specs.Frozen.{FrozenView}
use Rattle.ann_view.specs.Temp.{Temp}
use Rattle.ann_view.specs.Collected.{Begins, alive_in}
use Rattle.ann_view.proofs.Collecting.{memory_begun, memory_joined, on_err}
use Rattle.ann_view.proofs.temp.TempIndex.collect.Goals as goal

abbrev graph : FrozenView → Graph
graph f = graph_of f.nodes

pub returns-in_err-add_frozen-clause-begun : goal.returns-in_err-add_frozen-clause-begun
returns-in_err-add_frozen-clause-begun c =
    let points : List FrozenView → List Point = flat_map (λ (f : FrozenView). (graph f).points) in
    on_err c.from_residual.result
    (subst (λ (t : Temp). Begins c.add_frozen.new.out (c.args.out.now ++ alive_in t.state.dead (all_points t.state))) c.self.view_is
    (memory_begun c.self.inside.dead graph c.self.inside.ros (graph_of c.self.inside.rw.nodes).points c.args.out.now c.add_frozen.new.out
    (subst (λ (t : List FrozenView). Begins c.add_frozen.new.out (c.args.out.now ++ alive_in c.self.inside.dead (points t))) c.graphs.ensures c.in_err-add_frozen.ensures.begun)))

pub returns-in_err-add_graph-clause-begun : goal.returns-in_err-add_graph-clause-begun
returns-in_err-add_graph-clause-begun c =
    let points : List FrozenView → List Point = flat_map (λ (f : FrozenView). (graph f).points) in
    on_err c.from_residual-in_err-add_graph.result
    (subst (λ (t : Temp). Begins c.add_graph.new.out (c.args.out.now ++ alive_in t.state.dead (all_points t.state))) c.self.view_is
    (subst (Begins c.add_graph.new.out)
    (memory_joined c.self.inside.dead graph c.self.inside.ros (graph_of c.self.inside.rw.nodes).points c.args.out.now c.add_frozen.new.out
    (c.in_ok-add_frozen.ensures.added ∙ ap (λ (t : List FrozenView). c.args.out.now ++ alive_in c.self.inside.dead (points t)) c.graphs.ensures))
    c.in_err-add_graph.ensures.begun))

pub returns-clause-added : goal.returns-clause-added
returns-clause-added c =
    let points : List FrozenView → List Point = flat_map (λ (f : FrozenView). (graph f).points) in
    c.in_ok-add_graph.ensures.added
    ∙ memory_joined c.self.inside.dead graph c.self.inside.ros (graph_of c.self.inside.rw.nodes).points c.args.out.now c.add_frozen.new.out
    (c.in_ok-add_frozen.ensures.added ∙ ap (λ (t : List FrozenView). c.args.out.now ++ alive_in c.self.inside.dead (points t)) c.graphs.ensures)
    ∙ ap (λ (t : Temp). c.args.out.now ++ alive_in t.state.dead (all_points t.state)) c.self.view_is
