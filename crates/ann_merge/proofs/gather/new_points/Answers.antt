use Rattle.std.proofs.Common.{◌≡◌, ◌<◌, ◌^◌, ◌++◌, map, ap, length, subst, sym, ◌∙◌, arith, All}
use Rattle.std.specs.Arc.{arc_value}
use Rattle.std.proofs.lemmas.List.Elements.{All-append}
use Rattle.ann_types.specs.declared.new_point.NewPoint.{NewPoint}
use Rattle.ann_types.specs.declared.params.Params.{Params}
use Rattle.ann_frozen.specs.Frozen.{FrozenView}
use Rattle.ann_merge.specs.Gathered.{kept_rows}
use Rattle.ann_merge.proofs.Gathered.{graph_of_index, graphs_all, graphs_more, new_each}
use Rattle.ann_merge.proofs.gather.new_points.Goals as goal

pub loop-graph-preserved : goal.loop-graph-preserved
loop-graph-preserved c =
    let gone = c.args.gone.now in
    let graph = c.deref.result.now in
    let added = c.in_ok-add_graph.ensures.added ∙ ap (λ (f : FrozenView). c.loop-graph.points.items ++ kept_rows gone f.nodes) c.deref.ensures in
    let params = ap (λ (f : FrozenView). f.params) c.deref.ensures ∙ graph_of_index arc_value c.args.params.now c.args.graphs.now c.loop-graph.graph-index c.graph-item.result c.loop-graph-test.true c.graph-item.is c.requires in
    record {
      points = graphs_more arc_value (λ (f : FrozenView). kept_rows gone f.nodes) c.args.graphs.now c.loop-graph.graph-index c.graph-item.result _ _ c.loop-graph-test.true c.graph-item.is c.loop-graph.invariant.points added;
      vectors = subst (All (λ (x : NewPoint). length x.vector ≡ c.args.params.now.d)) (sym c.in_ok-add_graph.ensures.added)
          (All-append (λ (x : NewPoint). length x.vector ≡ c.args.params.now.d) c.loop-graph.points.items (kept_rows gone graph.nodes) c.loop-graph.invariant.vectors
          (λ k d h. c.in_ok-add_graph.ensures.vectors k d h ∙ ap (λ (p : Params). p.d) params));
      tags = subst (All (λ (x : NewPoint). x.tag < 2 ^ 64)) (sym c.in_ok-add_graph.ensures.added)
          (All-append (λ (x : NewPoint). x.tag < 2 ^ 64) c.loop-graph.points.items (kept_rows gone graph.nodes) c.loop-graph.invariant.tags c.in_ok-add_graph.ensures.tags);
    }

pub returns-clause-points : goal.returns-clause-points
returns-clause-points c =
    let at_end = c.loop-graph-test.false in
    let end = c.loop-graph.auto.graph-index-end in
    graphs_all arc_value (λ (f : FrozenView). kept_rows c.args.gone.now f.nodes) c.args.graphs.now c.loop-graph.graph-index c.loop-graph.points.items (omega arith) c.loop-graph.invariant.points
    ∙ sym (new_each c.args.gone.now (map arc_value c.args.graphs.now))
