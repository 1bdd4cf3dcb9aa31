use Rattle.std.proofs.Common.{◌≡◌, ◌<◌, ℕ, List, length, map, get_or, ap, ◌∙◌, arith}
use Rattle.std.specs.Arc.{arc_value}
use Rattle.std.proofs.lemmas.List.{length-map}
use Rattle.ann_table.specs.Node.{graph_of}
use Rattle.ann_frozen.specs.Frozen.{FrozenView}
use Rattle.ann_beam.specs.Desk.{result_of}
use Rattle.ann_beam.specs.Ranking.{Ranked, with_all}
use Rattle.ann_view.specs.Near.{near_points, AreInside}
use Rattle.ann_view.proofs.Nearest.{one_of, graphs_more, all_more, shared_at}
use Rattle.ann_view.proofs.near.add_near_frozen.Goals as goal

pub add_near-requires : goal.add_near-requires
add_near-requires c =
    let i : ℕ = c.loop-graph.graph-index in
    let all : List FrozenView = map arc_value c.args.graphs.now in
    let frozen : FrozenView = c.deref-frozen.result.now in
    let within : i < length all = (let size = length-map c.args.graphs.now arc_value in let more = c.loop-graph-test.true in omega arith) in
    one_of (λ (f : FrozenView). length c.args.ask.now.vector ≡ f.params.d) all i frozen within (shared_at arc_value c.args.graphs.now i c.graph-item.result frozen c.loop-graph-test.true c.graph-item.is c.deref-frozen.ensures) c.requires

pub loop-graph-preserved : goal.loop-graph-preserved
loop-graph-preserved c =
    let i : ℕ = c.loop-graph.graph-index in
    let all : List FrozenView = map arc_value c.args.graphs.now in
    let frozen : FrozenView = c.deref-frozen.result.now in
    let within : i < length all = (let size = length-map c.args.graphs.now arc_value in let more = c.loop-graph-test.true in omega arith) in
    let at : frozen ≡ get_or all i frozen = shared_at arc_value c.args.graphs.now i c.graph-item.result frozen c.loop-graph-test.true c.graph-item.is c.deref-frozen.ensures in
    let points : FrozenView → List Ranked = λ (f : FrozenView). near_points c.args.dead.now (graph_of f.nodes) c.args.ask.now.vector c.args.ask.now.l in
    record {
      limit = c.add_near.ensures.limit ∙ c.loop-graph.invariant.limit;
      points = graphs_more (result_of c.args.desk.now).limit points all i frozen (result_of c.args.desk.now).points (result_of c.loop-graph.desk).points (result_of c.add_near.new.desk).points within at c.loop-graph.invariant.points
          (c.add_near.ensures.points ∙ ap (λ n. with_all n (points frozen) (result_of c.loop-graph.desk).points) c.loop-graph.invariant.limit);
      inside = all_more (λ (f : FrozenView). AreInside c.args.ask.now.vector c.args.ask.now.l (graph_of f.nodes)) all i frozen within at c.loop-graph.invariant.inside c.add_near.ensures.inside;
    }
