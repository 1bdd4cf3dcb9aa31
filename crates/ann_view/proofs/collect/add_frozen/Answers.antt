use Rattle.std.proofs.Common.{◌≡◌, ◌<◌, ℕ, List, length, map, get_or, arith}
use Rattle.std.specs.Arc.{arc_value}
use Rattle.std.proofs.lemmas.List.{length-map}
use Rattle.ann_types.specs.Graph.{Point}
use Rattle.ann_table.specs.Node.{graph_of}
use Rattle.ann_frozen.specs.Frozen.{FrozenView}
use Rattle.ann_view.proofs.Nearest.{shared_at}
use Rattle.ann_view.proofs.Collecting.{on_err, points_none, graphs_more, graphs_begun, graphs_all}
use Rattle.ann_view.proofs.collect.add_frozen.Goals as goal

abbrev points : FrozenView → List Point
points f = (graph_of f.nodes).points

pub loop-graph-init : goal.loop-graph-init
loop-graph-init c = points_none c.args.dead.now c.args.out.now

pub loop-graph-preserved : goal.loop-graph-preserved
loop-graph-preserved c =
    let i : ℕ = c.loop-graph.graph-index in
    let all : List FrozenView = map arc_value c.args.graphs.now in
    let frozen : FrozenView = c.deref-frozen.result.now in
    let within : i < length all = (let size = length-map c.args.graphs.now arc_value in let more = c.loop-graph-test.true in omega arith) in
    let at : frozen ≡ get_or all i frozen = shared_at arc_value c.args.graphs.now i c.graph-item.result frozen c.loop-graph-test.true c.graph-item.is c.deref-frozen.ensures in
    graphs_more c.args.dead.now points all i frozen _ _ _ within at c.loop-graph.invariant c.in_ok-add_graph.ensures.added

pub returns-in_err-add_graph-clause-begun : goal.returns-in_err-add_graph-clause-begun
returns-in_err-add_graph-clause-begun c =
    let i : ℕ = c.loop-graph.graph-index in
    let all : List FrozenView = map arc_value c.args.graphs.now in
    let frozen : FrozenView = c.deref-frozen.result.now in
    let within : i < length all = (let size = length-map c.args.graphs.now arc_value in let more = c.loop-graph-test.true in omega arith) in
    let at : frozen ≡ get_or all i frozen = shared_at arc_value c.args.graphs.now i c.graph-item.result frozen c.loop-graph-test.true c.graph-item.is c.deref-frozen.ensures in
    on_err c.from_residual.result (graphs_begun c.args.dead.now points all i frozen _ _ _ within at c.loop-graph.invariant c.in_err-add_graph.ensures.begun)

pub returns-clause-added : goal.returns-clause-added
returns-clause-added c =
    let size = length-map c.args.graphs.now arc_value in
    graphs_all c.args.dead.now points (map arc_value c.args.graphs.now) c.loop-graph.graph-index _ _ (let over = c.loop-graph-test.false in omega arith) c.loop-graph.invariant
