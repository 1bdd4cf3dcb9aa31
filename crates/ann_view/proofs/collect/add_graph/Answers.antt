use Rattle.std.proofs.Common.{◌≡◌, ◌<◌, ◌++◌, ℕ, List, sym, ap, subst, ◌∙◌, arith, length, map}
use Rattle.std.proofs.lemmas.List.{length-map, get_or-map}
use Rattle.ann_types.specs.Graph.{Point}
use Rattle.ann_types.specs.declared.new_point.NewPoint.{NewPoint}
use Rattle.ann_greedy.specs.Rows.{Rows}
use Rattle.ann_table.specs.Node.{Node, graph_of, node_at, nothing, point_of}
use Rattle.ann_view.specs.Collected.{Begins, alive_in}
use Rattle.ann_view.proofs.Collecting.{on_err, points_none, points_more, points_begun, points_all}
use Rattle.ann_view.proofs.collect.add_graph.Goals as goal

pub add_point-requires : goal.add_point-requires
add_point-requires g c =
    let nodes : List Node = g.G.Named.nodes c.args.graph.now in
    let count : c.count-row-end.result ≡ length nodes = c.count-row-end.ensures ∙ ap (λ (r : Rows). r.count) c.known.ensures.rows in
    let more = c.loop-row-test.true in omega arith

pub loop-row-init : goal.loop-row-init
loop-row-init g c = points_none c.args.dead.now c.args.out.now

pub loop-row-preserved : goal.loop-row-preserved
loop-row-preserved g c =
    let nodes : List Node = g.G.Named.nodes c.args.graph.now in
    let row : ℕ = c.loop-row.row in
    let point : Point = point_of nodes (node_at nodes row) in
    let count : c.count-row-end.result ≡ length nodes = c.count-row-end.ensures ∙ ap (λ (r : Rows). r.count) c.known.ensures.rows in
    let size = length-map nodes (point_of nodes) in
    let within : row < length nodes = (let more = c.loop-row-test.true in omega arith) in
    points_more c.args.dead.now (map (point_of nodes) nodes) row point _ _ _ (omega arith) (sym (get_or-map (point_of nodes) nodes row nothing point within)) c.loop-row.invariant c.in_ok-add_point.ensures.added

pub returns-in_err-add_point-clause-begun : goal.returns-in_err-add_point-clause-begun
returns-in_err-add_point-clause-begun g c =
    let points : List Point = (graph_of (g.G.Named.nodes c.args.graph.now)).points in
    on_err c.from_residual.result
    (subst (λ (t : List NewPoint). Begins t (c.args.out.now ++ alive_in c.args.dead.now points)) (sym c.in_err-add_point.ensures.kept)
    (points_begun c.args.dead.now points c.loop-row.row c.args.out.now c.loop-row.out c.loop-row.invariant))

pub returns-clause-added : goal.returns-clause-added
returns-clause-added g c =
    let nodes : List Node = g.G.Named.nodes c.args.graph.now in
    let count : c.count-row-end.result ≡ length nodes = c.count-row-end.ensures ∙ ap (λ (r : Rows). r.count) c.known.ensures.rows in
    let size = length-map nodes (point_of nodes) in
    points_all c.args.dead.now (map (point_of nodes) nodes) c.loop-row.row _ _ (let over = c.loop-row-test.false in omega arith) c.loop-row.invariant
