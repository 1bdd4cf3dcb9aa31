use Rattle.std.proofs.Common.{List, ap, ◌∙◌}
use Rattle.ann_beam.specs.Desk.{result_of}
use Rattle.ann_beam.specs.Ranking.{Ranked, with_all}
use Rattle.ann_view.proofs.Nearest.{walk_left, items_rows, items_points, near_inside}
use Rattle.ann_view.proofs.near.add_near.Goals as goal

pub add_items-requires : goal.add_items-requires
add_items-requires g c =
    let params = g.G.Named.params c.args.graph.now in
    let nodes = g.G.Named.nodes c.args.graph.now in
    items_rows params nodes c.args.ask.now.vector c.args.ask.now.l c.known.ensures.nodes c.walk.new.pool.items
    (walk_left params nodes (g.G.Graph.rows c.args.graph.now) c.bytes.result.now c.args.ask.now.vector c.clear.new.self c.args.ask.now.l c.walk.new.pool.items c.walk.ensures.near c.known.ensures.rows c.bytes.ensures.components c.clear.ensures)

pub returns-clause-points : goal.returns-clause-points
returns-clause-points g c =
    let params = g.G.Named.params c.args.graph.now in
    let nodes = g.G.Named.nodes c.args.graph.now in
    c.add_items.ensures.points
    ∙ ap (λ (t : List Ranked). with_all (result_of c.args.desk.now).limit t (result_of c.args.desk.now).points)
    (items_points params nodes c.args.ask.now.vector c.args.ask.now.l c.known.ensures.nodes c.args.dead.now c.walk.new.pool.items
    (walk_left params nodes (g.G.Graph.rows c.args.graph.now) c.bytes.result.now c.args.ask.now.vector c.clear.new.self c.args.ask.now.l c.walk.new.pool.items c.walk.ensures.near c.known.ensures.rows c.bytes.ensures.components c.clear.ensures))

pub returns-clause-inside : goal.returns-clause-inside
returns-clause-inside g c = near_inside (g.G.Named.params c.args.graph.now) (g.G.Named.nodes c.args.graph.now) c.args.ask.now.vector c.args.ask.now.l c.known.ensures.nodes
