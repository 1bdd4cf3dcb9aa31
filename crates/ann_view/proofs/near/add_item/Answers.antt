use Rattle.ann_beam.specs.Desk.{result_of}
use Rattle.ann_view.specs.Near.{row_point}
use Rattle.ann_view.proofs.Nearest.{item_alive, item_beyond, item_dead}
use Rattle.ann_view.proofs.near.add_item.Goals as goal

pub returns-then-not-contains-clause-points : goal.returns-then-not-contains-clause-points
returns-then-not-contains-clause-points g c =
    item_alive (result_of c.args.desk.now).limit c.args.dead.now (row_point (g.G.Named.nodes c.args.graph.now) c.args.item) c.pid-pid.result c.tag.result c.contains.result (result_of c.add.new.self).points (result_of c.args.desk.now).points c.contains.ensures c.if-not-contains.true c.pid-pid.ensures c.tag.ensures c.add.ensures.points

pub returns-else-not-contains-clause-points : goal.returns-else-not-contains-clause-points
returns-else-not-contains-clause-points g c =
    item_dead (result_of c.args.desk.now).limit c.args.dead.now (row_point (g.G.Named.nodes c.args.graph.now) c.args.item) c.pid-pid.result c.contains.result (result_of c.args.desk.now).points c.contains.ensures c.if-not-contains.false c.pid-pid.ensures

pub returns-then-is_beyond-clause-points : goal.returns-then-is_beyond-clause-points
returns-then-is_beyond-clause-points g c =
    item_beyond (result_of c.args.desk.now).limit c.args.dead.now (row_point (g.G.Named.nodes c.args.graph.now) c.args.item) (result_of c.args.desk.now).points (c.is_beyond.ensures.stays c.if-is_beyond.true (row_point (g.G.Named.nodes c.args.graph.now) c.args.item).pid (row_point (g.G.Named.nodes c.args.graph.now) c.args.item).tag)
