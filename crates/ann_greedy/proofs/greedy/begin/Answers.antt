use Rattle.std.proofs.Common.{[]}
use Rattle.ann_greedy.specs.Rows.{far_row}
use Rattle.ann_greedy.proofs.Pooling.{shows_none}
use Rattle.ann_greedy.proofs.greedy.begin.Goals as goal

pub returns-clause-shows : goal.returns-clause-shows
returns-clause-shows g c = c.offer.ensures.shows [] [] (shows_none (far_row (g.G.Graph.rows c.args.graph.now) c.args.query.now) _ _ c.clear.ensures)
