use Rattle.ann_minsert.proofs.TableRows.{above_is}
use Rattle.ann_minsert.proofs.first.put_all.Goals as goal

pub put-requires-clause-above : goal.put-requires-clause-above
put-requires-clause-above c = above_is c.args.points.now c.loop-point.point-index c.loop-point.table.nodes c.point-item.result c.requires.rising c.loop-point.invariant.pids c.loop-point-test.true c.point-item.is
