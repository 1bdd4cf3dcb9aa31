use Rattle.std.proofs.Common.{length}
use Rattle.ann_minsert.proofs.Firsts.{central_is}
use Rattle.ann_minsert.proofs.mean.mean_entry.Goals as goal

pub returns-clause-central : goal.returns-clause-central
returns-clause-central c points are =
    central_is points c.args.decoded.now are (length c.args.mean.now) c.fill_mean.new.mean c.nearest_row.result c.fill_mean.ensures c.nearest_row.ensures
