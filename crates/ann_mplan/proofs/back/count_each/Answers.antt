use Rattle.std.proofs.Common.{refl, get_or}
use Rattle.ann_types.proofs.Sets.{rises_from_increasing}
use Rattle.ann_mplan.proofs.Sizes.{counted_more}
use Rattle.ann_mplan.proofs.back.count_each.Goals as goal

pub loop-row-preserved : goal.loop-row-preserved
loop-row-preserved c = counted_more c.args.sizes.now c.loop-row.sizes c.args.list.now c.loop-row.row-index (get_or c.args.list.now c.loop-row.row-index 0) (rises_from_increasing c.args.list.now c.requires.rising) c.loop-row-test.true refl c.loop-row.invariant
