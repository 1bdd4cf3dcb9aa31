use Rattle.std.proofs.Common.{◌/◌, ap, ◌∙◌, length}
use Rattle.ann_minsert.specs.Mean.{sum_at}
use Rattle.ann_minsert.proofs.Firsts.{zeros_at, mean_is}
use Rattle.ann_minsert.proofs.mean.fill_mean.Goals as goal

pub add_all-requires-clause-none : goal.add_all-requires-clause-none
add_all-requires-clause-none c = zeros_at 1024

pub returns : goal.returns
returns c =
    mean_is c.args.decoded.now (length c.args.mean.now) c.floor_each.new.mean c.floor_each.ensures.length
    (λ i l. c.floor_each.ensures.mean i l ∙ ap (λ n. n / c.len.result) (c.add_all.ensures.sums.value i l) ∙ ap (λ n. sum_at c.args.decoded.now i / n) c.len.ensures)
