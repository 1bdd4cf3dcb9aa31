use Rattle.std.proofs.Common.{◌≡◌, length, ap, arith}
use Rattle.ann_prune.specs.Newer.{fresh_of}
use Rattle.ann_prune.proofs.Prunes.{fresh_few}
use Rattle.ann_prune.proofs.robust.keep_row.Goals as goal

pub push-requires-then-newer-row : goal.push-requires-then-newer-row
push-requires-then-newer-row c =
    let same : length c.args.fresh.now.items ≡ length (fresh_of c.args.newer c.args.out.now.items) = ap length c.requires.fresh in
    let few = fresh_few c.args.newer c.args.out.now.items in (omega arith, omega arith)
