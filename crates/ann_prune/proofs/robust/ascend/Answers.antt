use Rattle.std.proofs.lemmas.List.Sorted.{IsNonDecreasingBy-from_sort}
use Rattle.ann_prune.proofs.Prunes.{ascending_sorted}
use Rattle.ann_prune.proofs.robust.ascend.Goals as goal

pub returns : goal.returns
returns c = ascending_sorted c.args.rows.now c.sort_unstable.new.self c.sort_unstable.ensures.permutation c.requires (IsNonDecreasingBy-from_sort (λ n. n) c.sort_unstable.new.self c.sort_unstable.ensures.sorted)
