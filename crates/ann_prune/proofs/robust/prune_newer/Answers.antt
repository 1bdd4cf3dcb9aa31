use Rattle.std.proofs.Common.{eqb, sym, subst, ◌∙◌, map}
use Rattle.ann_prune.specs.Rows.{row_of}
use Rattle.std.specs.List.{IsDistinct}
use Rattle.ann_types.specs.Kept.{rule_of}
use Rattle.ann_prune.proofs.Prunes.{keep_distinct}
use Rattle.ann_prune.proofs.robust.prune_newer.Goals as goal

pub ascend-requires : goal.ascend-requires
ascend-requires g c = subst (IsDistinct eqb) (sym (c.as_mut_slice.ensures.value ∙ c.keep_in_order.ensures)) (keep_distinct (rule_of c.args.params.now) (g.M.Metric.apart c.args.metric.now) c.args.p (map row_of c.deref_mut.result.now))
