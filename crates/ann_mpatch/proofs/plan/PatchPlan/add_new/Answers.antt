use Rattle.std.proofs.Common.{sym, ap, subst, arith, length}
use Rattle.std.specs.List.Sorted.{IsStrictlyIncreasing}
use Rattle.ann_mpatch.proofs.Listed.{list_few, list_rises}
use Rattle.ann_mpatch.proofs.plan.PatchPlan.add_new.Goals as goal

pub add_block-requires-clause-degree : goal.add_block-requires-clause-degree
add_block-requires-clause-degree g c =
    let plan = c.args.self.now in
    let few = list_few plan c.requires.plan c.args.row c.requires.row in
    let size = ap length c.requires.list in
    let most = plan.params.in_limits.neighbours in omega arith

pub add_block-requires-clause-ascending : goal.add_block-requires-clause-ascending
add_block-requires-clause-ascending g c = subst IsStrictlyIncreasing (sym c.requires.list) (list_rises c.args.self.now c.requires.plan c.args.row c.requires.row)
