use Rattle.std.proofs.Common.{◌∙◌, ap, subst}
use Rattle.ann_dead.specs.Pids.{IsAscending, union_of}
use Rattle.ann_dead.proofs.Sets.{ascending_union_of}
use Rattle.ann_dead.proofs.Removals.{run_gone, all_gone}
use Rattle.ann_dead.proofs.dead.Dead.remove_all.Goals as goal

pub loop-run-preserved : goal.loop-run-preserved
loop-run-preserved c = record {
  up = c.in_ok-add_all_but.ensures.ascending;
  members = run_gone c.as_slice-run-items.result.now c.loop-run.run-index c.run-item.result c.args.of.now c.loop-run.left c.add_all_but.new.self c.loop-run-test.true c.run-item.is c.in_ok-add_all_but.ensures.members c.loop-run.invariant.members;
}

pub returns-clause-removed : goal.returns-clause-removed
returns-clause-removed c =
    let up : IsAscending c.args.self.now = subst IsAscending c.self.view_is (ascending_union_of c.self.inside.runs.items) in
    c.left-2.view_is ∙ all_gone c.as_slice-run-items.result.now c.loop-run.run-index c.args.self.now c.args.of.now c.loop-run.left c.loop-run-test.false (ap (λ l. union_of l) c.as_slice-run-items.ensures ∙ c.self.view_is) up c.loop-run.invariant.up c.loop-run.invariant.members
