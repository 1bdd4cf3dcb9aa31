use Rattle.std.proofs.Common.{◌≡◌, ◌∙◌, ap, sym, true}
use Rattle.std.specs.Prelude.{◌||◌}
use Rattle.ann_types.specs.Order.{has}
use Rattle.ann_dead.specs.Pids.{union_of}
use Rattle.ann_dead.proofs.Removals.{has_run_at, has_runs_more}
use Rattle.ann_dead.proofs.dead.Dead.contains.Goals as goal

pub returns-then-contains : goal.returns-then-contains
returns-then-contains c =
    let there : has c.run-item.result c.args.pid ≡ true = sym c.contains.ensures ∙ c.if-contains.true in
    let found = has_run_at c.as_slice-run-items.result.now c.loop-run.run-index c.run-item.result c.args.pid c.loop-run-test.true c.run-item.is there in
    sym (ap (λ l. has l c.args.pid) (sym c.self.view_is) ∙ ap (λ l. has (union_of l) c.args.pid) (sym c.as_slice-run-items.ensures) ∙ found)

pub loop-run-preserved : goal.loop-run-preserved
loop-run-preserved c =
    let rs = c.as_slice-run-items.result.now in
    let more = has_runs_more rs c.loop-run.run-index c.run-item.result c.loop-run-test.true c.run-item.is c.args.pid in
    more ∙ ap (λ b. b || has c.run-item.result c.args.pid) c.loop-run.invariant ∙ sym c.contains.ensures ∙ c.if-contains.false
