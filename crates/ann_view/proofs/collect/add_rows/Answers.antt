use Rattle.std.proofs.Common.{◌≡◌, ℕ, List, refl, sym, subst, length, arith}
use Rattle.ann_types.specs.declared.new_point.NewPoint.{NewPoint}
use Rattle.ann_view.specs.Collected.{HasAdded, AddsRows, gathering, rows_below}
use Rattle.ann_view.proofs.Collecting.{added_none, added_more, on_err, uncollected_as, uncollected_at}
use Rattle.ann_view.proofs.collect.add_rows.Goals as goal

pub loop-row-init : goal.loop-row-init
loop-row-init g c = added_none _ _ c.args.segment.now c.args.params.now c.args.dead.now _

pub loop-row-preserved : goal.loop-row-preserved
loop-row-preserved g c = added_more _ _ c.args.segment.now c.args.params.now c.args.dead.now c.loop-row.row _ _ _ _ refl c.loop-row.invariant c.in_ok-add_row.ensures.added

pub returns-in_err-add_row-clause-stopped : goal.returns-in_err-add_row-clause-stopped
returns-in_err-add_row-clause-stopped g c =
    on_err c.from_residual.result
    (record {
      row = c.loop-row.row;
      within = (let more = c.loop-row-test.true in let count = c.count-row-end.ensures in omega arith);
      points = subst (λ (t : List NewPoint). AddsRows g.S.Sealed.tells g.S.Sealed.bytes c.args.segment.now c.args.params.now c.args.dead.now (rows_below c.loop-row.row) c.args.out.now t) (sym c.in_err-add_row.ensures.kept) c.loop-row.invariant.points;
    })

pub returns-in_err-add_row-clause-refused : goal.returns-in_err-add_row-clause-refused
returns-in_err-add_row-clause-refused g c =
    uncollected_as _ c.from_residual.result _ c.from_residual.ensures.1
    (uncollected_at _ _ c.args.segment.now c.args.params.now c.args.dead.now c.loop-row.row _ _ _ _ (let more = c.loop-row-test.true in let count = c.count-row-end.ensures in omega arith) c.loop-row.invariant c.in_err-add_row.ensures.refused)

pub returns-clause-added : goal.returns-clause-added
returns-clause-added g c =
    let all : c.loop-row.row ≡ length c.args.segment.now.items = (let over = c.loop-row-test.false in let count = c.count-row-end.ensures in let in_range = c.loop-row.auto.row-end in omega arith) in
    subst (λ (n : ℕ). HasAdded g.S.Sealed.tells g.S.Sealed.bytes c.args.segment.now c.args.params.now c.args.dead.now (rows_below n) (gathering c.args.out.now (g.E.Eye.reads c.args.eye.now) (g.E.Eye.faults c.args.eye.now)) (gathering c.loop-row.out (g.E.Eye.reads c.loop-row.eye) (g.E.Eye.faults c.loop-row.eye))) all c.loop-row.invariant
