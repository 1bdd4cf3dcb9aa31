use Rattle.std.proofs.Common.{ℕ, ◌+◌, ◌*◌, ◌/◌, ◌<◌, ◌^◌, length, sym, subst, arith, rules}
use Rattle.std.specs.Prelude.{Err}
use Rattle.ann_mcause.specs.Causes.{IsCause}
use Rattle.ann_mcause.specs.Eyes.{counts}
use Rattle.ann_mcause.proofs.Patching.{patched_cause, patched_gone}
use Rattle.ann_mpatch.specs.Plan.{source_for}
use Rattle.ann_mpatch.specs.declared.plan.PatchPlan.{PatchPlan}
use Rattle.ann_mpatch.proofs.Courses.{refused_as}
use Rattle.ann_mseal.specs.Pieces.{piece_count}
use Rattle.ann_mseal.proofs.window.PatchingTask.work.Goals as goal

first_row : (number rows : ℕ) → number < (rows + 255) / 256 → rows < 2 ^ 32 → 256 * number < 2 ^ 32
first_row number rows below few = omega arith

pub overflow_mul-number : goal.overflow_mul-number
overflow_mul-number g c =
    let plan : PatchPlan g.row.S.Denot = c.self.inside.plan.now in
    let below : c.args.number < piece_count plan = subst (λ (p : PatchPlan g.row.S.Denot). c.args.number < piece_count p) (sym c.self.view_is) c.requires.number in
    let small : 256 * c.args.number < 2 ^ 32 = first_row c.args.number (length plan.decoded) below c.known.ensures.few in
    search rules

pub returns-in_err-patch_piece-clause-goes : goal.returns-in_err-patch_piece-clause-goes
returns-in_err-patch_piece-clause-goes g c =
    patched_gone g.S.Sealed.tells g.S.Sealed.bytes c.self.inside.plan.now _ _ _ _ c.patch_piece.result c.patch_piece.ensures.patched

pub returns-in_err-patch_piece-clause-refused : goal.returns-in_err-patch_piece-clause-refused
returns-in_err-patch_piece-clause-refused g c =
    refused_as _ c.from_residual-in_err-patch_piece.result c.in_err-patch_piece.field-0.0 c.from_residual-in_err-patch_piece.ensures.1
    (subst (λ (plan : PatchPlan g.row.S.Denot). IsCause g.S.Sealed.tells (source_for g.S.Sealed.bytes plan) plan.params (counts g.E.Eye.reads g.E.Eye.faults c.args.worker.now) (counts g.E.Eye.reads g.E.Eye.faults c.patch_piece.new.eye) c.in_err-patch_piece.field-0.0) c.self.view_is
    (patched_cause g.S.Sealed.tells g.S.Sealed.bytes c.self.inside.plan.now _ _ _ _ (Err c.in_err-patch_piece.field-0.0) c.self.invariant c.in_err-patch_piece.ensures.patched))

pub returns-clause-goes : goal.returns-clause-goes
returns-clause-goes g c =
    patched_gone g.S.Sealed.tells g.S.Sealed.bytes c.self.inside.plan.now _ _ _ _ c.patch_piece.result c.patch_piece.ensures.patched
