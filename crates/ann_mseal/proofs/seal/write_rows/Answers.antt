use Rattle.ann_mcause.specs.Eyes.{AreCause}
use Rattle.ann_mcause.proofs.Watched.{eyes_caused}
use Rattle.ann_mpatch.specs.Plan.{source_for}
use Rattle.ann_mpatch.proofs.Courses.{refused_as}
use Rattle.ann_mseal.proofs.Refusals.{unsealed_behind}
use Rattle.ann_mseal.proofs.seal.write_rows.Goals as goal

pub returns-in_err-write_window-clause-refused : goal.returns-in_err-write_window-clause-refused
returns-in_err-write_window-clause-refused g c =
    let plan = c.args.plan.now in
    let so_far = c.loop-first.invariant in
    let why = c.in_err-write_window.field-0.0 in
    refused_as _ c.from_residual.result why c.from_residual.ensures.1
    (unsealed_behind
    (AreCause g.E.Eye.reads g.E.Eye.faults g.V.Seal.Sealed.tells (source_for g.V.Seal.Sealed.bytes plan) plan.params c.loop-first.eyes.items c.write_window.new.eyes.items)
    (AreCause g.E.Eye.reads g.E.Eye.faults g.V.Seal.Sealed.tells (source_for g.V.Seal.Sealed.bytes plan) plan.params c.args.eyes.now.items c.write_window.new.eyes.items)
    (g.V.Vault.faults c.args.vault.now) (g.V.Vault.faults c.loop-first.vault) (g.V.Vault.faults c.write_window.new.vault) why
    (λ other. eyes_caused g.E.Eye.reads g.E.Eye.faults g.V.Seal.Sealed.tells (source_for g.V.Seal.Sealed.bytes plan) plan.params c.args.eyes.now.items c.loop-first.eyes.items c.write_window.new.eyes.items other so_far.eyes)
    so_far.later c.in_err-write_window.ensures.refused)
