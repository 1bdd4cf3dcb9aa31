use Rattle.std.proofs.Common.{ℕ, ◌+◌, ◌/◌, ◌<◌, ◌≤◌, ◌^◌, length, subst, arith}
use Rattle.std.proofs.lemmas.Result.{IfErr-weaker}
use Rattle.ann_mcause.specs.Eyes.{AreCause}
use Rattle.ann_mpatch.specs.Plan.{source_for}
use Rattle.ann_mpatch.specs.declared.plan.PatchPlan.{PatchPlan}
use Rattle.ann_mseal.proofs.window.patch_window.Goals as goal

few_pieces : (end rows : ℕ) → end ≤ (rows + 255) / 256 → rows < 2 ^ 32 → end ≤ 2 ^ 32
few_pieces end rows within few = omega arith

pub run-requires-clause-small : goal.run-requires-clause-small
run-requires-clause-small g c κs within = few_pieces (c.args.first + c.args.count) (length c.args.plan.now.decoded) c.requires.within c.known.ensures.few

pub returns-clause-refused : goal.returns-clause-refused
returns-clause-refused g c =
    IfErr-weaker c.run.result _ _ (λ why cause. subst (λ (plan : PatchPlan g.row.S.Denot). AreCause g.E.Eye.reads g.E.Eye.faults g.S.Sealed.tells (source_for g.S.Sealed.bytes plan) plan.params c.args.eyes.now.items c.run.new.workers.items why) c.by.ensures cause) c.run.ensures.refused
