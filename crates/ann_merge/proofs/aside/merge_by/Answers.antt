use Rattle.std.proofs.Common.{◌++◌, drop, reverse, ap, subst, sym, ◌∙◌}
use Rattle.std.proofs.lemmas.Result.{IfErr-weaker}
use Rattle.ann_mpatch.specs.Source.{source_of}
use Rattle.ann_mcause.specs.Eyes.{EyeGoes}
use Rattle.ann_mcause.proofs.Watched.{eye_stays}
use Rattle.ann_crew.specs.Crew.{AreWorked}
use Rattle.ann_merge.specs.Job.{IsWorkRefused}
use Rattle.ann_merge.proofs.Eyes.{all_back, refused_back}
use Rattle.ann_merge.proofs.aside.merge_by.Goals as goal

pub returns-clause-eyes : goal.returns-clause-eyes
returns-clause-eyes g c =
    let eyes = c.args.eyes.now.items in
    let worked = c.merge-merged.new.eyes.items in
    let spare = c.in_ok-active.spare.items in
    let back = c.pour-2.ensures.moved ∙ ap (λ t. t ++ reverse (drop 0 spare)) (c.pour.ensures.moved ∙ ap (λ t. t ++ reverse (drop 0 worked)) c.in_ok-active.ensures.none) in
    subst (AreWorked (EyeGoes g.E.Eye.reads g.E.Eye.faults) eyes) (sym back)
    (all_back c.args.workers eyes c.in_ok-active.active.items spare worked c.in_ok-active.ensures.aside (EyeGoes g.E.Eye.reads g.E.Eye.faults) (eye_stays g.E.Eye.reads g.E.Eye.faults) c.merge-merged.ensures.eyes)

pub returns-clause-refused : goal.returns-clause-refused
returns-clause-refused g c =
    let eyes = c.args.eyes.now.items in
    let worked = c.merge-merged.new.eyes.items in
    let spare = c.in_ok-active.spare.items in
    let back = c.pour-2.ensures.moved ∙ ap (λ t. t ++ reverse (drop 0 spare)) (c.pour.ensures.moved ∙ ap (λ t. t ++ reverse (drop 0 worked)) c.in_ok-active.ensures.none) in
    let before = g.V.Vault.faults c.args.vault.now in
    let now = g.V.Vault.faults c.merge-merged.new.vault in
    let source = source_of g.S.Sealed.bytes c.args.taken.now.old in
    IfErr-weaker c.merge-merged.result _ _
    (λ why is. subst (λ new. IsWorkRefused g.E.Eye.reads g.E.Eye.faults g.S.Sealed.tells source c.args.taken.now.params before now eyes new why) (sym back)
    (refused_back c.args.workers eyes c.in_ok-active.active.items spare worked c.in_ok-active.ensures.aside g.E.Eye.reads g.E.Eye.faults g.S.Sealed.tells source c.args.taken.now.params before now why c.requires.enough c.merge-merged.ensures.eyes.same is))
    c.merge-merged.ensures.refused
