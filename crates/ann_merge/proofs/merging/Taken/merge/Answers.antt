use Rattle.std.proofs.Common.{map, ap, subst, sym}
use Rattle.std.specs.Prelude.{MatchResult}
use Rattle.std.specs.FinMap.{get}
use Rattle.std.specs.Arc.{arc_value}
use Rattle.std.specs.Option.{option_map}
use Rattle.std.proofs.lemmas.Result.{IfErr-weaker}
use Rattle.ann_pq.specs.Codebook.{CodebookView}
use Rattle.ann_mpatch.specs.Source.{source_of}
use Rattle.ann_mcause.proofs.Watched.{eyes_go_on}
use Rattle.ann_mplan.proofs.Reading.{refused_as}
use Rattle.ann_mseal.specs.Ends.{HasSealed, LeavesSealed, SealsMerged}
use Rattle.ann_merge.specs.Job.{IsDone, IsMergeText, IsPlanFor, KeepsNumbers, LeavesNumber, order_of}
use Rattle.ann_merge.proofs.Attempts.{by_parts, ends_from, others_keep, refused_by_eyes, refused_by_seal}
use Rattle.ann_merge.proofs.merging.Taken.merge.Goals as goal

pub returns-in_err-made-clause-refused : goal.returns-in_err-made-clause-refused
returns-in_err-made-clause-refused g c =
    let order = c.args.self.now in
    let source = source_of g.S.Sealed.bytes order.old in
    refused_as _ c.from_residual-in_err-made.result c.in_err-made.field-0.0 c.from_residual-in_err-made.ensures.1
    (refused_by_eyes g.E.Eye.reads g.E.Eye.faults g.S.Sealed.tells source order.params _ _ c.args.eyes.now.items c.plan.new.eyes.items c.in_err-made.field-0.0 c.in_err-made.ensures.refused)

pub returns-clause-eyes : goal.returns-clause-eyes
returns-clause-eyes g c = eyes_go_on g.E.Eye.reads g.E.Eye.faults c.args.eyes.now.items c.plan.new.eyes.items c.seal_merge.new.eyes.items c.plan.ensures.eyes c.seal_merge.ensures.eyes

pub returns-clause-ends : goal.returns-clause-ends
returns-clause-ends g c =
    let t = c.self.inside in
    let plan = c.in_ok-made.made.plan in
    let entry = c.in_ok-made.made.entry in
    let tells = g.S.Sealed.tells in
    let bytes = g.S.Sealed.bytes in
    let order = order_of (option_map arc_value t.old) (map arc_value t.frozen.items) t.gone t.number t.params t.book.value in
    let first = g.V.Vault.held c.args.vault.now in
    let old = g.V.Vault.held c.clear.new.vault in
    let new = g.V.Vault.held c.seal_merge.new.vault in
    let for = subst (λ o. IsPlanFor tells bytes o plan entry) (sym c.self.view_is) c.in_ok-made.ensures.planned in
    let book = ap (λ (b : CodebookView). b.book) c.deref.ensures in
    subst (λ o. MatchResult c.seal_merge.result (IsDone tells bytes o new) (λ why. tells → LeavesNumber (IsMergeText bytes o) (get first o.number) (get new o.number) why)) c.self.view_is
    (ends_from tells bytes order plan entry for c.self.invariant g.S.Sealed.number (get first t.number) old new c.seal_merge.result
    (λ told. c.in_ok-clear.ensures.gone told)
    (subst (λ b. MatchResult c.seal_merge.result (HasSealed tells g.S.Sealed.number bytes b plan entry t.number old new) (λ why. tells → LeavesSealed (SealsMerged bytes b plan entry t.number) t.number old new why)) book c.seal_merge.ensures.ends))

pub returns-clause-others : goal.returns-clause-others
returns-clause-others g c told =
    let t = c.self.inside in
    let plan = c.in_ok-made.made.plan in
    let entry = c.in_ok-made.made.entry in
    let tells = g.S.Sealed.tells in
    let bytes = g.S.Sealed.bytes in
    let order = order_of (option_map arc_value t.old) (map arc_value t.frozen.items) t.gone t.number t.params t.book.value in
    let first = g.V.Vault.held c.args.vault.now in
    let old = g.V.Vault.held c.clear.new.vault in
    let new = g.V.Vault.held c.seal_merge.new.vault in
    let for = subst (λ o. IsPlanFor tells bytes o plan entry) (sym c.self.view_is) c.in_ok-made.ensures.planned in
    let book = ap (λ (b : CodebookView). b.book) c.deref.ensures in
    subst (λ o. KeepsNumbers o.number first new) c.self.view_is
    (others_keep tells bytes order plan entry for told g.S.Sealed.number first old new c.seal_merge.result (c.clear.ensures.others told)
    (subst (λ b. MatchResult c.seal_merge.result (HasSealed tells g.S.Sealed.number bytes b plan entry t.number old new) (λ why. tells → LeavesSealed (SealsMerged bytes b plan entry t.number) t.number old new why)) book c.seal_merge.ensures.ends))

pub returns-clause-refused : goal.returns-clause-refused
returns-clause-refused g c =
    let order = c.args.self.now in
    let plan = c.in_ok-made.made.plan in
    let source = source_of g.S.Sealed.bytes order.old in
    IfErr-weaker c.seal_merge.result _ _
    (λ why is. refused_by_seal g.E.Eye.reads g.E.Eye.faults g.S.Sealed.tells source order.params _ _ _ c.args.eyes.now.items c.plan.new.eyes.items c.seal_merge.new.eyes.items why c.clear.ensures.cause.later c.plan.ensures.eyes
    (by_parts g.S.Sealed.tells g.S.Sealed.bytes order plan c.in_ok-made.made.entry c.in_ok-made.ensures.planned g.E.Eye.reads g.E.Eye.faults _ _ c.plan.new.eyes.items c.seal_merge.new.eyes.items why is))
    c.seal_merge.ensures.refused
