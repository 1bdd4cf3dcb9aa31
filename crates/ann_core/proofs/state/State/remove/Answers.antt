use Rattle.std.proofs.Common.{◌∙◌, List, sym, ap, subst}
use Rattle.ann_core_laws.specs.Events.{remove}
use Rattle.ann_core_laws.specs.declared.step.Step.TheVariants.{Done}
use Rattle.ann_core.specs.Core.{CoreView, ComesTo, seen}
use Rattle.ann_core.specs.Kept.{Text, texts_of, is_kept_in}
use Rattle.ann_core.specs.declared.kept.Kept.{Kept}
use Rattle.ann_core.proofs.Coming.{remove_done, remove_refused}
use Rattle.ann_core.proofs.state.State.remove.Goals as goal

pub returns-then-not-is_kept-clause-comes : goal.returns-then-not-is_kept-clause-comes
returns-then-not-is_kept-clause-comes c = λ index state core.
    remove_refused index (seen c.args.self.now) state core c.args.number
    (ap (λ (t : List Kept). is_kept_in (texts_of t) c.args.number) (sym c.deref.ensures.value) ∙ sym c.is_kept.ensures ∙ c.if-not-is_kept.true)

pub returns-clause-comes : goal.returns-clause-comes
returns-clause-comes c = λ index state core.
    let v : CoreView = seen c.args.self.now in
    let kept = ap (λ (t : List Kept). is_kept_in (texts_of t) c.args.number) (sym c.deref.ensures.value) ∙ sym c.is_kept.ensures ∙ c.if-not-is_kept.false in
    subst (λ (t : List Text). ComesTo index (remove index state c.args.number) (record v { kept = t }) Done) (sym c.take_away.ensures)
    (remove_done index v state core c.args.number kept (sym (c.in_ok-is_used.ensures index state core) ∙ c.if-branch.false))
