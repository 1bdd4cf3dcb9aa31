use Rattle.std.proofs.Common.{◌∙◌, false, List, sym, subst}
use Rattle.ann_types.specs.declared.entry.Entry.{Entry}
use Rattle.ann_core_laws.specs.State.{open_begin}
use Rattle.ann_core_laws.specs.Events.{switch}
use Rattle.ann_core_laws.specs.declared.step.Step.TheVariants.{Done}
use Rattle.ann_core.specs.Core.{CoreView, ComesTo, seen}
use Rattle.ann_core.proofs.Merges.{switch_done}
use Rattle.ann_core.proofs.state.State.switch.Goals as goal

pub returns-clause-comes : goal.returns-clause-comes
returns-clause-comes c = λ index state core.
    let v : CoreView = seen c.args.self.now in
    subst (λ (t : List Entry). ComesTo index (switch state c.args.by (open_begin index state)) (record v { list = t; sealed = false }) Done) (sym c.in_ok-push.ensures.items)
    (switch_done index v state core c.args.by c.in-Some.position c.if-not-self.false (sym c.in-Some.is ∙ c.in_ok-position.ensures.begun index state core))
