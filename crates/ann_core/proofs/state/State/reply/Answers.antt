use Rattle.std.proofs.Common.{◌≡◌, ◌∙◌, ℕ, sym, ap, subst}
use Rattle.std.specs.Prelude.{Option, Some, None, IfOk, slice_get}
use Rattle.ann_core_laws.specs.Events.{reply}
use Rattle.ann_core.specs.Core.{CoreView, seen}
use Rattle.ann_core.proofs.Keeping.{pin_is, pinned, pin_within}
use Rattle.ann_core.proofs.state.State.reply.Goals as goal

pub reply_at-requires-clause-pin : goal.reply_at-requires-clause-pin
reply_at-requires-clause-pin c =
    let v : CoreView = seen c.args.self.now in
    let found : slice_get v.pins c.args.reader ≡ Some (Some c.in-Some-Some.pin) = sym c.pin_of.ensures ∙ c.in-Some-Some.is ∙ ap (λ (o : Option ℕ). Some o) c.in-Some-Some.field-0-is in
    pin_within c.requires.0 v c.requires.1 c.requires.2 c.in-Some-Some.pin (pinned c.requires.0 v c.requires.1 c.requires.2 c.args.reader c.in-Some-Some.pin found)

pub returns-in-Some-Some : goal.returns-in-Some-Some
returns-in-Some-Some c = λ index state core.
    let v : CoreView = seen c.args.self.now in
    let found : slice_get v.pins c.args.reader ≡ Some (Some c.in-Some-Some.pin) = sym c.pin_of.ensures ∙ c.in-Some-Some.is ∙ ap (λ (o : Option ℕ). Some o) c.in-Some-Some.field-0-is in
    subst (λ (o : Option (Option ℕ)). IfOk c.reply_at.result (λ step. step ≡ (reply index state c.args.ask.now o).1)) (sym found ∙ pin_is index v state core c.args.reader)
    (c.reply_at.ensures index state core (pinned index v state core c.args.reader c.in-Some-Some.pin found))

pub returns-in-Some-None : goal.returns-in-Some-None
returns-in-Some-None c = λ index state core.
    let v : CoreView = seen c.args.self.now in
    let found : slice_get v.pins c.args.reader ≡ Some None = sym c.pin_of.ensures ∙ c.in-Some-None.is ∙ ap (λ (o : Option ℕ). Some o) c.in-Some-None.field-0-is in
    ap (λ (o : Option (Option ℕ)). (reply index state c.args.ask.now o).1) (sym found ∙ pin_is index v state core c.args.reader)

pub returns-in-None : goal.returns-in-None
returns-in-None c = λ index state core.
    let v : CoreView = seen c.args.self.now in
    let found : slice_get v.pins c.args.reader ≡ None = sym c.pin_of.ensures ∙ c.in-None.is in
    ap (λ (o : Option (Option ℕ)). (reply index state c.args.ask.now o).1) (sym found ∙ pin_is index v state core c.args.reader)
