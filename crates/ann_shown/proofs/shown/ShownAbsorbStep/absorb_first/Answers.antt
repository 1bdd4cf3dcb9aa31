use Rattle.std.proofs.Common.{rules, ◌≡◌, ◌+◌, sym, ◌∙◌, subst, arith}
use Rattle.ann_types.specs.Lists.{BasedList, BeginsWith, length_of}
use Rattle.ann_shown.specs.States.{IsStateOf}
use Rattle.ann_shown.proofs.Next.{may_apply, of_entry, brings, state_after}
use Rattle.ann_shown.proofs.shown.ShownAbsorbStep.absorb_first.Goals as goal

pub apply-requires-clause-room : goal.apply-requires-clause-room
apply-requires-clause-room g c =
    let at = c.self.invariant.stands.at in
    let next : length_of c.args.step.now ≡ length_of c.self.inside.front + 1 = search rules in
    let room = c.is_next.ensures.room in
    omega (arith, at, next, room)

pub apply-requires-clause-fits : goal.apply-requires-clause-fits
apply-requires-clause-fits g c =
    let next : length_of c.args.step.now ≡ length_of c.self.inside.front + 1 = search rules in
    let begins : BeginsWith c.args.step.now c.self.inside.front = subst (λ (h : BasedList). BeginsWith h c.self.inside.front) c.front.ensures c.begins.ensures in
    may_apply g.S.Sealed.bytes g.N.ViewName.index g.N.ViewName.sound c.self.inside.view c.op.result.now c.self.inside.front c.args.step.now c.self.invariant c.op.ensures begins next

pub invariant_of-self-2 : goal.invariant_of-self-2
invariant_of-self-2 g c =
    let bytes = g.S.Sealed.bytes in
    let index = g.N.ViewName.index in
    let sound = g.N.ViewName.sound in
    let view = c.self.inside.view in
    let op = c.op.result.now in
    let h : BasedList = c.self.inside.front in
    let g' : BasedList = c.args.step.now in
    let state = c.self.invariant in
    let leads = c.op.ensures in
    let next : length_of g' ≡ length_of h + 1 = search rules in
    let begins : BeginsWith g' h = subst (λ (l : BasedList). BeginsWith l h) c.front.ensures c.begins.ensures in
    let entry = leads.entry in
    let of = of_entry bytes index sound view op h g' state leads begins next in
    let done = c.in_ok-apply.ensures in
    subst (λ (l : BasedList). IsStateOf bytes index sound c.apply.new.self l) (sym (c.again.ensures ∙ c.front-2.ensures))
    (state_after bytes index sound view op h g' state leads begins next c.apply.new.self done.applied (done.stands h entry state.stands of) (λ so. done.holds h entry state.stands of (state.holds so) (brings bytes index sound view op h g' state leads begins next so)))
