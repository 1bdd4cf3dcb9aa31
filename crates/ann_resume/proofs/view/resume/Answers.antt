use Rattle.std.proofs.Common.{sym, subst}
use Rattle.ann_types.specs.Lists.{BasedList, bare}
use Rattle.ann_view.specs.Holding.{HoldsGraph}
use Rattle.ann_view.specs.Stands.{StandsFor, lti_of}
use Rattle.ann_resume.specs.Applied.{AreNext}
use Rattle.ann_resume.proofs.Resuming.{are_next, whole_list, opened_holds}
use Rattle.ann_resume.proofs.view.resume.Goals as goal

pub apply_all-requires-clause-next : goal.apply_all-requires-clause-next
apply_all-requires-clause-next g c =
    let h : BasedList = c.requires.list.0 in
    (bare h.base, subst (λ v. AreNext v (bare h.base) c.args.entries.now c.args.gone.now) (sym c.in_ok-view.ensures) (are_next c.args.params.now c.args.book c.args.start c.args.entries.now c.args.gone.now h c.requires.list.1))

pub returns-clause-stands : goal.returns-clause-stands
returns-clause-stands g c h r =
    subst (StandsFor c.apply_all.new.view) (whole_list c.args.params.now c.args.book c.args.start c.args.entries.now c.args.gone.now h r)
    (c.in_ok-apply_all.ensures.stands (bare h.base)
    (subst (λ v. AreNext v (bare h.base) c.args.entries.now c.args.gone.now) (sym c.in_ok-view.ensures) (are_next c.args.params.now c.args.book c.args.start c.args.entries.now c.args.gone.now h r)))

pub returns-clause-holds : goal.returns-clause-holds
returns-clause-holds g c h r w =
    subst (λ (x : BasedList). HoldsGraph g.S.Sealed.bytes c.apply_all.new.view (lti_of c.apply_all.new.view x)) (whole_list c.args.params.now c.args.book c.args.start c.args.entries.now c.args.gone.now h r)
    (c.in_ok-apply_all.ensures.holds (bare h.base)
    (subst (λ v. AreNext v (bare h.base) c.args.entries.now c.args.gone.now) (sym c.in_ok-view.ensures) (are_next c.args.params.now c.args.book c.args.start c.args.entries.now c.args.gone.now h r))
    (subst (λ v. HoldsGraph g.S.Sealed.bytes v (lti_of v (bare h.base))) (sym c.in_ok-view.ensures) (opened_holds g.S.Sealed.bytes c.args.params.now c.args.book c.args.start h w)))
