use Rattle.std.proofs.Common.{◌≡◌, ◌∙◌, None, ap, subst}
use Rattle.ann_types.specs.Judge.{judge_all}
use Rattle.ann_types.specs.Lists.{BasedList}
use Rattle.ann_types.specs.declared.params.Params.{Params}
use Rattle.ann_reply.specs.Reply.{accepted}
use Rattle.ann_once.specs.Session.{Keeps}
use Rattle.ann_judge.proofs.Living.{refused_at_none, behind_long}
use Rattle.ann_once.proofs.session.Session.update.Goals as goal

-- no change is refused
all_accepted : (c : goal.After-accepted) (h : BasedList) → Keeps h c.args.self.now → judge_all c.args.self.now.params h 0 c.args.changes.now ≡ None
all_accepted c h keeps =
    subst (λ (p : Params). judge_all p h 0 c.args.changes.now ≡ None) c.standing.ensures.params
    (refused_at_none _ (c.in_default.ensures h 0 (c.standing.ensures.knows h keeps)))

pub returns-clause-reply : goal.returns-clause-reply
returns-clause-reply c = λ h keeps.
    let none : judge_all c.args.self.now.params h 0 c.args.changes.now ≡ None = all_accepted c h keeps in
    let kept = c.in_ok-make.ensures.kept h keeps none in
    rw none
    (c.accepted.ensures ∙ ap (accepted c.args.changes.now c.args.batch) (c.entries-2.ensures ∙ kept.stands.at ∙ behind_long h c.args.changes.now))

pub returns-clause-list : goal.returns-clause-list
returns-clause-list c = λ h keeps.
    let none : judge_all c.args.self.now.params h 0 c.args.changes.now ≡ None = all_accepted c h keeps in
    rw none (c.in_ok-make.ensures.kept h keeps none)
