use Rattle.std.proofs.Common.{◌≡◌, ◌∙◌, ℕ, List, None, arith, sym, subst, take}
use Rattle.ann_types.specs.Judge.{judge}
use Rattle.ann_types.specs.Lists.{BasedList}
use Rattle.ann_types.specs.declared.change.Change.{Change}
use Rattle.ann_types.specs.declared.params.Params.{Params}
use Rattle.ann_judge.specs.Standing.{behind}
use Rattle.ann_once.specs.Session.{Keeps}
use Rattle.ann_judge.proofs.Living.{judged_here, judging_more, behind_taken}
use Rattle.ann_once.proofs.session.Session.make.Goals as goal

pub loop-change-preserved : goal.loop-change-preserved
loop-change-preserved c =
    let i : ℕ = c.loop-change.change-index in
    let changes : List Change = c.args.changes.now in
    let change : Change = c.change-item.result in
    let params : Params = c.args.self.now.params in
    let at = c.in_ok-make_one.ensures.at in
    let before = c.loop-change.invariant.1 in (
      c.in_ok-make_one.ensures.params ∙ c.loop-change.invariant.0,
      omega (arith, at, before),
      λ h keeps all.
          let so_far = c.loop-change.invariant.2 h keeps all in
          let here : BasedList = behind h (take i changes) in
          let none : judge params here change ≡ None = judged_here params h changes i change c.loop-change-test.true c.change-item.is so_far.1 all in (
            subst (λ (l : BasedList). Keeps l c.make_one.new.self) (sym (behind_taken h changes i change c.loop-change-test.true c.change-item.is))
                (c.in_ok-make_one.ensures.kept here so_far.0 (subst (λ (p : Params). judge p here change ≡ None) (sym c.loop-change.invariant.0) none)),
            judging_more params h changes i change c.loop-change-test.true c.change-item.is none so_far.1,
          ),
    )
