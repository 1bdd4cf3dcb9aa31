use Rattle.std.proofs.Common.{sym, ap, ◌∙◌}
use Rattle.std.specs.Prelude.{is_some}
use Rattle.std.specs.FinMap.{get}
use Rattle.ann_types.specs.Lists.{BasedList, is_live, live_of}
use Rattle.ann_tags.specs.Tags.{Pids}
use Rattle.ann_tags.proofs.Maps.{live_is}
use Rattle.ann_judge.proofs.Living.{behind_none, live_named, live_other}
use Rattle.ann_judge.proofs.standing.Standing.is_live.Goals.{then-tag_of-tag, else-tag_of-tag}
use Rattle.ann_judge.proofs.standing.Standing.is_live.Goals as goal

pub loop-change-init : goal.loop-change-init
loop-change-init c h knows =
    c.is_some-live.ensures
    ∙ ap is_some c.get.ensures
    ∙ ap (λ (m : Pids). is_some (get m c.args.tag)) knows.tags
    ∙ sym (live_is (live_of h) c.args.tag)
    ∙ ap (λ (l : BasedList). is_live (live_of l) c.args.tag) (sym (behind_none h))

pub loop-change-preserved : goal.loop-change-preserved
loop-change-preserved c h knows = elim c.if-tag_of-tag.branch [
  | then-tag_of-tag w ↦ w.live-is ∙ w.makes_a_point-live.ensures ∙ sym (live_named h c.args.changes.now c.loop-change.change-index c.change-item.result c.args.tag c.loop-change-test.true c.change-item.is (sym c.tag_of.ensures ∙ w.if-tag_of-tag.true))
  | else-tag_of-tag w ↦ w.live-is ∙ c.loop-change.invariant h knows ∙ sym (live_other h c.args.changes.now c.loop-change.change-index c.change-item.result c.args.tag c.loop-change-test.true c.change-item.is (λ e. w.if-tag_of-tag.false (c.tag_of.ensures ∙ e)))
]
