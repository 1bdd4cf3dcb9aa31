use Rattle.std.proofs.Common.{◌≡◌, ◌<◌, ℕ, sym, ap, subst, ◌∙◌}
use Rattle.std.specs.Prelude.{All}
use Rattle.ann_segment.specs.Directory.{Item}
use Rattle.ann_segment.specs.Segment.{SegmentView}
use Rattle.ann_view.specs.Steps.{MayEnd}
use Rattle.ann_job_tests.proofs.Ended.{may_end}
use Rattle.ann_job_tests.proofs.reopened.merge.Goals as goal

pub apply-requires-2-clause-fits : goal.apply-requires-2-clause-fits
apply-requires-2-clause-fits g c =
    let below : All (λ (x : Item). x.0 < c.apply.new.self.next) c.in_ok-vault.segment.items =
    subst (λ (n : ℕ). All (λ (x : Item). x.0 < n) c.in_ok-vault.segment.items) c.next.ensures (c.is_below.ensures c.if-not-is_below.false) in
    subst (λ (s : SegmentView _). MayEnd c.apply.new.self s) (sym c.in_ok-new.ensures.ok)
    (may_end c.args.view.now c.apply.new.self c.args.params.now c.in_ok-vault.segment c.in_ok-apply.ensures.applied c.requires.same c.in_ok-vault.ensures.codes below)
