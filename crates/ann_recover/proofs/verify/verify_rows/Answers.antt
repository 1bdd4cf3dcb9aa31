use Rattle.std.proofs.Common.{ℕ, List, subst, ◌∙◌, arith}
use Rattle.std.specs.Prelude.{Some}
use Rattle.ann_base.proofs.Results.{err_is}
use Rattle.ann_segment.specs.Segment.{IsNodeIn}
use Rattle.ann_recover.specs.Verified.{IsWrong}
use Rattle.ann_recover.proofs.Summing.{right_more, wrong_is, verify_counted}
use Rattle.ann_recover.proofs.verify.verify_rows.Goals as goal

pub loop-row-preserved : goal.loop-row-preserved
loop-row-preserved g c = record {
  right = λ told.
      right_more c.args.segment.now c.args.book.now c.args.params.now (g.S.Sealed.bytes c.args.segment.now.seal) c.loop-row.row (c.loop-row.invariant.right told)
      (subst (λ (p : List ℕ). IsNodeIn c.args.segment.now c.loop-row.row c.args.book.now c.args.params.now p) (c.in_ok-verify.ensures.told told (λ e. cc)) c.in_ok-verify.ensures.judged);
  calm = c.in_ok-verify.ensures.cause.calm ∙ c.loop-row.invariant.calm;
  page = (let same = c.verify.auto.page in let before = c.loop-row.invariant.page in omega (arith, same, before));
}

pub returns-in_err-verify-clause-wrong : goal.returns-in_err-verify-clause-wrong
returns-in_err-verify-clause-wrong g c =
    err_is c.from_residual.result (IsWrong g.S.Sealed.tells g.S.Sealed.bytes (Some c.args.segment.now) c.args.book.now c.args.params.now) _ c.from_residual.ensures.1
    (wrong_is g.S.Sealed.tells g.S.Sealed.bytes c.args.segment.now c.args.book.now c.args.params.now c.loop-row.row _ c.in_err-verify.field-0.0 (let below = c.loop-row-test.true in omega (arith, below, c.count-row-end.ensures)) c.loop-row.invariant.right (λ told other. c.in_err-verify.ensures.told told (λ e. other cc)) c.in_err-verify.ensures.judged)

pub returns-in_err-verify-clause-cause : goal.returns-in_err-verify-clause-cause
returns-in_err-verify-clause-cause g c =
    verify_counted c.in_err-verify.field-0.0 c.from_residual.result _ _ _ c.from_residual.ensures.1 c.loop-row.invariant.calm c.in_err-verify.ensures.cause.failed c.in_err-verify.ensures.cause.refused

pub returns-clause-right : goal.returns-clause-right
returns-clause-right g c told row l = c.loop-row.invariant.right told row (let over = c.loop-row-test.false in omega (arith, over, l, c.count-row-end.ensures))
