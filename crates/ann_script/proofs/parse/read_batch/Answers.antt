use Rattle.std.proofs.Common.{◌+◌, ap, sym, ◌∙◌, arith, length, Some}
use Rattle.std.proofs.lemmas.List.{length-append}
use Rattle.std.proofs.lemmas.Result.{err_from_is_err_and}
use Rattle.ann_script.specs.Grammar.{change, changes, parts}
use Rattle.ann_script.specs.Words.{words}
use Rattle.ann_script.proofs.Behind.{behind}
use Rattle.ann_script.proofs.Batches.{batch_goes_on, batch_ends, batch_is_long, batch_refused}
use Rattle.ann_script.proofs.parse.read_batch.Goals as goal

pub returns-in_err-read_change : goal.returns-in_err-read_change
returns-in_err-read_change c =
    let p = err_from_is_err_and c.from_residual.result c.from_residual.ensures.1 in
    rw (p.1, p.2) (batch_refused c.in_err-read_change.field-0.0 (words c.args.text.now) (words c.loop.rest.now) _ c.loop.changes c.loop.invariant.0 c.part.ensures c.in_err-read_change.ensures)

pub returns-in-None : goal.returns-in-None
returns-in-None c =
    batch_ends (words c.args.text.now) (words c.loop.rest.now) c.loop.changes c.in_ok-read_change.field-0 c.loop.invariant.0 (ap change (sym c.part.ensures) ∙ c.in_ok-read_change.ensures) c.in-None.ensures (let n = c.loop.invariant.1 in let t = c.loop-test.true in omega (arith, n, t))
    ∙ ap Some (sym c.in_ok-push.ensures.ok)

pub loop-preserved : goal.loop-preserved
loop-preserved c = (
  ap (λ cs. behind cs (changes (parts (words c.in-Some.behind.now)))) c.in_ok-push.ensures.ok
      ∙ batch_goes_on (words c.args.text.now) (words c.loop.rest.now) (words c.in-Some.behind.now) c.loop.changes c.in_ok-read_change.field-0 c.loop.invariant.0 (ap change (sym c.part.ensures) ∙ c.in_ok-read_change.ensures) c.in-Some.ensures,
  ap length c.in_ok-push.ensures.ok ∙ length-append c.loop.changes _ ∙ ap (λ n. n + 1) c.loop.invariant.1,
)

pub returns : goal.returns
returns c = batch_is_long (words c.args.text.now) (words c.loop.rest.now) c.loop.changes c.loop.invariant.0 (let n = c.loop.invariant.1 in let t = c.loop-test.false in let e = c.loop.auto.counter-end in omega (arith, n, t, e))
