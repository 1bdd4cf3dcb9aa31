use Rattle.std.proofs.Common.{ap, ◌∙◌, arith}
use Rattle.ann_script.proofs.Digits.{digits_after-end}
use Rattle.ann_script.specs.Words.{at_most}
use Rattle.ann_script.proofs.numbers.digits.Goals as goal

pub returns : goal.returns
returns c = digits_after-end 18446744073709551615 c.loop-digit.value c.loop-digit.digit-index c.args.word.now (omega arith) (omega (arith, c.loop-digit.invariant.fits)) ∙ ap (at_most 18446744073709551615) c.loop-digit.invariant.same
