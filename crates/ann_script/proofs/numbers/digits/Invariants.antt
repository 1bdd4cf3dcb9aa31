use Rattle.std.proofs.Common.{◌≡◌, ◌<◌, ◌^◌, drop}
use Rattle.ann_script.specs.Words.{digits_after}
use Rattle.ann_script.proofs.numbers.digits.Given as goal

-- the digits to come, behind the number so far, are the number
abbrev pub invariant-loop-digit : goal.invariant-loop-digit
invariant-loop-digit l = record {
  fits : l.value < 2 ^ 64;
  same : digits_after l.value (drop l.digit-index l.word) ≡ digits_after 0 l.word;
}
