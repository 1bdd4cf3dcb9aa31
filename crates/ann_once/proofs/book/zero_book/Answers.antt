use Rattle.std.proofs.Common.{ap, ◌∙◌, arith}
use Rattle.ann_pq.specs.Codebook.{CodebookView}
use Rattle.ann_pq.specs.Format.{codebook}
use Rattle.ann_once.proofs.Zeros.{named_none, no_length, no_magic, no_shape, book_is}
use Rattle.ann_once.proofs.book.zero_book.Goals as goal

pub returns-in-Ok-clause-zeros : goal.returns-in-Ok-clause-zeros
returns-in-Ok-clause-zeros c = ap (λ (b : CodebookView). b.book) (c.in-Ok.ensures.value ∙ ap (codebook c.args.d 1) (c.deref.ensures.value ∙ c.in_ok-bytes.ensures)) ∙ book_is c.args.d

pub unreachable-requires : goal.unreachable-requires
unreachable-requires c = no_length CodebookView c.in-Err-Length.field-0 c.in-Err-Length.field-0-is (c.in-Err-Length.ensures.refused ∙ named_none c.args.d _ (omega (arith, c.requires)) (c.deref.ensures.value ∙ c.in_ok-bytes.ensures))

pub unreachable-requires-in-Err-Magic : goal.unreachable-requires-in-Err-Magic
unreachable-requires-in-Err-Magic c = no_magic CodebookView c.in-Err-Magic.field-0 c.in-Err-Magic.field-0-is (c.in-Err-Magic.ensures.refused ∙ named_none c.args.d _ (omega (arith, c.requires)) (c.deref.ensures.value ∙ c.in_ok-bytes.ensures))

pub unreachable-requires-in-Err-Shape : goal.unreachable-requires-in-Err-Shape
unreachable-requires-in-Err-Shape c = no_shape CodebookView c.in-Err-Shape.field-0 c.in-Err-Shape.field-0-is (c.in-Err-Shape.ensures.refused ∙ named_none c.args.d _ (omega (arith, c.requires)) (c.deref.ensures.value ∙ c.in_ok-bytes.ensures))
