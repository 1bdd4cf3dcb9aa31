use Rattle.std.proofs.Common.{◌++◌, ap, ◌∙◌, arith}
use Rattle.std.proofs.lemmas.List.{take_all}
use Rattle.ann_minsert.specs.Added.{linked_all}
use Rattle.ann_minsert.proofs.Pieces.{added_is}
use Rattle.ann_minsert.proofs.piece.link_piece.Goals as goal

pub returns-clause-added : goal.returns-clause-added
returns-clause-added c =
    let at_end = c.loop-point-test.false in
    let end = c.loop-point.auto.point-index-end in
    added_is c.args.params.now c.args.book.now.book c.args.base.now c.known.ensures.base c.args.points.now c.args.out.now c.loop-point.out
    (c.loop-point.invariant ∙ ap (λ ps. c.args.out.now ++ linked_all c.args.params.now c.args.book.now.book c.args.base.now ps) (take_all c.loop-point.point-index c.args.points.now (omega arith)))
