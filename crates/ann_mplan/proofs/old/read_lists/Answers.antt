use Rattle.std.proofs.Common.{◌≡◌, ◌*◌, ◌<◌, arith, refl, length, ◌∙◌}
use Rattle.ann_mdelete.specs.Refusals.{counts_of}
use Rattle.ann_mdelete.specs.declared.refused.WorkRefused.TheVariants.{Memory}
use Rattle.ann_mplan.proofs.Reading.{all_read, piece_more, refused_as, refused_then, unread_after}
use Rattle.ann_mplan.proofs.old.read_lists.Goals as goal

pub returns-in_err-load_piece-clause-refused : goal.returns-in_err-load_piece-clause-refused
returns-in_err-load_piece-clause-refused g c =
    let count = c.count.ensures in
    let pieces = c.div_ceil-at-end.ensures in
    let test = c.loop-at-test.true in
    refused_as _ c.from_residual.result c.in_err-load_piece.field-0.0 c.from_residual.ensures.1
    (refused_then g.S.Sealed.tells g.S.Sealed.bytes c.args.segment.now c.args.params.now c.loop-at.at (256 * c.loop-at.at) c.loop-at.out c.load_piece.new.piece.page _ _ _ c.in_err-load_piece.field-0.0 refl (omega arith) c.loop-at.invariant c.in_err-load_piece.ensures.refused)

pub returns-in_err-add_lists-clause-refused : goal.returns-in_err-add_lists-clause-refused
returns-in_err-add_lists-clause-refused g c =
    refused_as _ c.from_residual-in_err-add_lists.result Memory c.from_residual-in_err-add_lists.ensures.1
    (unread_after g.S.Sealed.tells g.S.Sealed.bytes c.args.segment.now c.args.params.now c.loop-at.at (256 * c.loop-at.at) c.loop-at.out c.load_piece.new.piece _ (counts_of (g.E.Eye.reads c.loop-at.eye) (g.E.Eye.faults c.loop-at.eye)) _ c.loop-at.invariant c.in_ok-load_piece.ensures.loaded)

pub loop-at-preserved : goal.loop-at-preserved
loop-at-preserved g c =
    let count = c.count.ensures in
    let pieces = c.div_ceil-at-end.ensures in
    let test = c.loop-at-test.true in
    piece_more g.S.Sealed.tells g.S.Sealed.bytes c.args.segment.now c.args.params.now c.loop-at.at (256 * c.loop-at.at) c.loop-at.out c.add_lists.new.out c.load_piece.new.piece _ (counts_of (g.E.Eye.reads c.loop-at.eye) (g.E.Eye.faults c.loop-at.eye)) _ refl (omega arith) c.loop-at.invariant c.in_ok-load_piece.ensures.loaded c.in_ok-add_lists.ensures

pub returns-clause-read : goal.returns-clause-read
returns-clause-read g c =
    let count = c.count.ensures in
    let pieces = c.div_ceil-at-end.ensures in
    let past = c.loop-at-test.false in
    let end = c.loop-at.auto.at-end in
    all_read g.S.Sealed.tells g.S.Sealed.bytes c.args.segment.now c.args.params.now c.loop-at.at c.loop-at.out _ _ (omega arith) c.loop-at.invariant
