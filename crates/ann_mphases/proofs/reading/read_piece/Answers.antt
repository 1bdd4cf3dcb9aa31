use Rattle.std.proofs.Common.{◌*◌}
use Rattle.ann_mdelete.specs.Refusals.{counts_of}
use Rattle.ann_mcause.proofs.Loaded.{unloaded_cause, unloaded_gone}
use Rattle.ann_mplan.proofs.Reading.{refused_as}
use Rattle.ann_mphases.proofs.reading.read_piece.Goals as goal

pub returns-in_err-load_piece-clause-eye : goal.returns-in_err-load_piece-clause-eye
returns-in_err-load_piece-clause-eye g c =
    unloaded_gone g.S.Sealed.tells g.S.Sealed.bytes c.args.segment.now c.args.params.now (256 * c.args.number) c.load_piece.new.piece.page
    (counts_of (g.E.Eye.reads c.args.eye.now) (g.E.Eye.faults c.args.eye.now)) (counts_of (g.E.Eye.reads c.load_piece.new.eye) (g.E.Eye.faults c.load_piece.new.eye)) c.in_err-load_piece.field-0.0 c.in_err-load_piece.ensures.refused

pub returns-in_err-load_piece-clause-refused : goal.returns-in_err-load_piece-clause-refused
returns-in_err-load_piece-clause-refused g c =
    refused_as _ c.from_residual-in_err-load_piece.result c.in_err-load_piece.field-0.0 c.from_residual-in_err-load_piece.ensures.1
    (unloaded_cause g.S.Sealed.tells g.S.Sealed.bytes c.args.segment.now c.args.params.now (256 * c.args.number) c.load_piece.new.piece.page
    (counts_of (g.E.Eye.reads c.args.eye.now) (g.E.Eye.faults c.args.eye.now)) (counts_of (g.E.Eye.reads c.load_piece.new.eye) (g.E.Eye.faults c.load_piece.new.eye)) c.in_err-load_piece.field-0.0 c.in_err-load_piece.ensures.refused)
