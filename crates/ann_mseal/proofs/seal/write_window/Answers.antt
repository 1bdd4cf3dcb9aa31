use Rattle.std.proofs.Common.{◌≡◌, ℕ, ◌+◌, ◌*◌, ◌≤◌, length, min, sym, subst, arith}
use Rattle.std.specs.List.{concat}
use Rattle.ann_crew.specs.Crew.{ArePieces}
use Rattle.ann_mcause.specs.Eyes.{AreCause}
use Rattle.ann_mpatch.specs.Plan.{source_for}
use Rattle.ann_mpatch.proofs.Courses.{refused_as}
use Rattle.ann_mseal.specs.Pieces.{IsMergedPiece}
use Rattle.ann_mseal.proofs.Refusals.{eyes_refused}
use Rattle.ann_mseal.proofs.Windows.{pieces_long}
use Rattle.ann_mseal.proofs.Writings.{writing_more}
use Rattle.ann_mseal.proofs.seal.write_window.Goals as goal

room : (written first last more rows count : ℕ) → written ≡ first → 4096 * first + more ≡ 4096 * last → last ≤ rows → count ≡ rows → 4096 * written + more ≤ 4096 * count
room written first last more rows count here step most all = omega arith

within_rows : (n rows : ℕ) → min n rows ≤ rows
within_rows n rows = omega arith

pub returns-in_err-pieces-clause-refused : goal.returns-in_err-pieces-clause-refused
returns-in_err-pieces-clause-refused g c =
    refused_as _ c.from_residual.result c.in_err-pieces.field-0.0 c.from_residual.ensures.1
    (eyes_refused (AreCause g.E.Eye.reads g.E.Eye.faults g.V.Seal.Sealed.tells (source_for g.V.Seal.Sealed.bytes c.args.plan.now) c.args.plan.now.params c.args.eyes.now.items c.patch_window.new.eyes.items) _ _ c.in_err-pieces.field-0.0 c.in_err-pieces.ensures.refused)

pub write_pieces-requires-clause-more : goal.write_pieces-requires-clause-more
write_pieces-requires-clause-more g c =
    let plan = c.args.plan.now in
    let are : ArePieces (IsMergedPiece g.V.Seal.Sealed.tells g.V.Seal.Sealed.bytes plan) c.args.first c.args.count c.deref.result.now =
    subst (ArePieces (IsMergedPiece g.V.Seal.Sealed.tells g.V.Seal.Sealed.bytes plan) c.args.first c.args.count) (sym c.deref.ensures.value) c.in_ok-pieces.ensures.pieces in
    room c.args.writer.now.written (min (256 * c.args.first) (length plan.decoded)) (min (256 * (c.args.first + c.args.count)) (length plan.decoded)) (length (concat c.deref.result.now)) (length plan.decoded) c.args.writer.now.header.count
    c.requires.writing.written
    (pieces_long g.V.Seal.Sealed.tells g.V.Seal.Sealed.bytes plan c.args.first c.args.count c.deref.result.now c.requires.within are)
    (within_rows (256 * (c.args.first + c.args.count)) (length plan.decoded))
    c.requires.writing.rows

pub returns-in-Ok-clause-writing : goal.returns-in-Ok-clause-writing
returns-in-Ok-clause-writing g c =
    let plan = c.args.plan.now in
    let are : ArePieces (IsMergedPiece g.V.Seal.Sealed.tells g.V.Seal.Sealed.bytes plan) c.args.first c.args.count c.deref.result.now =
    subst (ArePieces (IsMergedPiece g.V.Seal.Sealed.tells g.V.Seal.Sealed.bytes plan) c.args.first c.args.count) (sym c.deref.ensures.value) c.in_ok-pieces.ensures.pieces in
    writing_more g.V.Seal.Sealed.tells g.V.Vault.is_current g.V.Vault.draft_number g.V.Vault.draft_bytes g.V.Seal.Sealed.bytes plan c.args.first c.args.count c.deref.result.now c.args.vault.now c.write_pieces.new.vault c.args.writer.now c.write_pieces.new.writer
    c.requires.within are c.requires.writing c.write_pieces.ensures.same c.in-Ok.ensures.rows (λ told. c.in-Ok.ensures.draft told)
