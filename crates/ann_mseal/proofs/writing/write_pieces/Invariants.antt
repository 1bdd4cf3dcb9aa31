use Rattle.std.proofs.Common.{◌≡◌, take}
use Rattle.std.specs.List.{concat}
use Rattle.ann_segment.specs.Writer.{KeepsRest}
use Rattle.ann_mseal.specs.Written.{HasAppended, HasRows, IsSameSegment}
use Rattle.ann_mseal.proofs.writing.write_pieces.Given as goal

-- the pieces so far were appended
abbrev pub invariant-loop-piece : goal.invariant-loop-piece
invariant-loop-piece g l = record {
  same : IsSameSegment l.fn.writer l.writer;
  rows : HasRows (concat (take l.piece-index l.pieces)) l.fn.writer l.writer;
  draft : g.V.Seal.Sealed.tells → HasAppended g.V.Vault.is_current g.V.Vault.draft_number g.V.Vault.draft_bytes (concat (take l.piece-index l.pieces)) l.vault l.fn.writer.draft l.writer.draft;
  rest : g.V.Seal.Sealed.tells → KeepsRest g.V.Vault.is_current g.V.Vault.draft_number g.V.Vault.held (g.V.Vault.draft_number l.fn.writer.draft) l.fn.vault l.vault;
  calm : g.V.Vault.faults l.vault ≡ g.V.Vault.faults l.fn.vault;
}
