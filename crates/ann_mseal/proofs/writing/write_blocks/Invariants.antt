use Rattle.std.proofs.Common.{◌≡◌, ◌*◌, take}
use Rattle.ann_segment.specs.Writer.{KeepsRest}
use Rattle.ann_mseal.specs.Written.{HasAppended, HasRows, IsSameSegment}
use Rattle.ann_mseal.proofs.writing.write_blocks.Given as goal

-- the blocks so far were appended
abbrev pub invariant-loop-i : goal.invariant-loop-i
invariant-loop-i g l = record {
  same : IsSameSegment l.fn.writer l.writer;
  rows : HasRows (take (4096 * l.i) l.blocks) l.fn.writer l.writer;
  draft : g.V.Seal.Sealed.tells → HasAppended g.V.Vault.is_current g.V.Vault.draft_number g.V.Vault.draft_bytes (take (4096 * l.i) l.blocks) l.vault l.fn.writer.draft l.writer.draft;
  rest : g.V.Seal.Sealed.tells → KeepsRest g.V.Vault.is_current g.V.Vault.draft_number g.V.Vault.held (g.V.Vault.draft_number l.fn.writer.draft) l.fn.vault l.vault;
  calm : g.V.Vault.faults l.vault ≡ g.V.Vault.faults l.fn.vault;
}
