use Rattle.std.proofs.Common.{◌≤◌, ◌-◌}
use Rattle.ann_segment.specs.Writer.{KeepsRest}
use Rattle.ann_mcause.specs.Eyes.{HaveGone}
use Rattle.ann_mseal.specs.Written.{IsSameSegment, IsWriting}
use Rattle.ann_mseal.proofs.seal.write_rows.Given as goal

-- the pieces so far are written
abbrev pub invariant-loop-first : goal.invariant-loop-first
invariant-loop-first g l = record {
  within : l.first ≤ l.pieces;
  eyes : HaveGone g.E.Eye.reads g.E.Eye.faults l.fn.eyes.items l.eyes.items;
  same : IsSameSegment l.fn.writer l.writer;
  writing : IsWriting g.V.Seal.Sealed.tells g.V.Vault.is_current g.V.Vault.draft_number g.V.Vault.draft_bytes g.V.Seal.Sealed.bytes l.plan l.first l.vault l.writer;
  rest : g.V.Seal.Sealed.tells → KeepsRest g.V.Vault.is_current g.V.Vault.draft_number g.V.Vault.held l.fn.writer.header.number l.fn.vault l.vault;
  later : g.V.Vault.faults l.fn.vault ≤ g.V.Vault.faults l.vault;
}

abbrev pub decreases-loop-first : goal.decreases-loop-first
decreases-loop-first g l = l.pieces - l.first
