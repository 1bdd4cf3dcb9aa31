use Rattle.std.proofs.Common.{◌≡◌}
use Rattle.ann_resume.specs.Removed.{is_named}
use Rattle.ann_resume.proofs.Removing.{AreRemoved}
use Rattle.ann_resume.proofs.remove.remove_others.Given as goal

-- of the numbers so far those that aren't named are gone, and no call has failed
abbrev pub invariant-loop-number : goal.invariant-loop-number
invariant-loop-number g l = record {
  removed : g.V.Seal.Sealed.tells → AreRemoved (is_named l.first l.second) l.number-items l.number-index (g.V.Vault.held l.fn.vault) (g.V.Vault.held l.vault);
  calm : g.V.Vault.faults l.vault ≡ g.V.Vault.faults l.fn.vault;
}
