use Rattle.ann_ledger.proofs.Ends.{worked_on}
use Rattle.ann_ledger.proofs.ledger.Ledger.is_closed.Goals as goal

pub returns-clause-working : goal.returns-clause-working
returns-clause-working g c going sound h job worked is on same keeps =
    worked_on g.F.LogFile g.V.Seal.Sealed.tells g.V.Seal.Sealed.bytes g.V.Vault.held sound h 0 c.args.self.now.journal job c.args.self.now.stock worked
    (λ t v kept. c.is_closed.ensures.safe (is.told t).0 going h v is.journal_is kept) is on same keeps
