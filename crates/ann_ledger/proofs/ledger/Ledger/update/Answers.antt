use Rattle.ann_ledger.proofs.Updates.{ledger_updated}
use Rattle.ann_ledger.proofs.ledger.Ledger.update.Goals as goal

pub returns-clause-ledger : goal.returns-clause-ledger
returns-clause-ledger g c sound h is =
    ledger_updated g.F.LogFile g.V.Seal.Sealed.tells g.V.Seal.Sealed.bytes g.V.Vault.held sound h c.args.self.now.journal c.update.new.self c.args.self.now.stock c.args.by c.args.changes.now c.update.result
    (c.update.ensures.updated h is.journal_is)
    (λ t v safe. c.update.ensures.safe (is.told t).0 v h is.journal_is safe)
    is
