use Rattle.std.proofs.Common.{◌≡◌, ℕ, sym, ap, subst, ◌∙◌}
use Rattle.ann_stock.specs.Cleared.{HasCleared}
use Rattle.ann_types.specs.Lists.{ListBase}
use Rattle.ann_ledger.proofs.Clears.{ledger_cleared}
use Rattle.ann_ledger.proofs.ledger.Ledger.clear.Goals as goal

pub returns-clause-ledger : goal.returns-clause-ledger
returns-clause-ledger g c sound h is =
    let base : c.base.result.now.segment ≡ h.base.segment =
    ap (λ b. b.segment) c.base.ensures.base ∙ sym (ap (λ (b : ListBase). b.segment) is.journal_is.list.base) in
    ledger_cleared g.F.LogFile g.V.Seal.Sealed.tells g.V.Seal.Sealed.bytes g.V.Vault.held g.V.Vault.faults sound h c.args.self.now.journal
    (λ t v kept. c.is_closed.ensures.safe (is.told t).0 c.if-is_closed.false h v is.journal_is kept)
    c.args.self.now.stock c.clear.new.self c.clear.result is
    (subst (λ (n : ℕ). HasCleared g.V.Seal.Sealed.tells g.V.Vault.held g.V.Vault.faults n c.args.self.now.stock c.clear.new.self c.clear.result) base c.clear.ensures)
