use Rattle.std.proofs.Common.{◌≡◌, false, subst}
use Rattle.std.specs.Prelude.{Result}
use Rattle.ann_vault.specs.Counted.{CountsFault}
use Rattle.ann_journal.specs.Updated.{entries_by}
use Rattle.ann_journal.specs.declared.refused.Receipt.{Receipt}
use Rattle.ann_journal.specs.declared.refused.UpdateRefused.{UpdateRefused}
use Rattle.ann_journal.specs.declared.refused.UpdateRefused.TheVariants.{LogFault}
use Rattle.ann_index.specs.Index.{HolderView, kept_of}
use Rattle.ann_index.specs.Updated.{HasFailed, IsUpdateOf}
use Rattle.ann_index.proofs.Counted.{update_counts}
use Rattle.ann_index.proofs.Doubts.{doubt_after}
use Rattle.ann_index.proofs.Opened.{some_updated}
use Rattle.ann_index.proofs.index.Index.update.Goals as goal

pub invariant_of-self : goal.invariant_of-self
invariant_of-self g c =
    some_updated g.F.LogFile g.V.Seal.Sealed.tells g.V.Seal.Sealed.bytes g.V.Vault.held c.self.invariant.0 c.self.invariant.1 c.args.changes.now (kept_of c.self.inside.ledger.journal c.self.inside.ledger.stock c.self.inside.view) (kept_of c.update_shown.new.ledger.journal c.update_shown.new.ledger.stock c.update_shown.new.view) c.update_shown.result c.self.invariant.2
    (c.update_shown.ensures.updated false c.self.invariant.0 c.self.invariant.1 c.self.invariant.2)

pub returns-clause-cause : goal.returns-clause-cause
returns-clause-cause g c =
    subst (λ (i : HolderView _ _ _ _). CountsFault (λ why. why ≡ LogFault) c.update_shown.result (g.F.LogFile.faults i.kept.journal.log.log) (g.F.LogFile.faults c.update_shown.new.ledger.journal.log.log)) c.self.view_is
    (update_counts g.F.LogFile g.V.Seal.Sealed.tells g.V.Seal.Sealed.bytes g.V.Vault.held false c.self.invariant.0 c.self.invariant.1 c.args.changes.now (kept_of c.self.inside.ledger.journal c.self.inside.ledger.stock c.self.inside.view) (kept_of c.update_shown.new.ledger.journal c.update_shown.new.ledger.stock c.update_shown.new.view) c.update_shown.result
    (c.update_shown.ensures.updated false c.self.invariant.0 c.self.invariant.1 c.self.invariant.2))

pub returns-clause-doubt : goal.returns-clause-doubt
returns-clause-doubt g c failed =
    let w : HasFailed g.F.LogFile g.V.Seal.Sealed.tells g.V.Seal.Sealed.bytes g.V.Vault.held false c.self.invariant.0 c.self.invariant.1 c.args.changes.now (kept_of c.self.inside.ledger.journal c.self.inside.ledger.stock c.self.inside.view) (kept_of c.update_shown.new.ledger.journal c.update_shown.new.ledger.stock c.update_shown.new.view) =
    subst (λ (r : Result Receipt UpdateRefused). IsUpdateOf g.F.LogFile g.V.Seal.Sealed.tells g.V.Seal.Sealed.bytes g.V.Vault.held false c.self.invariant.0 c.self.invariant.1 c.args.changes.now (kept_of c.self.inside.ledger.journal c.self.inside.ledger.stock c.self.inside.view) (kept_of c.update_shown.new.ledger.journal c.update_shown.new.ledger.stock c.update_shown.new.view) r) failed
    (c.update_shown.ensures.updated false c.self.invariant.0 c.self.invariant.1 c.self.invariant.2) in
    doubt_after g.F.LogFile c.self.inside.ledger.journal.log c.update_shown.new.ledger.journal.log (entries_by 0 c.args.changes.now) w.unlogged (c.update_shown.ensures.during w.accepted.open_now)
