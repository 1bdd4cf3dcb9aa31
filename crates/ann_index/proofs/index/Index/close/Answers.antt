use Rattle.std.proofs.Common.{[], subst, sym}
use Rattle.ann_types.specs.Legal.{IsLegal}
use Rattle.ann_account.specs.Account.{AccountView}
use Rattle.ann_account.specs.Steps.{CanNote}
use Rattle.ann_log.specs.LogView.{LogView}
use Rattle.ann_journal.specs.Journal.{index_in}
use Rattle.ann_journal.specs.Safe.{IsSafe}
use Rattle.ann_stock.specs.Stock.{AtHand}
use Rattle.ann_index.specs.Closed.{HasClosed}
use Rattle.ann_index.specs.Devices.{DevicesGoOn}
use Rattle.ann_index.specs.Index.{HolderView, IsIndexOf, kept_of}
use Rattle.ann_index.proofs.Devices.{devices_closed}
use Rattle.ann_index.proofs.Closing.{has_closed, safe_out}
use Rattle.ann_index.proofs.Shown.{without_more}
use Rattle.ann_index.proofs.index.Index.close.Goals as goal

pub returns-clause-parts : goal.returns-clause-parts
returns-clause-parts g c =
    subst (λ (i : HolderView _ _ _ _). HasClosed g.V.Seal.Sealed.tells g.V.Vault.held g.V.Vault.faults i.kept c.in-Some.parts.vault c.in-Some.parts.eyes.items c.clear-removed.result) c.self.view_is
    (has_closed g.V.Seal.Sealed.tells g.V.Vault.held g.V.Vault.faults c.in-Some.parts.vault c.in-Some.parts.eyes.items c.clear-removed.result (kept_of c.self.inside.ledger.journal c.self.inside.ledger.stock c.self.inside.view) c.clear-removed.new.self.stock c.clear-removed.ensures.cleared c.in-Some.ensures)

pub returns-clause-devices : goal.returns-clause-devices
returns-clause-devices g c =
    subst (λ (i : HolderView _ _ _ _). DevicesGoOn g.V.Vault.faults g.E.Eye.reads g.E.Eye.faults i.kept.stock.tools (AtHand c.in-Some.parts.vault c.in-Some.parts.eyes.items)) c.self.view_is
    (devices_closed g.V.Vault.faults g.E.Eye.reads g.E.Eye.faults g.V.Seal.Sealed.tells g.V.Vault.held (kept_of c.self.inside.ledger.journal c.self.inside.ledger.stock c.self.inside.view) c.in-Some.parts.vault c.in-Some.parts.eyes.items c.clear-removed.result
    (has_closed g.V.Seal.Sealed.tells g.V.Vault.held g.V.Vault.faults c.in-Some.parts.vault c.in-Some.parts.eyes.items c.clear-removed.result (kept_of c.self.inside.ledger.journal c.self.inside.ledger.stock c.self.inside.view) c.clear-removed.new.self.stock c.clear-removed.ensures.cleared c.in-Some.ensures))

pub returns-clause-live : goal.returns-clause-live
returns-clause-live g c sound h shown was =
    let is : IsIndexOf g.F.LogFile g.V.Seal.Sealed.tells g.V.Seal.Sealed.bytes g.V.Vault.held sound h shown (kept_of c.self.inside.ledger.journal c.self.inside.ledger.stock c.self.inside.view) =
    subst (λ (i : HolderView _ _ _ _). IsIndexOf g.F.LogFile g.V.Seal.Sealed.tells g.V.Seal.Sealed.bytes g.V.Vault.held sound h shown i.kept) (sym c.self.view_is) was in
    c.live-live.ensures (index_in c.self.inside.ledger.journal.log) h
    (subst (λ (a : AccountView _). CanNote (index_in c.self.inside.ledger.journal.log) h [] a) (sym c.account.ensures)
    (record {
      account_is = is.follows.journal_is.account_is;
      legal = subst (IsLegal (index_in c.self.inside.ledger.journal.log)) (sym (without_more h)) is.follows.journal_is.legal;
    }))

pub returns-clause-safe : goal.returns-clause-safe
returns-clause-safe g c sound h shown was t =
    let is : IsIndexOf g.F.LogFile g.V.Seal.Sealed.tells g.V.Seal.Sealed.bytes g.V.Vault.held sound h shown (kept_of c.self.inside.ledger.journal c.self.inside.ledger.stock c.self.inside.view) =
    subst (λ (i : HolderView _ _ _ _). IsIndexOf g.F.LogFile g.V.Seal.Sealed.tells g.V.Seal.Sealed.bytes g.V.Vault.held sound h shown i.kept) (sym c.self.view_is) was in
    subst (λ (l : LogView _). IsSafe g.F.LogFile (g.V.Vault.held c.in-Some.parts.vault) l h) (sym c.into_log.ensures)
    (safe_out g.F.LogFile g.V.Seal.Sealed.tells g.V.Seal.Sealed.bytes g.V.Vault.held sound c.clear-removed.new.self.journal.log h c.clear-removed.new.self.stock.tools c.in-Some.parts.vault c.in-Some.parts.eyes.items (c.clear-removed.ensures.ledger sound h is.ledger).tools c.in-Some.ensures t)
