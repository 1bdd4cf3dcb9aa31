use Rattle.std.proofs.Common.{◌≡◌, false, sym, ap, subst, ◌∙◌}
use Rattle.ann_state.specs.State.{AreKept}
use Rattle.ann_journal.specs.Journal.{JournalView, IsJournalOf}
use Rattle.ann_showing.specs.Showing.{Follows}
use Rattle.ann_ledger.proofs.Parts.{IsTold, follows_of, journal_of, ledger_of}
use Rattle.ann_ledger.proofs.open.Opened.of.Goals as goal

pub returns-clause-ledger : goal.returns-clause-ledger
returns-clause-ledger g c sound h is =
    let told : IsTold c.args.parts.view c.args.parts.tags c.args.parts.begun c.new-account.result = record {
      at = c.new-account.ensures.at ∙ c.at.ensures;
      next = c.new-account.ensures.next ∙ c.next.ensures;
      begun_is = c.new-account.ensures.begun;
      tags_are = c.new-account.ensures.tags;
      none = c.new-account.ensures.shown;
    } in
    let journal_is : IsJournalOf g.F.LogFile h c.new.result =
    subst (IsJournalOf g.F.LogFile h) (sym c.new.ensures)
    (journal_of g.F.LogFile g.V.Seal.Sealed.tells g.V.Seal.Sealed.bytes sound h c.args.parts.log (g.V.Vault.held c.args.parts.vault) c.args.parts.view c.args.parts.tags c.args.parts.begun is c.new-account.result told) in
    ledger_of g.F.LogFile g.V.Seal.Sealed.tells g.V.Seal.Sealed.bytes g.V.Vault.held sound h c.new.result c.new-2.result c.args.parts.vault c.args.parts.eyes.items is.told journal_is
    (c.base-older.ensures.older h journal_is) c.new-2.ensures.tools c.new-2.ensures.retired
    (λ t. c.is_closed-safe.ensures.safe (is.told t).0
    (c.is_closed-safe.ensures.closed ∙ ap (λ (j : JournalView _ _). j.log.is_closed) c.new.ensures ∙ is.shown.open_now.0) h (g.V.Vault.held c.args.parts.vault) journal_is
    (subst (λ (j : JournalView _ _). AreKept (g.V.Vault.held c.args.parts.vault) j.log.params j.log.book.book h) (sym c.new.ensures) (is.kept t)))

pub returns-clause-shown : goal.returns-clause-shown
returns-clause-shown g c sound h is =
    let told : IsTold c.args.parts.view c.args.parts.tags c.args.parts.begun c.new-account.result = record {
      at = c.new-account.ensures.at ∙ c.at.ensures;
      next = c.new-account.ensures.next ∙ c.next.ensures;
      begun_is = c.new-account.ensures.begun;
      tags_are = c.new-account.ensures.tags;
      none = c.new-account.ensures.shown;
    } in
    subst (λ (j : JournalView _ _). Follows g.F.LogFile g.V.Seal.Sealed.bytes sound h h j c.args.parts.view) (sym c.new.ensures)
    (follows_of g.F.LogFile g.V.Seal.Sealed.tells g.V.Seal.Sealed.bytes sound h c.args.parts.log (g.V.Vault.held c.args.parts.vault) c.args.parts.view c.args.parts.tags c.args.parts.begun is c.new-account.result told)
