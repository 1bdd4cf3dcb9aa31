use Rattle.std.proofs.Common.{◌≡◌, ◌∙◌, Bool, false, ap, subst, sym}
use Rattle.std.specs.Prelude.{Result, Err}
use Rattle.std.proofs.lemmas.Result.{err_from_is_err_and}
use Rattle.ann_types.specs.Lists.{BasedList, BeginsWith}
use Rattle.ann_log.specs.LogView.{LogView, files_of, held_of, IsBeforeOrAfter}
use Rattle.ann_log.specs.Pairs.{EachPair, LeavePairs}
use Rattle.ann_log.specs.Text.{StandsFor}
use Rattle.ann_journal.specs.Updated.{entries_by}
use Rattle.ann_journal.specs.declared.refused.Receipt.{Receipt}
use Rattle.ann_journal.specs.declared.refused.UpdateRefused.{UpdateRefused}
use Rattle.ann_journal.proofs.Frames.{idle_log}
use Rattle.ann_ledger.specs.Ledger.{IsLedgerOf}
use Rattle.ann_index.specs.Index.{IsIndexOf, kept_of}
use Rattle.ann_index.specs.Updated.{HasUpdated, IsUnshown, IsUpdateOf, changed}
use Rattle.ann_index.proofs.Shown.{index_all, index_from, ledger_shown, shown_on}
use Rattle.ann_index.proofs.Updating.{are_logged, follows_update, index_update, refused_of, same_log_by, same_log_then, updates_log}
use Rattle.ann_index.proofs.update.update_shown.Goals as goal

pub returns-in_err-show_all-clause-updated : goal.returns-in_err-show_all-clause-updated
returns-in_err-show_all-clause-updated g c sound h shown is =
    let open_now : c.args.ledger.now.journal.log.is_closed ≡ false = ap (λ l. l.is_closed) (sym c.log.ensures) ∙ sym c.is_closed.ensures.closed ∙ c.if-is_closed.false in
    let p = err_from_is_err_and c.from_residual.result c.from_residual.ensures.1 in
    subst (λ (r : Result Receipt UpdateRefused). IsUpdateOf g.F.LogFile g.V.Seal.Sealed.tells g.V.Seal.Sealed.bytes g.V.Vault.held sound h shown c.args.changes.now (kept_of c.args.ledger.now.journal c.args.ledger.now.stock c.args.view.now) (kept_of c.show_all.new.journal c.args.ledger.now.stock c.show_all.new.view) r) (sym (p.1 ∙ ap Err p.2))
    (record {
      open_now = open_now;
      log = c.show_all.ensures.some.log;
      still = index_from g.F.LogFile g.V.Seal.Sealed.tells g.V.Seal.Sealed.bytes g.V.Vault.held sound h c.args.ledger.now.journal c.show_all.new.journal c.args.ledger.now.stock shown c.args.view.now c.show_all.new.view c.show_all.ensures.some (c.show_all.ensures.follows sound h shown is.follows) is;
    })

pub returns-in_err-show_all-clause-during : goal.returns-in_err-show_all-clause-during
returns-in_err-show_all-clause-during g c open_now tells =
    subst (λ (l : LogView _). LeavePairs g.F.LogFile.past g.F.LogFile.unsynced (files_of c.args.ledger.now.journal.log) (files_of l) (IsBeforeOrAfter (held_of c.args.ledger.now.journal.log) (entries_by 0 c.args.changes.now))) (sym c.show_all.ensures.some.log)
    (idle_log g.F.LogFile c.args.ledger.now.journal.log (entries_by 0 c.args.changes.now)
    (subst (λ (l : LogView _). EachPair g.F.LogFile.unsynced (StandsFor (held_of l)) (files_of l)) c.log.ensures (c.is_closed.ensures.images tells c.if-is_closed.false)))

pub update-requires-clause-list : goal.update-requires-clause-list
update-requires-clause-list g c =
    let sound : Bool = c.requires.list.0 in
    let h : BasedList = c.requires.list.1 in
    let next = c.show_all.ensures.follows sound h c.requires.list.2 c.requires.list.3.follows in
    (sound, h, ledger_shown g.F.LogFile g.V.Seal.Sealed.tells g.V.Seal.Sealed.bytes g.V.Vault.held sound h c.args.ledger.now.journal c.show_all.new.journal c.args.ledger.now.stock c.show_all.ensures.some.log next.1.journal_is c.requires.list.3.ledger)

pub returns-in_err-receipt-clause-updated : goal.returns-in_err-receipt-clause-updated
returns-in_err-receipt-clause-updated g c sound h shown is =
    let open_now : c.args.ledger.now.journal.log.is_closed ≡ false = ap (λ l. l.is_closed) (sym c.log.ensures) ∙ sym c.is_closed.ensures.closed ∙ c.if-is_closed.false in
    let all : IsIndexOf g.F.LogFile g.V.Seal.Sealed.tells g.V.Seal.Sealed.bytes g.V.Vault.held sound h h (kept_of c.show_all.new.journal c.args.ledger.now.stock c.show_all.new.view) =
    index_all g.F.LogFile g.V.Seal.Sealed.tells g.V.Seal.Sealed.bytes g.V.Vault.held sound h c.args.ledger.now.journal c.show_all.new.journal c.args.ledger.now.stock shown c.args.view.now c.show_all.new.view c.show_all.ensures.some (c.show_all.ensures.follows sound h shown is.follows) c.in_ok-show_all.ensures.shown is in
    let on : BeginsWith h shown = shown_on g.F.LogFile g.V.Seal.Sealed.bytes sound h shown h c.args.ledger.now.journal c.show_all.new.journal c.args.view.now c.show_all.new.view is.follows all.follows c.show_all.ensures.some in
    let l : IsLedgerOf g.F.LogFile g.V.Seal.Sealed.tells g.V.Seal.Sealed.bytes g.V.Vault.held sound h c.update.new.self.journal c.args.ledger.now.stock =
    subst (λ s. IsLedgerOf g.F.LogFile g.V.Seal.Sealed.tells g.V.Seal.Sealed.bytes g.V.Vault.held sound h c.update.new.self.journal s) c.update.ensures.stock (c.in_err-receipt.ensures.ledger sound h all.ledger) in
    let p = err_from_is_err_and c.from_residual-in_err-receipt.result c.from_residual-in_err-receipt.ensures.1 in
    subst (λ (r : Result Receipt UpdateRefused). IsUpdateOf g.F.LogFile g.V.Seal.Sealed.tells g.V.Seal.Sealed.bytes g.V.Vault.held sound h shown c.args.changes.now (kept_of c.args.ledger.now.journal c.args.ledger.now.stock c.args.view.now) (kept_of c.update.new.self.journal c.update.new.self.stock c.show_all.new.view) r) (sym (p.1 ∙ ap Err p.2))
    (subst (λ s. IsUpdateOf g.F.LogFile g.V.Seal.Sealed.tells g.V.Seal.Sealed.bytes g.V.Vault.held sound h shown c.args.changes.now (kept_of c.args.ledger.now.journal c.args.ledger.now.stock c.args.view.now) (kept_of c.update.new.self.journal s c.show_all.new.view) (Err c.in_err-receipt.field-0.0)) (sym c.update.ensures.stock)
    (refused_of g.F.LogFile g.V.Seal.Sealed.tells g.V.Seal.Sealed.bytes g.V.Vault.held sound h shown c.args.changes.now c.args.ledger.now.journal c.show_all.new.journal c.update.new.self.journal c.args.ledger.now.stock c.args.view.now c.show_all.new.view c.show_all.ensures.some.log open_now all l on c.in_err-receipt.field-0.0 (c.in_err-receipt.ensures.updated h all.follows.journal_is)))

pub returns-in_err-receipt-clause-same_log : goal.returns-in_err-receipt-clause-same_log
returns-in_err-receipt-clause-same_log g c =
    let h : BasedList = c.requires.list.1 in
    let next = c.show_all.ensures.follows c.requires.list.0 h c.requires.list.2 c.requires.list.3.follows in
    same_log_then c.args.ledger.now.journal.log c.show_all.new.journal.log c.update.new.self.journal.log
    (same_log_by c.args.ledger.now.journal.log c.show_all.new.journal.log c.show_all.ensures.some.log)
    (updates_log g.F.LogFile h 0 c.args.changes.now c.show_all.new.journal c.update.new.self.journal c.update.result (c.update.ensures.updated h next.1.journal_is))

pub show_all-requires-2 : goal.show_all-requires-2
show_all-requires-2 g c =
    let sound : Bool = c.requires.list.0 in
    let h : BasedList = c.requires.list.1 in
    let is = c.requires.list.3 in
    let open_now : c.args.ledger.now.journal.log.is_closed ≡ false = ap (λ l. l.is_closed) (sym c.log.ensures) ∙ sym c.is_closed.ensures.closed ∙ c.if-is_closed.false in
    let all : IsIndexOf g.F.LogFile g.V.Seal.Sealed.tells g.V.Seal.Sealed.bytes g.V.Vault.held sound h h (kept_of c.show_all.new.journal c.args.ledger.now.stock c.show_all.new.view) =
    index_all g.F.LogFile g.V.Seal.Sealed.tells g.V.Seal.Sealed.bytes g.V.Vault.held sound h c.args.ledger.now.journal c.show_all.new.journal c.args.ledger.now.stock c.requires.list.2 c.args.view.now c.show_all.new.view c.show_all.ensures.some (c.show_all.ensures.follows sound h c.requires.list.2 is.follows) c.in_ok-show_all.ensures.shown is in (
      sound,
      changed h c.args.changes.now,
      h,
      follows_update g.F.LogFile g.V.Seal.Sealed.tells g.V.Seal.Sealed.bytes g.V.Vault.held sound h h c.args.changes.now c.args.ledger.now.journal c.show_all.new.journal c.update.new.self.journal c.args.ledger.now.stock c.args.view.now c.show_all.new.view c.show_all.ensures.some.log open_now all c.in_ok-receipt.receipt (c.in_ok-receipt.ensures.updated h all.follows.journal_is) (c.in_ok-receipt.ensures.brings h all.follows.journal_is),
    )

pub returns-in-Ok-clause-updated : goal.returns-in-Ok-clause-updated
returns-in-Ok-clause-updated g c sound h shown is =
    let open_now : c.args.ledger.now.journal.log.is_closed ≡ false = ap (λ l. l.is_closed) (sym c.log.ensures) ∙ sym c.is_closed.ensures.closed ∙ c.if-is_closed.false in
    let all : IsIndexOf g.F.LogFile g.V.Seal.Sealed.tells g.V.Seal.Sealed.bytes g.V.Vault.held sound h h (kept_of c.show_all.new.journal c.args.ledger.now.stock c.show_all.new.view) =
    index_all g.F.LogFile g.V.Seal.Sealed.tells g.V.Seal.Sealed.bytes g.V.Vault.held sound h c.args.ledger.now.journal c.show_all.new.journal c.args.ledger.now.stock shown c.args.view.now c.show_all.new.view c.show_all.ensures.some (c.show_all.ensures.follows sound h shown is.follows) c.in_ok-show_all.ensures.shown is in
    let l : IsLedgerOf g.F.LogFile g.V.Seal.Sealed.tells g.V.Seal.Sealed.bytes g.V.Vault.held sound (changed h c.args.changes.now) c.update.new.self.journal c.args.ledger.now.stock =
    subst (λ s. IsLedgerOf g.F.LogFile g.V.Seal.Sealed.tells g.V.Seal.Sealed.bytes g.V.Vault.held sound (changed h c.args.changes.now) c.update.new.self.journal s) c.update.ensures.stock (c.in_ok-receipt.ensures.ledger sound h all.ledger) in
    let here : IsIndexOf g.F.LogFile g.V.Seal.Sealed.tells g.V.Seal.Sealed.bytes g.V.Vault.held sound (changed h c.args.changes.now) h (kept_of c.update.new.self.journal c.args.ledger.now.stock c.show_all.new.view) =
    index_update g.F.LogFile g.V.Seal.Sealed.tells g.V.Seal.Sealed.bytes g.V.Vault.held sound h shown c.args.changes.now c.args.ledger.now.journal c.show_all.new.journal c.update.new.self.journal c.args.ledger.now.stock c.args.view.now c.show_all.new.view c.show_all.ensures.some.log open_now all c.in_ok-receipt.receipt (c.in_ok-receipt.ensures.updated h all.follows.journal_is) (c.in_ok-receipt.ensures.brings h all.follows.journal_is) l in
    subst (λ s. HasUpdated g.F.LogFile g.V.Seal.Sealed.tells g.V.Seal.Sealed.bytes g.V.Vault.held sound h shown c.args.changes.now (kept_of c.args.ledger.now.journal c.args.ledger.now.stock c.args.view.now) (kept_of c.show_all-2.new.journal s c.show_all-2.new.view) c.in_ok-receipt.receipt) (sym c.update.ensures.stock)
    (record {
      logged = are_logged g.F.LogFile g.V.Seal.Sealed.tells g.V.Seal.Sealed.bytes g.V.Vault.held sound h shown c.args.changes.now c.args.ledger.now.journal c.show_all.new.journal c.update.new.self.journal c.args.ledger.now.stock c.args.view.now c.show_all.new.view c.show_all.ensures.some.log open_now all c.in_ok-receipt.receipt (c.in_ok-receipt.ensures.updated h all.follows.journal_is) c.show_all-2.new.journal c.show_all-2.new.view c.show_all-2.ensures.some.log;
      index = index_all g.F.LogFile g.V.Seal.Sealed.tells g.V.Seal.Sealed.bytes g.V.Vault.held sound (changed h c.args.changes.now) c.update.new.self.journal c.show_all-2.new.journal c.args.ledger.now.stock h c.show_all.new.view c.show_all-2.new.view c.show_all-2.ensures.some (c.show_all-2.ensures.follows sound (changed h c.args.changes.now) h here.follows) c.in-Ok.ensures.shown here;
    })

pub returns-in-Err-clause-updated : goal.returns-in-Err-clause-updated
returns-in-Err-clause-updated g c sound h shown is =
    let open_now : c.args.ledger.now.journal.log.is_closed ≡ false = ap (λ l. l.is_closed) (sym c.log.ensures) ∙ sym c.is_closed.ensures.closed ∙ c.if-is_closed.false in
    let all : IsIndexOf g.F.LogFile g.V.Seal.Sealed.tells g.V.Seal.Sealed.bytes g.V.Vault.held sound h h (kept_of c.show_all.new.journal c.args.ledger.now.stock c.show_all.new.view) =
    index_all g.F.LogFile g.V.Seal.Sealed.tells g.V.Seal.Sealed.bytes g.V.Vault.held sound h c.args.ledger.now.journal c.show_all.new.journal c.args.ledger.now.stock shown c.args.view.now c.show_all.new.view c.show_all.ensures.some (c.show_all.ensures.follows sound h shown is.follows) c.in_ok-show_all.ensures.shown is in
    let l : IsLedgerOf g.F.LogFile g.V.Seal.Sealed.tells g.V.Seal.Sealed.bytes g.V.Vault.held sound (changed h c.args.changes.now) c.update.new.self.journal c.args.ledger.now.stock =
    subst (λ s. IsLedgerOf g.F.LogFile g.V.Seal.Sealed.tells g.V.Seal.Sealed.bytes g.V.Vault.held sound (changed h c.args.changes.now) c.update.new.self.journal s) c.update.ensures.stock (c.in_ok-receipt.ensures.ledger sound h all.ledger) in
    let here : IsIndexOf g.F.LogFile g.V.Seal.Sealed.tells g.V.Seal.Sealed.bytes g.V.Vault.held sound (changed h c.args.changes.now) h (kept_of c.update.new.self.journal c.args.ledger.now.stock c.show_all.new.view) =
    index_update g.F.LogFile g.V.Seal.Sealed.tells g.V.Seal.Sealed.bytes g.V.Vault.held sound h shown c.args.changes.now c.args.ledger.now.journal c.show_all.new.journal c.update.new.self.journal c.args.ledger.now.stock c.args.view.now c.show_all.new.view c.show_all.ensures.some.log open_now all c.in_ok-receipt.receipt (c.in_ok-receipt.ensures.updated h all.follows.journal_is) (c.in_ok-receipt.ensures.brings h all.follows.journal_is) l in
    subst (λ s. IsUnshown g.F.LogFile g.V.Seal.Sealed.tells g.V.Seal.Sealed.bytes g.V.Vault.held sound h shown c.args.changes.now (kept_of c.args.ledger.now.journal c.args.ledger.now.stock c.args.view.now) (kept_of c.show_all-2.new.journal s c.show_all-2.new.view) c.in_ok-receipt.receipt) (sym c.update.ensures.stock)
    (record {
      logged = are_logged g.F.LogFile g.V.Seal.Sealed.tells g.V.Seal.Sealed.bytes g.V.Vault.held sound h shown c.args.changes.now c.args.ledger.now.journal c.show_all.new.journal c.update.new.self.journal c.args.ledger.now.stock c.args.view.now c.show_all.new.view c.show_all.ensures.some.log open_now all c.in_ok-receipt.receipt (c.in_ok-receipt.ensures.updated h all.follows.journal_is) c.show_all-2.new.journal c.show_all-2.new.view c.show_all-2.ensures.some.log;
      index = index_from g.F.LogFile g.V.Seal.Sealed.tells g.V.Seal.Sealed.bytes g.V.Vault.held sound (changed h c.args.changes.now) c.update.new.self.journal c.show_all-2.new.journal c.args.ledger.now.stock h c.show_all.new.view c.show_all-2.new.view c.show_all-2.ensures.some (c.show_all-2.ensures.follows sound (changed h c.args.changes.now) h here.follows) here;
    })

pub returns-in-Ok-clause-same_log : goal.returns-in-Ok-clause-same_log
returns-in-Ok-clause-same_log g c =
    let h : BasedList = c.requires.list.1 in
    let next = c.show_all.ensures.follows c.requires.list.0 h c.requires.list.2 c.requires.list.3.follows in
    same_log_then c.args.ledger.now.journal.log c.update.new.self.journal.log c.show_all-2.new.journal.log
    (same_log_then c.args.ledger.now.journal.log c.show_all.new.journal.log c.update.new.self.journal.log
    (same_log_by c.args.ledger.now.journal.log c.show_all.new.journal.log c.show_all.ensures.some.log)
    (updates_log g.F.LogFile h 0 c.args.changes.now c.show_all.new.journal c.update.new.self.journal c.update.result (c.update.ensures.updated h next.1.journal_is)))
    (same_log_by c.update.new.self.journal.log c.show_all-2.new.journal.log c.show_all-2.ensures.some.log)

pub returns-in-Err-clause-same_log : goal.returns-in-Err-clause-same_log
returns-in-Err-clause-same_log g c =
    let h : BasedList = c.requires.list.1 in
    let next = c.show_all.ensures.follows c.requires.list.0 h c.requires.list.2 c.requires.list.3.follows in
    same_log_then c.args.ledger.now.journal.log c.update.new.self.journal.log c.show_all-2.new.journal.log
    (same_log_then c.args.ledger.now.journal.log c.show_all.new.journal.log c.update.new.self.journal.log
    (same_log_by c.args.ledger.now.journal.log c.show_all.new.journal.log c.show_all.ensures.some.log)
    (updates_log g.F.LogFile h 0 c.args.changes.now c.show_all.new.journal c.update.new.self.journal c.update.result (c.update.ensures.updated h next.1.journal_is)))
    (same_log_by c.update.new.self.journal.log c.show_all-2.new.journal.log c.show_all-2.ensures.some.log)
