use Rattle.std.proofs.Common.{◌≡◌, ◌∙◌, [], ◌∷◌, Bool, true, false, ap, subst, sym}
use Rattle.std.specs.Prelude.{Result, Ok, Err}
use Rattle.ann_types.specs.Lists.{BasedList, with_entry}
use Rattle.ann_types.specs.declared.entry.Entry.TheVariants.{Begin}
use Rattle.ann_account.specs.Steps.{StillLead}
use Rattle.ann_journal.specs.Journal.{index_in}
use Rattle.ann_stock.specs.Stock.{StockView}
use Rattle.ann_ledger.specs.Ledger.{IsLedgerOf}
use Rattle.ann_ledger.specs.Merging.{IsOpening, list_behind}
use Rattle.ann_ledger.specs.declared.refused.Unopened.{Unopened}
use Rattle.ann_ledger.specs.declared.refused.Unopened.TheVariants as opening
use Rattle.ann_index.specs.Index.{IsIndexOf, kept_of}
use Rattle.ann_index.specs.Steps.{IsOpened}
use Rattle.ann_index.specs.declared.refusal.MergeRefused.TheVariants.{Nothing, Memory, LogFault, MemoryLogged}
use Rattle.ann_index.proofs.Shown.{index_all, index_from}
use Rattle.ann_index.proofs.Updating.{same_log_by, same_log_then}
use Rattle.ann_index.proofs.Doubts.{doubt_after}
use Rattle.ann_index.proofs.Beginning.{failing, has_begun, idle, index_begun, open_keeps, opened, opens_log, unshown, wanting, was_open}
use Rattle.ann_index.proofs.begin.open_shown.Goals as goal

pub show_all-requires : goal.show_all-requires
show_all-requires g c =
    let sound : Bool = c.requires.list.0 in
    let h : BasedList = c.requires.list.1 in
    let is = c.requires.list.2 in
    let r : c.open_merge.result ≡ Ok true = c.in-Ok-true.is ∙ ap Ok c.in-Ok-true.field-0-test in
    let w = subst (λ (r : Result Bool Unopened). IsOpening g.F.LogFile h 0 c.args.ledger.now.journal c.open_merge.new.self.journal r) r (c.open_merge.ensures.opened sound h is.follows.journal_is is.follows.shows) in
    let l : IsLedgerOf g.F.LogFile g.V.Seal.Sealed.tells g.V.Seal.Sealed.bytes g.V.Vault.held sound (with_entry h (Begin 0)) c.open_merge.new.self.journal c.args.ledger.now.stock =
    subst (λ (s : StockView _ _ _). IsLedgerOf g.F.LogFile g.V.Seal.Sealed.tells g.V.Seal.Sealed.bytes g.V.Vault.held sound (with_entry h (Begin 0)) c.open_merge.new.self.journal s) c.open_merge.ensures.stock
    (subst (λ (r : Result Bool Unopened). IsLedgerOf g.F.LogFile g.V.Seal.Sealed.tells g.V.Seal.Sealed.bytes g.V.Vault.held sound (list_behind h 0 r) c.open_merge.new.self.journal c.open_merge.new.self.stock) r (c.open_merge.ensures.ledger sound h is.ledger is.follows.shows)) in
    let b : StillLead g.V.Seal.Sealed.bytes (index_in c.args.ledger.now.journal.log) h (Begin 0 ∷ []) c.args.ledger.now.journal.account c.open_merge.new.self.journal.account = c.open_merge.ensures.brings sound h is.follows.journal_is is.follows.shows r in
    let here : IsIndexOf g.F.LogFile g.V.Seal.Sealed.tells g.V.Seal.Sealed.bytes g.V.Vault.held sound (with_entry h (Begin 0)) h (kept_of c.open_merge.new.self.journal c.args.ledger.now.stock c.args.view.now) = index_begun g.F.LogFile g.V.Seal.Sealed.tells g.V.Seal.Sealed.bytes g.V.Vault.held g.V.Vault.faults g.E.Eye.faults sound h c.args.ledger.now.journal c.open_merge.new.self.journal c.args.ledger.now.stock c.args.ledger.now.stock.tools c.args.view.now c.requires.open is w b l in
    (sound, with_entry h (Begin 0), h, here.follows)

pub returns-in-Ok-clause-opened : goal.returns-in-Ok-clause-opened
returns-in-Ok-clause-opened g c sound h is =
    let r : c.open_merge.result ≡ Ok true = c.in-Ok-true.is ∙ ap Ok c.in-Ok-true.field-0-test in
    let w = subst (λ (r : Result Bool Unopened). IsOpening g.F.LogFile h 0 c.args.ledger.now.journal c.open_merge.new.self.journal r) r (c.open_merge.ensures.opened sound h is.follows.journal_is is.follows.shows) in
    let l : IsLedgerOf g.F.LogFile g.V.Seal.Sealed.tells g.V.Seal.Sealed.bytes g.V.Vault.held sound (with_entry h (Begin 0)) c.open_merge.new.self.journal c.args.ledger.now.stock =
    subst (λ (s : StockView _ _ _). IsLedgerOf g.F.LogFile g.V.Seal.Sealed.tells g.V.Seal.Sealed.bytes g.V.Vault.held sound (with_entry h (Begin 0)) c.open_merge.new.self.journal s) c.open_merge.ensures.stock
    (subst (λ (r : Result Bool Unopened). IsLedgerOf g.F.LogFile g.V.Seal.Sealed.tells g.V.Seal.Sealed.bytes g.V.Vault.held sound (list_behind h 0 r) c.open_merge.new.self.journal c.open_merge.new.self.stock) r (c.open_merge.ensures.ledger sound h is.ledger is.follows.shows)) in
    let b : StillLead g.V.Seal.Sealed.bytes (index_in c.args.ledger.now.journal.log) h (Begin 0 ∷ []) c.args.ledger.now.journal.account c.open_merge.new.self.journal.account = c.open_merge.ensures.brings sound h is.follows.journal_is is.follows.shows r in
    let here : IsIndexOf g.F.LogFile g.V.Seal.Sealed.tells g.V.Seal.Sealed.bytes g.V.Vault.held sound (with_entry h (Begin 0)) h (kept_of c.open_merge.new.self.journal c.args.ledger.now.stock c.args.view.now) = index_begun g.F.LogFile g.V.Seal.Sealed.tells g.V.Seal.Sealed.bytes g.V.Vault.held g.V.Vault.faults g.E.Eye.faults sound h c.args.ledger.now.journal c.open_merge.new.self.journal c.args.ledger.now.stock c.args.ledger.now.stock.tools c.args.view.now c.requires.open is w b l in
    subst (λ (s : StockView _ _ _). IsOpened g.F.LogFile g.V.Seal.Sealed.tells g.V.Seal.Sealed.bytes g.V.Vault.held g.V.Vault.faults g.E.Eye.faults sound h c.args.ledger.now.journal.log c.args.ledger.now.stock.tools (kept_of c.show_all.new.journal s c.show_all.new.view) (Ok true)) (sym c.open_merge.ensures.stock)
    (opened g.F.LogFile g.V.Seal.Sealed.tells g.V.Seal.Sealed.bytes g.V.Vault.held g.V.Vault.faults g.E.Eye.faults sound h c.args.ledger.now.journal c.open_merge.new.self.journal c.args.ledger.now.stock c.args.ledger.now.stock.tools c.args.view.now c.requires.open is w b l c.show_all.new.journal c.show_all.new.view c.show_all.ensures.some.log
    (index_all g.F.LogFile g.V.Seal.Sealed.tells g.V.Seal.Sealed.bytes g.V.Vault.held sound (with_entry h (Begin 0)) c.open_merge.new.self.journal c.show_all.new.journal c.args.ledger.now.stock h c.args.view.now c.show_all.new.view c.show_all.ensures.some (c.show_all.ensures.follows sound (with_entry h (Begin 0)) h here.follows) c.in-Ok.ensures.shown here))

pub returns-in-Ok-clause-same_log : goal.returns-in-Ok-clause-same_log
returns-in-Ok-clause-same_log g c =
    let sound : Bool = c.requires.list.0 in
    let h : BasedList = c.requires.list.1 in
    let is = c.requires.list.2 in
    same_log_then c.args.ledger.now.journal.log c.open_merge.new.self.journal.log c.show_all.new.journal.log
    (opens_log g.F.LogFile h 0 c.args.ledger.now.journal c.open_merge.new.self.journal c.open_merge.result (c.open_merge.ensures.opened sound h is.follows.journal_is is.follows.shows))
    (same_log_by c.open_merge.new.self.journal.log c.show_all.new.journal.log c.show_all.ensures.some.log)

pub returns-in-Err-clause-same_log : goal.returns-in-Err-clause-same_log
returns-in-Err-clause-same_log g c =
    let sound : Bool = c.requires.list.0 in
    let h : BasedList = c.requires.list.1 in
    let is = c.requires.list.2 in
    same_log_then c.args.ledger.now.journal.log c.open_merge.new.self.journal.log c.show_all.new.journal.log
    (opens_log g.F.LogFile h 0 c.args.ledger.now.journal c.open_merge.new.self.journal c.open_merge.result (c.open_merge.ensures.opened sound h is.follows.journal_is is.follows.shows))
    (same_log_by c.open_merge.new.self.journal.log c.show_all.new.journal.log c.show_all.ensures.some.log)

pub returns-in-Err-clause-opened : goal.returns-in-Err-clause-opened
returns-in-Err-clause-opened g c sound h is =
    let r : c.open_merge.result ≡ Ok true = c.in-Ok-true.is ∙ ap Ok c.in-Ok-true.field-0-test in
    let w = subst (λ (r : Result Bool Unopened). IsOpening g.F.LogFile h 0 c.args.ledger.now.journal c.open_merge.new.self.journal r) r (c.open_merge.ensures.opened sound h is.follows.journal_is is.follows.shows) in
    let l : IsLedgerOf g.F.LogFile g.V.Seal.Sealed.tells g.V.Seal.Sealed.bytes g.V.Vault.held sound (with_entry h (Begin 0)) c.open_merge.new.self.journal c.args.ledger.now.stock =
    subst (λ (s : StockView _ _ _). IsLedgerOf g.F.LogFile g.V.Seal.Sealed.tells g.V.Seal.Sealed.bytes g.V.Vault.held sound (with_entry h (Begin 0)) c.open_merge.new.self.journal s) c.open_merge.ensures.stock
    (subst (λ (r : Result Bool Unopened). IsLedgerOf g.F.LogFile g.V.Seal.Sealed.tells g.V.Seal.Sealed.bytes g.V.Vault.held sound (list_behind h 0 r) c.open_merge.new.self.journal c.open_merge.new.self.stock) r (c.open_merge.ensures.ledger sound h is.ledger is.follows.shows)) in
    let b : StillLead g.V.Seal.Sealed.bytes (index_in c.args.ledger.now.journal.log) h (Begin 0 ∷ []) c.args.ledger.now.journal.account c.open_merge.new.self.journal.account = c.open_merge.ensures.brings sound h is.follows.journal_is is.follows.shows r in
    let here : IsIndexOf g.F.LogFile g.V.Seal.Sealed.tells g.V.Seal.Sealed.bytes g.V.Vault.held sound (with_entry h (Begin 0)) h (kept_of c.open_merge.new.self.journal c.args.ledger.now.stock c.args.view.now) = index_begun g.F.LogFile g.V.Seal.Sealed.tells g.V.Seal.Sealed.bytes g.V.Vault.held g.V.Vault.faults g.E.Eye.faults sound h c.args.ledger.now.journal c.open_merge.new.self.journal c.args.ledger.now.stock c.args.ledger.now.stock.tools c.args.view.now c.requires.open is w b l in
    let next = (c.show_all.ensures.follows sound (with_entry h (Begin 0)) h here.follows) in
    subst (λ (s : StockView _ _ _). IsOpened g.F.LogFile g.V.Seal.Sealed.tells g.V.Seal.Sealed.bytes g.V.Vault.held g.V.Vault.faults g.E.Eye.faults sound h c.args.ledger.now.journal.log c.args.ledger.now.stock.tools (kept_of c.show_all.new.journal s c.show_all.new.view) (Err (MemoryLogged c.receipt.result))) (sym c.open_merge.ensures.stock)
    (unshown g.F.LogFile g.V.Seal.Sealed.tells g.V.Seal.Sealed.bytes g.V.Vault.held g.V.Vault.faults g.E.Eye.faults sound h c.args.ledger.now.journal c.open_merge.new.self.journal c.args.ledger.now.stock c.args.ledger.now.stock.tools c.args.view.now c.requires.open is w b l c.show_all.new.journal c.show_all.new.view c.show_all.ensures.some.log c.receipt.result
    (c.receipt.ensures ∙ next.1.journal_is.account_is.at)
    (index_from g.F.LogFile g.V.Seal.Sealed.tells g.V.Seal.Sealed.bytes g.V.Vault.held sound (with_entry h (Begin 0)) c.open_merge.new.self.journal c.show_all.new.journal c.args.ledger.now.stock h c.args.view.now c.show_all.new.view c.show_all.ensures.some next here))

pub returns-in-Ok-false-clause-opened : goal.returns-in-Ok-false-clause-opened
returns-in-Ok-false-clause-opened g c sound h is =
    let r : c.open_merge.result ≡ Ok false = c.in-Ok-false.is ∙ ap Ok c.in-Ok-false.field-0-test in
    let w = subst (λ (r : Result Bool Unopened). IsOpening g.F.LogFile h 0 c.args.ledger.now.journal c.open_merge.new.self.journal r) r (c.open_merge.ensures.opened sound h is.follows.journal_is is.follows.shows) in
    subst (λ (s : StockView _ _ _). IsOpened g.F.LogFile g.V.Seal.Sealed.tells g.V.Seal.Sealed.bytes g.V.Vault.held g.V.Vault.faults g.E.Eye.faults sound h c.args.ledger.now.journal.log c.args.ledger.now.stock.tools (kept_of c.open_merge.new.self.journal s c.args.view.now) (Ok false)) (sym c.open_merge.ensures.stock)
    (was_open g.F.LogFile g.V.Seal.Sealed.tells g.V.Seal.Sealed.bytes g.V.Vault.held g.V.Vault.faults g.E.Eye.faults sound h c.args.ledger.now.journal c.open_merge.new.self.journal c.args.ledger.now.stock c.args.ledger.now.stock.tools c.args.view.now c.requires.open is w)

pub returns-in-Ok-false-clause-same_log : goal.returns-in-Ok-false-clause-same_log
returns-in-Ok-false-clause-same_log g c =
    let sound : Bool = c.requires.list.0 in
    let h : BasedList = c.requires.list.1 in
    let is = c.requires.list.2 in
    opens_log g.F.LogFile h 0 c.args.ledger.now.journal c.open_merge.new.self.journal c.open_merge.result (c.open_merge.ensures.opened sound h is.follows.journal_is is.follows.shows)

pub returns-in-Err-Nothing-clause-opened : goal.returns-in-Err-Nothing-clause-opened
returns-in-Err-Nothing-clause-opened g c sound h is =
    let r : c.open_merge.result ≡ Err (opening.Nothing c.in-Err-Nothing.at) = c.in-Err-Nothing.is ∙ ap Err c.in-Err-Nothing.field-0-is in
    let w = subst (λ (r : Result Bool Unopened). IsOpening g.F.LogFile h 0 c.args.ledger.now.journal c.open_merge.new.self.journal r) r (c.open_merge.ensures.opened sound h is.follows.journal_is is.follows.shows) in
    subst (λ (s : StockView _ _ _). IsOpened g.F.LogFile g.V.Seal.Sealed.tells g.V.Seal.Sealed.bytes g.V.Vault.held g.V.Vault.faults g.E.Eye.faults sound h c.args.ledger.now.journal.log c.args.ledger.now.stock.tools (kept_of c.open_merge.new.self.journal s c.args.view.now) (Err (Nothing c.in-Err-Nothing.at))) (sym c.open_merge.ensures.stock)
    (idle g.F.LogFile g.V.Seal.Sealed.tells g.V.Seal.Sealed.bytes g.V.Vault.held g.V.Vault.faults g.E.Eye.faults sound h c.args.ledger.now.journal c.open_merge.new.self.journal c.args.ledger.now.stock c.args.ledger.now.stock.tools c.args.view.now c.requires.open is c.in-Err-Nothing.at w)

pub returns-in-Err-Nothing-clause-same_log : goal.returns-in-Err-Nothing-clause-same_log
returns-in-Err-Nothing-clause-same_log g c =
    let sound : Bool = c.requires.list.0 in
    let h : BasedList = c.requires.list.1 in
    let is = c.requires.list.2 in
    opens_log g.F.LogFile h 0 c.args.ledger.now.journal c.open_merge.new.self.journal c.open_merge.result (c.open_merge.ensures.opened sound h is.follows.journal_is is.follows.shows)

pub returns-in-Err-Memory-clause-opened : goal.returns-in-Err-Memory-clause-opened
returns-in-Err-Memory-clause-opened g c sound h is =
    let r : c.open_merge.result ≡ Err opening.Memory = c.in-Err-Memory.is ∙ ap Err c.in-Err-Memory.field-0-is in
    let w = subst (λ (r : Result Bool Unopened). IsOpening g.F.LogFile h 0 c.args.ledger.now.journal c.open_merge.new.self.journal r) r (c.open_merge.ensures.opened sound h is.follows.journal_is is.follows.shows) in
    let l : IsLedgerOf g.F.LogFile g.V.Seal.Sealed.tells g.V.Seal.Sealed.bytes g.V.Vault.held sound h c.open_merge.new.self.journal c.args.ledger.now.stock =
    subst (λ (s : StockView _ _ _). IsLedgerOf g.F.LogFile g.V.Seal.Sealed.tells g.V.Seal.Sealed.bytes g.V.Vault.held sound h c.open_merge.new.self.journal s) c.open_merge.ensures.stock
    (subst (λ (r : Result Bool Unopened). IsLedgerOf g.F.LogFile g.V.Seal.Sealed.tells g.V.Seal.Sealed.bytes g.V.Vault.held sound (list_behind h 0 r) c.open_merge.new.self.journal c.open_merge.new.self.stock) r (c.open_merge.ensures.ledger sound h is.ledger is.follows.shows)) in
    subst (λ (s : StockView _ _ _). IsOpened g.F.LogFile g.V.Seal.Sealed.tells g.V.Seal.Sealed.bytes g.V.Vault.held g.V.Vault.faults g.E.Eye.faults sound h c.args.ledger.now.journal.log c.args.ledger.now.stock.tools (kept_of c.open_merge.new.self.journal s c.args.view.now) (Err Memory)) (sym c.open_merge.ensures.stock)
    (wanting g.F.LogFile g.V.Seal.Sealed.tells g.V.Seal.Sealed.bytes g.V.Vault.held g.V.Vault.faults g.E.Eye.faults sound h c.args.ledger.now.journal c.open_merge.new.self.journal c.args.ledger.now.stock c.args.ledger.now.stock.tools c.args.view.now c.requires.open is w l)

pub returns-in-Err-Memory-clause-same_log : goal.returns-in-Err-Memory-clause-same_log
returns-in-Err-Memory-clause-same_log g c =
    let sound : Bool = c.requires.list.0 in
    let h : BasedList = c.requires.list.1 in
    let is = c.requires.list.2 in
    opens_log g.F.LogFile h 0 c.args.ledger.now.journal c.open_merge.new.self.journal c.open_merge.result (c.open_merge.ensures.opened sound h is.follows.journal_is is.follows.shows)

pub returns-in-Err-LogFault-clause-opened : goal.returns-in-Err-LogFault-clause-opened
returns-in-Err-LogFault-clause-opened g c sound h is =
    let r : c.open_merge.result ≡ Err opening.LogFault = c.in-Err-LogFault.is ∙ ap Err c.in-Err-LogFault.field-0-is in
    let w = subst (λ (r : Result Bool Unopened). IsOpening g.F.LogFile h 0 c.args.ledger.now.journal c.open_merge.new.self.journal r) r (c.open_merge.ensures.opened sound h is.follows.journal_is is.follows.shows) in
    let l : IsLedgerOf g.F.LogFile g.V.Seal.Sealed.tells g.V.Seal.Sealed.bytes g.V.Vault.held sound h c.open_merge.new.self.journal c.args.ledger.now.stock =
    subst (λ (s : StockView _ _ _). IsLedgerOf g.F.LogFile g.V.Seal.Sealed.tells g.V.Seal.Sealed.bytes g.V.Vault.held sound h c.open_merge.new.self.journal s) c.open_merge.ensures.stock
    (subst (λ (r : Result Bool Unopened). IsLedgerOf g.F.LogFile g.V.Seal.Sealed.tells g.V.Seal.Sealed.bytes g.V.Vault.held sound (list_behind h 0 r) c.open_merge.new.self.journal c.open_merge.new.self.stock) r (c.open_merge.ensures.ledger sound h is.ledger is.follows.shows)) in
    subst (λ (s : StockView _ _ _). IsOpened g.F.LogFile g.V.Seal.Sealed.tells g.V.Seal.Sealed.bytes g.V.Vault.held g.V.Vault.faults g.E.Eye.faults sound h c.args.ledger.now.journal.log c.args.ledger.now.stock.tools (kept_of c.open_merge.new.self.journal s c.args.view.now) (Err LogFault)) (sym c.open_merge.ensures.stock)
    (failing g.F.LogFile g.V.Seal.Sealed.tells g.V.Seal.Sealed.bytes g.V.Vault.held g.V.Vault.faults g.E.Eye.faults sound h c.args.ledger.now.journal c.open_merge.new.self.journal c.args.ledger.now.stock c.args.ledger.now.stock.tools c.args.view.now c.requires.open is w l)

pub returns-in-Err-LogFault-clause-same_log : goal.returns-in-Err-LogFault-clause-same_log
returns-in-Err-LogFault-clause-same_log g c =
    let sound : Bool = c.requires.list.0 in
    let h : BasedList = c.requires.list.1 in
    let is = c.requires.list.2 in
    opens_log g.F.LogFile h 0 c.args.ledger.now.journal c.open_merge.new.self.journal c.open_merge.result (c.open_merge.ensures.opened sound h is.follows.journal_is is.follows.shows)

pub returns-in-Ok-clause-goes_on : goal.returns-in-Ok-clause-goes_on
returns-in-Ok-clause-goes_on g c sound h is some =
    c.show_all.ensures.some.log ∙ open_keeps g.F.LogFile h 0 c.args.ledger.now.journal c.open_merge.new.self.journal some c.open_merge.result (c.open_merge.ensures.opened sound h is.follows.journal_is is.follows.shows)

pub returns-in-Err-clause-goes_on : goal.returns-in-Err-clause-goes_on
returns-in-Err-clause-goes_on g c sound h is some =
    c.show_all.ensures.some.log ∙ open_keeps g.F.LogFile h 0 c.args.ledger.now.journal c.open_merge.new.self.journal some c.open_merge.result (c.open_merge.ensures.opened sound h is.follows.journal_is is.follows.shows)

pub returns-in-Ok-false-clause-goes_on : goal.returns-in-Ok-false-clause-goes_on
returns-in-Ok-false-clause-goes_on g c sound h is some =
    open_keeps g.F.LogFile h 0 c.args.ledger.now.journal c.open_merge.new.self.journal some c.open_merge.result (c.open_merge.ensures.opened sound h is.follows.journal_is is.follows.shows)

pub returns-in-Err-Nothing-clause-goes_on : goal.returns-in-Err-Nothing-clause-goes_on
returns-in-Err-Nothing-clause-goes_on g c sound h is some =
    open_keeps g.F.LogFile h 0 c.args.ledger.now.journal c.open_merge.new.self.journal some c.open_merge.result (c.open_merge.ensures.opened sound h is.follows.journal_is is.follows.shows)

pub returns-in-Err-Memory-clause-goes_on : goal.returns-in-Err-Memory-clause-goes_on
returns-in-Err-Memory-clause-goes_on g c sound h is some =
    open_keeps g.F.LogFile h 0 c.args.ledger.now.journal c.open_merge.new.self.journal some c.open_merge.result (c.open_merge.ensures.opened sound h is.follows.journal_is is.follows.shows)

pub returns-in-Err-LogFault-clause-goes_on : goal.returns-in-Err-LogFault-clause-goes_on
returns-in-Err-LogFault-clause-goes_on g c sound h is some =
    open_keeps g.F.LogFile h 0 c.args.ledger.now.journal c.open_merge.new.self.journal some c.open_merge.result (c.open_merge.ensures.opened sound h is.follows.journal_is is.follows.shows)

pub returns-in-Err-clause-untaken : goal.returns-in-Err-clause-untaken
returns-in-Err-clause-untaken g c sound h is =
    let r : c.open_merge.result ≡ Ok true = c.in-Ok-true.is ∙ ap Ok c.in-Ok-true.field-0-test in
    let w = subst (λ (r : Result Bool Unopened). IsOpening g.F.LogFile h 0 c.args.ledger.now.journal c.open_merge.new.self.journal r) r (c.open_merge.ensures.opened sound h is.follows.journal_is is.follows.shows) in
    let l : IsLedgerOf g.F.LogFile g.V.Seal.Sealed.tells g.V.Seal.Sealed.bytes g.V.Vault.held sound (with_entry h (Begin 0)) c.open_merge.new.self.journal c.args.ledger.now.stock =
    subst (λ (s : StockView _ _ _). IsLedgerOf g.F.LogFile g.V.Seal.Sealed.tells g.V.Seal.Sealed.bytes g.V.Vault.held sound (with_entry h (Begin 0)) c.open_merge.new.self.journal s) c.open_merge.ensures.stock
    (subst (λ (r : Result Bool Unopened). IsLedgerOf g.F.LogFile g.V.Seal.Sealed.tells g.V.Seal.Sealed.bytes g.V.Vault.held sound (list_behind h 0 r) c.open_merge.new.self.journal c.open_merge.new.self.stock) r (c.open_merge.ensures.ledger sound h is.ledger is.follows.shows)) in
    let b : StillLead g.V.Seal.Sealed.bytes (index_in c.args.ledger.now.journal.log) h (Begin 0 ∷ []) c.args.ledger.now.journal.account c.open_merge.new.self.journal.account = c.open_merge.ensures.brings sound h is.follows.journal_is is.follows.shows r in
    has_begun g.F.LogFile g.V.Seal.Sealed.tells g.V.Seal.Sealed.bytes g.V.Vault.held g.V.Vault.faults g.E.Eye.faults sound h c.args.ledger.now.journal c.open_merge.new.self.journal c.args.ledger.now.stock c.args.ledger.now.stock.tools c.args.view.now c.requires.open is w b l c.show_all.new.journal c.show_all.new.view c.show_all.ensures.some.log

pub returns-in-Err-Memory-clause-untaken : goal.returns-in-Err-Memory-clause-untaken
returns-in-Err-Memory-clause-untaken g c sound h is =
    let r : c.open_merge.result ≡ Err opening.Memory = c.in-Err-Memory.is ∙ ap Err c.in-Err-Memory.field-0-is in
    let w = subst (λ (r : Result Bool Unopened). IsOpening g.F.LogFile h 0 c.args.ledger.now.journal c.open_merge.new.self.journal r) r (c.open_merge.ensures.opened sound h is.follows.journal_is is.follows.shows) in
    w.untouched.log

pub returns-in-Err-LogFault-clause-untaken : goal.returns-in-Err-LogFault-clause-untaken
returns-in-Err-LogFault-clause-untaken g c sound h is =
    let r : c.open_merge.result ≡ Err opening.LogFault = c.in-Err-LogFault.is ∙ ap Err c.in-Err-LogFault.field-0-is in
    let w = subst (λ (r : Result Bool Unopened). IsOpening g.F.LogFile h 0 c.args.ledger.now.journal c.open_merge.new.self.journal r) r (c.open_merge.ensures.opened sound h is.follows.journal_is is.follows.shows) in (
      record { may = record { none = w.may.none; work = w.may.work }; unlogged = w.unlogged.log },
      doubt_after g.F.LogFile c.args.ledger.now.journal.log c.open_merge.new.self.journal.log (Begin 0 ∷ []) w.unlogged.log c.open_merge.ensures.during,
    )
