use Rattle.std.proofs.Common.{◌≡◌, ◌∷◌, [], false, true, refl, ap, sym, ◌∙◌, subst}
use Rattle.std.specs.Prelude.{None}
use Rattle.ann_types.specs.Lists.{BasedList, with_entry}
use Rattle.ann_types.specs.declared.entry.Entry.TheVariants.{Begin}
use Rattle.ann_journal.specs.Journal.{JournalView, IsJournalOf}
use Rattle.ann_journal.specs.Logged.{CanLogAll, HasLogged}
use Rattle.ann_journal.proofs.Updating.{unlogged_by, untouched_by}
use Rattle.ann_showing.specs.Showing.{Shows}
use Rattle.ann_ledger.proofs.Growing.{grows, ledger_on, same_index}
use Rattle.ann_ledger.proofs.Opens.{can_log, idle_open, may_open, none_begun}
use Rattle.ann_ledger.proofs.Updates.{ledger_left, left_untouched, left_unlogged}
use Rattle.ann_ledger.proofs.ledger.Ledger.open_merge.Goals as goal

pub returns-then-is_some-clause-during : goal.returns-then-is_some-clause-during
returns-then-is_some-clause-during g c =
    idle_open g.F.LogFile c.args.self.now.journal.log c.log.result.now (Begin c.args.by ∷ []) c.is_closed-open.result c.log.ensures c.is_closed-open.ensures.closed c.requires.open c.is_closed-open.ensures.images

pub returns-then-not-can_begin-clause-during : goal.returns-then-not-can_begin-clause-during
returns-then-not-can_begin-clause-during g c =
    idle_open g.F.LogFile c.args.self.now.journal.log c.log.result.now (Begin c.args.by ∷ []) c.is_closed-open.result c.log.ensures c.is_closed-open.ensures.closed c.requires.open c.is_closed-open.ensures.images

pub log_begin-requires : goal.log_begin-requires
log_begin-requires g c =
    let h : BasedList = c.requires.list.1 in
    let none : c.args.self.now.journal.account.begun ≡ None = none_begun c.account.result.now c.args.self.now.journal.account c.begun.result c.is_some.result c.account.ensures c.begun.ensures c.is_some.ensures c.if-is_some.false in
    let can : CanLogAll g.F.LogFile h (Begin c.args.by ∷ []) c.args.self.now.journal = can_log g.F.LogFile g.V.Seal.Sealed.bytes c.requires.list.0 h c.args.self.now.journal c.args.view.now c.requires.list.2.journal_is c.requires.list.3 c.args.by c.requires.open none (sym c.can_begin.ensures ∙ c.if-not-can_begin.false) in
    (h, can)

pub returns-in-Ok-clause-opened : goal.returns-in-Ok-clause-opened
returns-in-Ok-clause-opened g c sound h is shows =
    let none : c.args.self.now.journal.account.begun ≡ None = none_begun c.account.result.now c.args.self.now.journal.account c.begun.result c.is_some.result c.account.ensures c.begun.ensures c.is_some.ensures c.if-is_some.false in
    let can : CanLogAll g.F.LogFile h (Begin c.args.by ∷ []) c.args.self.now.journal = can_log g.F.LogFile g.V.Seal.Sealed.bytes sound h c.args.self.now.journal c.args.view.now is shows c.args.by c.requires.open none (sym c.can_begin.ensures ∙ c.if-not-can_begin.false) in
    record { may = may_open g.F.LogFile g.V.Seal.Sealed.bytes sound h c.args.self.now.journal c.args.view.now is shows c.args.by c.log_begin.new.self none (sym c.can_begin.ensures ∙ c.if-not-can_begin.false); logged = c.in-Ok.ensures.logged h can }

pub returns-in-Ok-clause-ledger : goal.returns-in-Ok-clause-ledger
returns-in-Ok-clause-ledger g c sound h is shows =
    let none : c.args.self.now.journal.account.begun ≡ None = none_begun c.account.result.now c.args.self.now.journal.account c.begun.result c.is_some.result c.account.ensures c.begun.ensures c.is_some.ensures c.if-is_some.false in
    let can : CanLogAll g.F.LogFile h (Begin c.args.by ∷ []) c.args.self.now.journal = can_log g.F.LogFile g.V.Seal.Sealed.bytes sound h c.args.self.now.journal c.args.view.now is.journal_is shows c.args.by c.requires.open none (sym c.can_begin.ensures ∙ c.if-not-can_begin.false) in
    let logged : HasLogged g.F.LogFile h (Begin c.args.by ∷ []) c.args.self.now.journal c.log_begin.new.self = c.in-Ok.ensures.logged h can in
    ledger_on g.F.LogFile g.V.Seal.Sealed.tells g.V.Seal.Sealed.bytes g.V.Vault.held sound h (with_entry h (Begin c.args.by)) c.args.self.now.journal c.log_begin.new.self c.args.self.now.stock
    (grows g.F.LogFile g.V.Seal.Sealed.bytes sound h (Begin c.args.by ∷ []) c.args.self.now.journal.log c.log_begin.new.self.log (same_index c.args.self.now.journal.log c.log_begin.new.self.log logged.same_log) can.frame.legal refl
    (λ t v s. c.in-Ok.ensures.safe (is.told t).0 v h can s))
    logged.journal_is is

pub returns-in-Ok-clause-brings : goal.returns-in-Ok-clause-brings
returns-in-Ok-clause-brings g c sound h is shows same =
    let none : c.args.self.now.journal.account.begun ≡ None = none_begun c.account.result.now c.args.self.now.journal.account c.begun.result c.is_some.result c.account.ensures c.begun.ensures c.is_some.ensures c.if-is_some.false in
    let can : CanLogAll g.F.LogFile h (Begin c.args.by ∷ []) c.args.self.now.journal = can_log g.F.LogFile g.V.Seal.Sealed.bytes sound h c.args.self.now.journal c.args.view.now is shows c.args.by c.requires.open none (sym c.can_begin.ensures ∙ c.if-not-can_begin.false) in
    c.in-Ok.ensures.brings h can

pub returns-in-Ok-clause-safe : goal.returns-in-Ok-clause-safe
returns-in-Ok-clause-safe g c told sound held h is shows safe =
    let none : c.args.self.now.journal.account.begun ≡ None = none_begun c.account.result.now c.args.self.now.journal.account c.begun.result c.is_some.result c.account.ensures c.begun.ensures c.is_some.ensures c.if-is_some.false in
    let can : CanLogAll g.F.LogFile h (Begin c.args.by ∷ []) c.args.self.now.journal = can_log g.F.LogFile g.V.Seal.Sealed.bytes sound h c.args.self.now.journal c.args.view.now is shows c.args.by c.requires.open none (sym c.can_begin.ensures ∙ c.if-not-can_begin.false) in
    c.in-Ok.ensures.safe told held h can safe

pub returns-in-Err-Memory-clause-opened : goal.returns-in-Err-Memory-clause-opened
returns-in-Err-Memory-clause-opened g c sound h is shows =
    let none : c.args.self.now.journal.account.begun ≡ None = none_begun c.account.result.now c.args.self.now.journal.account c.begun.result c.is_some.result c.account.ensures c.begun.ensures c.is_some.ensures c.if-is_some.false in
    let can : CanLogAll g.F.LogFile h (Begin c.args.by ∷ []) c.args.self.now.journal = can_log g.F.LogFile g.V.Seal.Sealed.bytes sound h c.args.self.now.journal c.args.view.now is shows c.args.by c.requires.open none (sym c.can_begin.ensures ∙ c.if-not-can_begin.false) in
    record { may = may_open g.F.LogFile g.V.Seal.Sealed.bytes sound h c.args.self.now.journal c.args.view.now is shows c.args.by c.log_begin.new.self none (sym c.can_begin.ensures ∙ c.if-not-can_begin.false); untouched = untouched_by (Unit {0}) g.F.LogFile h (Begin c.args.by ∷ []) c.args.self.now.journal c.log_begin.new.self c.in-Err-Memory.field-0 c.in-Err-Memory.field-0-is (c.in-Err-Memory.ensures.logged h can) }

pub returns-in-Err-Memory-clause-ledger : goal.returns-in-Err-Memory-clause-ledger
returns-in-Err-Memory-clause-ledger g c sound h is shows =
    let none : c.args.self.now.journal.account.begun ≡ None = none_begun c.account.result.now c.args.self.now.journal.account c.begun.result c.is_some.result c.account.ensures c.begun.ensures c.is_some.ensures c.if-is_some.false in
    let can : CanLogAll g.F.LogFile h (Begin c.args.by ∷ []) c.args.self.now.journal = can_log g.F.LogFile g.V.Seal.Sealed.bytes sound h c.args.self.now.journal c.args.view.now is.journal_is shows c.args.by c.requires.open none (sym c.can_begin.ensures ∙ c.if-not-can_begin.false) in
    ledger_left g.F.LogFile g.V.Seal.Sealed.tells g.V.Seal.Sealed.bytes g.V.Vault.held sound h c.args.self.now.journal c.log_begin.new.self c.args.self.now.stock
    (left_untouched g.F.LogFile h c.args.self.now.journal c.log_begin.new.self (untouched_by (Unit {0}) g.F.LogFile h (Begin c.args.by ∷ []) c.args.self.now.journal c.log_begin.new.self c.in-Err-Memory.field-0 c.in-Err-Memory.field-0-is (c.in-Err-Memory.ensures.logged h can)))
    (λ t v s. c.in-Err-Memory.ensures.safe (is.told t).0 v h can s) is

pub returns-in-Err-Memory-clause-safe : goal.returns-in-Err-Memory-clause-safe
returns-in-Err-Memory-clause-safe g c told sound held h is shows safe =
    let none : c.args.self.now.journal.account.begun ≡ None = none_begun c.account.result.now c.args.self.now.journal.account c.begun.result c.is_some.result c.account.ensures c.begun.ensures c.is_some.ensures c.if-is_some.false in
    let can : CanLogAll g.F.LogFile h (Begin c.args.by ∷ []) c.args.self.now.journal = can_log g.F.LogFile g.V.Seal.Sealed.bytes sound h c.args.self.now.journal c.args.view.now is shows c.args.by c.requires.open none (sym c.can_begin.ensures ∙ c.if-not-can_begin.false) in
    c.in-Err-Memory.ensures.safe told held h can safe

pub returns-in-Err-Fault-clause-opened : goal.returns-in-Err-Fault-clause-opened
returns-in-Err-Fault-clause-opened g c sound h is shows =
    let none : c.args.self.now.journal.account.begun ≡ None = none_begun c.account.result.now c.args.self.now.journal.account c.begun.result c.is_some.result c.account.ensures c.begun.ensures c.is_some.ensures c.if-is_some.false in
    let can : CanLogAll g.F.LogFile h (Begin c.args.by ∷ []) c.args.self.now.journal = can_log g.F.LogFile g.V.Seal.Sealed.bytes sound h c.args.self.now.journal c.args.view.now is shows c.args.by c.requires.open none (sym c.can_begin.ensures ∙ c.if-not-can_begin.false) in
    record { may = may_open g.F.LogFile g.V.Seal.Sealed.bytes sound h c.args.self.now.journal c.args.view.now is shows c.args.by c.log_begin.new.self none (sym c.can_begin.ensures ∙ c.if-not-can_begin.false); unlogged = unlogged_by (Unit {0}) g.F.LogFile h (Begin c.args.by ∷ []) c.args.self.now.journal c.log_begin.new.self c.in-Err-Fault.field-0 c.in-Err-Fault.field-0-is (c.in-Err-Fault.ensures.logged h can) }

pub returns-in-Err-Fault-clause-ledger : goal.returns-in-Err-Fault-clause-ledger
returns-in-Err-Fault-clause-ledger g c sound h is shows =
    let none : c.args.self.now.journal.account.begun ≡ None = none_begun c.account.result.now c.args.self.now.journal.account c.begun.result c.is_some.result c.account.ensures c.begun.ensures c.is_some.ensures c.if-is_some.false in
    let can : CanLogAll g.F.LogFile h (Begin c.args.by ∷ []) c.args.self.now.journal = can_log g.F.LogFile g.V.Seal.Sealed.bytes sound h c.args.self.now.journal c.args.view.now is.journal_is shows c.args.by c.requires.open none (sym c.can_begin.ensures ∙ c.if-not-can_begin.false) in
    ledger_left g.F.LogFile g.V.Seal.Sealed.tells g.V.Seal.Sealed.bytes g.V.Vault.held sound h c.args.self.now.journal c.log_begin.new.self c.args.self.now.stock
    (left_unlogged g.F.LogFile h c.args.self.now.journal c.log_begin.new.self (unlogged_by (Unit {0}) g.F.LogFile h (Begin c.args.by ∷ []) c.args.self.now.journal c.log_begin.new.self c.in-Err-Fault.field-0 c.in-Err-Fault.field-0-is (c.in-Err-Fault.ensures.logged h can)))
    (λ t v s. c.in-Err-Fault.ensures.safe (is.told t).0 v h can s) is

pub returns-in-Err-Fault-clause-safe : goal.returns-in-Err-Fault-clause-safe
returns-in-Err-Fault-clause-safe g c told sound held h is shows safe =
    let none : c.args.self.now.journal.account.begun ≡ None = none_begun c.account.result.now c.args.self.now.journal.account c.begun.result c.is_some.result c.account.ensures c.begun.ensures c.is_some.ensures c.if-is_some.false in
    let can : CanLogAll g.F.LogFile h (Begin c.args.by ∷ []) c.args.self.now.journal = can_log g.F.LogFile g.V.Seal.Sealed.bytes sound h c.args.self.now.journal c.args.view.now is shows c.args.by c.requires.open none (sym c.can_begin.ensures ∙ c.if-not-can_begin.false) in
    c.in-Err-Fault.ensures.safe told held h can safe
