use Rattle.std.proofs.Common.{◌≡◌, ◌≤◌, ◌∷◌, [], ℕ, ap, sym, ◌∙◌, subst}
use Rattle.std.specs.Prelude.{Option, option_map}
use Rattle.std.specs.Arc.{arc_value}
use Rattle.ann_types.specs.Lists.{BasedList, next_pid, with_entry}
use Rattle.ann_types.specs.Index.{IsBookOf}
use Rattle.ann_types.specs.Legal.{pid_end}
use Rattle.ann_types.specs.declared.entry.Entry.TheVariants.{End}
use Rattle.ann_account.specs.Account.{AccountView}
use Rattle.ann_account.specs.Steps.{StillLead}
use Rattle.ann_log.specs.LogView.{LogView}
use Rattle.ann_merge.specs.Job.{IsDone}
use Rattle.ann_pq.specs.Codebook.{CodebookView}
use Rattle.ann_pq.proofs.Shapes.{is_book_of}
use Rattle.ann_journal.specs.Journal.{index_in}
use Rattle.ann_journal.specs.Logged.{CanLogEnd, HasLogged, MayGrow}
use Rattle.ann_journal.specs.Safe.{IsSafe}
use Rattle.ann_journal.proofs.Updating.{unlogged_by, untouched_by}
use Rattle.ann_stock.specs.Stock.{StockView}
use Rattle.ann_ledger.proofs.Ends.{can_log_end, done_of, holds_merge, may_grow}
use Rattle.ann_ledger.proofs.Opens.{idle_open}
use Rattle.ann_ledger.proofs.ledger.Ledger.log_end.Goals as goal

pub returns-in_err-segment-clause-during : goal.returns-in_err-segment-clause-during
returns-in_err-segment-clause-during g c going =
    idle_open g.F.LogFile c.args.self.now.journal.log c.log.result.now (End c.args.by c.args.job.now.order.number ∷ []) c.is_closed.result c.log.ensures c.is_closed.ensures.closed going c.is_closed.ensures.images

pub returns-in_err-reserve_retired-clause-during : goal.returns-in_err-reserve_retired-clause-during
returns-in_err-reserve_retired-clause-during g c going =
    idle_open g.F.LogFile c.args.self.now.journal.log c.log.result.now (End c.args.by c.args.job.now.order.number ∷ []) c.is_closed.result c.log.ensures c.is_closed.ensures.closed going c.is_closed.ensures.images

pub log_end-requires : goal.log_end-requires
log_end-requires g c =
    let h : BasedList = c.requires.list.1 in
    let done : IsDone g.V.Seal.Sealed.tells g.V.Seal.Sealed.bytes c.args.job.now.order (g.V.Vault.held c.args.job.now.vault) c.in-Some.segment.value =
    done_of g.V.Seal.Sealed.tells g.V.Seal.Sealed.bytes g.V.Vault.held c.args.job.now c.in-Some.segment.value (sym c.in_ok-segment.ensures.segment ∙ ap (λ (o : Option _). option_map arc_value o) c.in-Some.is) c.merged.ensures.done in
    let can : CanLogEnd g.F.LogFile h c.args.by c.in-Some.segment.value c.args.self.now.journal = can_log_end g.F.LogFile g.V.Seal.Sealed.tells g.V.Seal.Sealed.bytes g.V.Vault.held c.requires.list.0 h c.args.by c.args.self.now.journal c.args.job.now c.requires.list.2.journal_is c.requires.list.3 c.in-Some.segment.value done (sym (c.is_closed.ensures.closed ∙ ap (λ (l : LogView _). l.is_closed) c.log.ensures) ∙ c.if-is_closed.false) in
    (h, can)

pub returns-in-Ok-clause-ended : goal.returns-in-Ok-clause-ended
returns-in-Ok-clause-ended g c sound h is on =
    let done : IsDone g.V.Seal.Sealed.tells g.V.Seal.Sealed.bytes c.args.job.now.order (g.V.Vault.held c.args.job.now.vault) c.in-Some.segment.value =
    done_of g.V.Seal.Sealed.tells g.V.Seal.Sealed.bytes g.V.Vault.held c.args.job.now c.in-Some.segment.value (sym c.in_ok-segment.ensures.segment ∙ ap (λ (o : Option _). option_map arc_value o) c.in-Some.is) c.merged.ensures.done in
    let can : CanLogEnd g.F.LogFile h c.args.by c.in-Some.segment.value c.args.self.now.journal = can_log_end g.F.LogFile g.V.Seal.Sealed.tells g.V.Seal.Sealed.bytes g.V.Vault.held sound h c.args.by c.args.self.now.journal c.args.job.now is.journal_is on c.in-Some.segment.value done (sym (c.is_closed.ensures.closed ∙ ap (λ (l : LogView _). l.is_closed) c.log.ensures) ∙ c.if-is_closed.false) in
    let logged : HasLogged g.F.LogFile h (End c.args.by c.args.job.now.order.number ∷ []) c.args.self.now.journal c.log_end.new.self =
    subst (λ (n : ℕ). HasLogged g.F.LogFile h (End c.args.by n ∷ []) c.args.self.now.journal c.log_end.new.self) done.merge.numbered (c.in-Ok.ensures.logged h can) in
    record {
      open_now = (sym (c.is_closed.ensures.closed ∙ ap (λ (l : LogView _). l.is_closed) c.log.ensures) ∙ c.if-is_closed.false);
      logged = logged;
      place = c.at-in-Ok.ensures ∙ ap (λ (a : AccountView _). a.at) c.account-in-Ok.ensures ∙ logged.journal_is.account_is.at;
      stock = record { tools = ap (λ (s : StockView _ _ _). s.tools) c.reserve_retired.ensures.same; retired = ap (λ (s : StockView _ _ _). s.retired) c.reserve_retired.ensures.same };
      room = c.in_ok-reserve_retired.ensures.room;
    }

pub returns-in-Ok-clause-brings : goal.returns-in-Ok-clause-brings
returns-in-Ok-clause-brings g c sound h t is on =
    let done : IsDone g.V.Seal.Sealed.tells g.V.Seal.Sealed.bytes c.args.job.now.order (g.V.Vault.held c.args.job.now.vault) c.in-Some.segment.value =
    done_of g.V.Seal.Sealed.tells g.V.Seal.Sealed.bytes g.V.Vault.held c.args.job.now c.in-Some.segment.value (sym c.in_ok-segment.ensures.segment ∙ ap (λ (o : Option _). option_map arc_value o) c.in-Some.is) c.merged.ensures.done in
    let can : CanLogEnd g.F.LogFile h c.args.by c.in-Some.segment.value c.args.self.now.journal = can_log_end g.F.LogFile g.V.Seal.Sealed.tells g.V.Seal.Sealed.bytes g.V.Vault.held sound h c.args.by c.args.self.now.journal c.args.job.now is.journal_is on c.in-Some.segment.value done (sym (c.is_closed.ensures.closed ∙ ap (λ (l : LogView _). l.is_closed) c.log.ensures) ∙ c.if-is_closed.false) in
    subst (λ (n : ℕ). StillLead g.V.Seal.Sealed.bytes (index_in c.args.self.now.journal.log) h (End c.args.by n ∷ []) c.args.self.now.journal.account c.log_end.new.self.account) done.merge.numbered
    (c.in-Ok.ensures.brings h can (holds_merge g.F.LogFile g.V.Seal.Sealed.tells g.V.Seal.Sealed.bytes g.V.Vault.held sound h c.args.by c.args.self.now.journal c.args.job.now is.journal_is on c.in-Some.segment.value done t (is.told t).1))

pub returns-in-Ok-clause-safe : goal.returns-in-Ok-clause-safe
returns-in-Ok-clause-safe g c sound h t is on =
    let done : IsDone g.V.Seal.Sealed.tells g.V.Seal.Sealed.bytes c.args.job.now.order (g.V.Vault.held c.args.job.now.vault) c.in-Some.segment.value =
    done_of g.V.Seal.Sealed.tells g.V.Seal.Sealed.bytes g.V.Vault.held c.args.job.now c.in-Some.segment.value (sym c.in_ok-segment.ensures.segment ∙ ap (λ (o : Option _). option_map arc_value o) c.in-Some.is) c.merged.ensures.done in
    let can : CanLogEnd g.F.LogFile h c.args.by c.in-Some.segment.value c.args.self.now.journal = can_log_end g.F.LogFile g.V.Seal.Sealed.tells g.V.Seal.Sealed.bytes g.V.Vault.held sound h c.args.by c.args.self.now.journal c.args.job.now is.journal_is on c.in-Some.segment.value done (sym (c.is_closed.ensures.closed ∙ ap (λ (l : LogView _). l.is_closed) c.log.ensures) ∙ c.if-is_closed.false) in
    let book : IsBookOf c.args.self.now.journal.log.params c.args.self.now.journal.log.book.book =
    subst (λ (b : CodebookView). IsBookOf c.args.self.now.journal.log.params b.book) (c.book.ensures.book ∙ ap (λ (l : LogView _). l.book) c.log-2.ensures)
    (is_book_of c.args.self.now.journal.log.params c.book.result.now c.known.ensures
    (ap (λ (b : CodebookView). b.d) c.book.ensures.book ∙ c.book.ensures.sizes.0 ∙ ap (λ (l : LogView _). l.params.d) c.log-2.ensures)
    (ap (λ (b : CodebookView). b.m) c.book.ensures.book ∙ c.book.ensures.sizes.1 ∙ ap (λ (l : LogView _). l.params.m) c.log-2.ensures)) in
    let small : next_pid h ≤ pid_end =
    subst (λ (n : ℕ). n ≤ pid_end) (ap (λ (a : AccountView _). a.next) c.account-2.ensures ∙ is.journal_is.account_is.next) c.standing-small.ensures.small in
    let grow : MayGrow g.F.LogFile (g.V.Vault.held c.args.job.now.vault) c.args.self.now.journal.log h (End c.args.by c.in-Some.segment.value.number ∷ []) =
    may_grow g.F.LogFile g.V.Seal.Sealed.tells g.V.Seal.Sealed.bytes g.V.Vault.held sound h c.args.by c.args.self.now.journal c.args.job.now is.journal_is on c.in-Some.segment.value done t (is.told t).1 book small in
    subst (λ (n : ℕ). IsSafe g.F.LogFile (g.V.Vault.held c.args.job.now.vault) c.log_end.new.self.log (with_entry h (End c.args.by n))) done.merge.numbered
    (c.in-Ok.ensures.safe (is.told t).0 (g.V.Vault.held c.args.job.now.vault) h can grow)

pub returns-in-Err-Memory-clause-ended : goal.returns-in-Err-Memory-clause-ended
returns-in-Err-Memory-clause-ended g c sound h is on =
    let done : IsDone g.V.Seal.Sealed.tells g.V.Seal.Sealed.bytes c.args.job.now.order (g.V.Vault.held c.args.job.now.vault) c.in-Some.segment.value =
    done_of g.V.Seal.Sealed.tells g.V.Seal.Sealed.bytes g.V.Vault.held c.args.job.now c.in-Some.segment.value (sym c.in_ok-segment.ensures.segment ∙ ap (λ (o : Option _). option_map arc_value o) c.in-Some.is) c.merged.ensures.done in
    let can : CanLogEnd g.F.LogFile h c.args.by c.in-Some.segment.value c.args.self.now.journal = can_log_end g.F.LogFile g.V.Seal.Sealed.tells g.V.Seal.Sealed.bytes g.V.Vault.held sound h c.args.by c.args.self.now.journal c.args.job.now is.journal_is on c.in-Some.segment.value done (sym (c.is_closed.ensures.closed ∙ ap (λ (l : LogView _). l.is_closed) c.log.ensures) ∙ c.if-is_closed.false) in
    record {
      open_now = (sym (c.is_closed.ensures.closed ∙ ap (λ (l : LogView _). l.is_closed) c.log.ensures) ∙ c.if-is_closed.false);
      untouched = untouched_by (Unit {0}) g.F.LogFile h (End c.args.by c.in-Some.segment.value.number ∷ []) c.args.self.now.journal c.log_end.new.self c.in-Err-Memory.field-0 c.in-Err-Memory.field-0-is (c.in-Err-Memory.ensures.logged h can);
      stock = record { tools = ap (λ (s : StockView _ _ _). s.tools) c.reserve_retired.ensures.same; retired = ap (λ (s : StockView _ _ _). s.retired) c.reserve_retired.ensures.same };
    }

pub returns-in-Err-Memory-clause-safe : goal.returns-in-Err-Memory-clause-safe
returns-in-Err-Memory-clause-safe g c sound h t is on =
    let done : IsDone g.V.Seal.Sealed.tells g.V.Seal.Sealed.bytes c.args.job.now.order (g.V.Vault.held c.args.job.now.vault) c.in-Some.segment.value =
    done_of g.V.Seal.Sealed.tells g.V.Seal.Sealed.bytes g.V.Vault.held c.args.job.now c.in-Some.segment.value (sym c.in_ok-segment.ensures.segment ∙ ap (λ (o : Option _). option_map arc_value o) c.in-Some.is) c.merged.ensures.done in
    let can : CanLogEnd g.F.LogFile h c.args.by c.in-Some.segment.value c.args.self.now.journal = can_log_end g.F.LogFile g.V.Seal.Sealed.tells g.V.Seal.Sealed.bytes g.V.Vault.held sound h c.args.by c.args.self.now.journal c.args.job.now is.journal_is on c.in-Some.segment.value done (sym (c.is_closed.ensures.closed ∙ ap (λ (l : LogView _). l.is_closed) c.log.ensures) ∙ c.if-is_closed.false) in
    let book : IsBookOf c.args.self.now.journal.log.params c.args.self.now.journal.log.book.book =
    subst (λ (b : CodebookView). IsBookOf c.args.self.now.journal.log.params b.book) (c.book.ensures.book ∙ ap (λ (l : LogView _). l.book) c.log-2.ensures)
    (is_book_of c.args.self.now.journal.log.params c.book.result.now c.known.ensures
    (ap (λ (b : CodebookView). b.d) c.book.ensures.book ∙ c.book.ensures.sizes.0 ∙ ap (λ (l : LogView _). l.params.d) c.log-2.ensures)
    (ap (λ (b : CodebookView). b.m) c.book.ensures.book ∙ c.book.ensures.sizes.1 ∙ ap (λ (l : LogView _). l.params.m) c.log-2.ensures)) in
    let small : next_pid h ≤ pid_end =
    subst (λ (n : ℕ). n ≤ pid_end) (ap (λ (a : AccountView _). a.next) c.account-2.ensures ∙ is.journal_is.account_is.next) c.standing-small.ensures.small in
    let grow : MayGrow g.F.LogFile (g.V.Vault.held c.args.job.now.vault) c.args.self.now.journal.log h (End c.args.by c.in-Some.segment.value.number ∷ []) =
    may_grow g.F.LogFile g.V.Seal.Sealed.tells g.V.Seal.Sealed.bytes g.V.Vault.held sound h c.args.by c.args.self.now.journal c.args.job.now is.journal_is on c.in-Some.segment.value done t (is.told t).1 book small in
    c.in-Err-Memory.ensures.safe (is.told t).0 (g.V.Vault.held c.args.job.now.vault) h can grow

pub returns-in-Err-Fault-clause-ended : goal.returns-in-Err-Fault-clause-ended
returns-in-Err-Fault-clause-ended g c sound h is on =
    let done : IsDone g.V.Seal.Sealed.tells g.V.Seal.Sealed.bytes c.args.job.now.order (g.V.Vault.held c.args.job.now.vault) c.in-Some.segment.value =
    done_of g.V.Seal.Sealed.tells g.V.Seal.Sealed.bytes g.V.Vault.held c.args.job.now c.in-Some.segment.value (sym c.in_ok-segment.ensures.segment ∙ ap (λ (o : Option _). option_map arc_value o) c.in-Some.is) c.merged.ensures.done in
    let can : CanLogEnd g.F.LogFile h c.args.by c.in-Some.segment.value c.args.self.now.journal = can_log_end g.F.LogFile g.V.Seal.Sealed.tells g.V.Seal.Sealed.bytes g.V.Vault.held sound h c.args.by c.args.self.now.journal c.args.job.now is.journal_is on c.in-Some.segment.value done (sym (c.is_closed.ensures.closed ∙ ap (λ (l : LogView _). l.is_closed) c.log.ensures) ∙ c.if-is_closed.false) in
    record {
      open_now = (sym (c.is_closed.ensures.closed ∙ ap (λ (l : LogView _). l.is_closed) c.log.ensures) ∙ c.if-is_closed.false);
      unlogged = unlogged_by (Unit {0}) g.F.LogFile h (End c.args.by c.in-Some.segment.value.number ∷ []) c.args.self.now.journal c.log_end.new.self c.in-Err-Fault.field-0 c.in-Err-Fault.field-0-is (c.in-Err-Fault.ensures.logged h can);
      stock = record { tools = ap (λ (s : StockView _ _ _). s.tools) c.reserve_retired.ensures.same; retired = ap (λ (s : StockView _ _ _). s.retired) c.reserve_retired.ensures.same };
    }

pub returns-in-Err-Fault-clause-safe : goal.returns-in-Err-Fault-clause-safe
returns-in-Err-Fault-clause-safe g c sound h t is on =
    let done : IsDone g.V.Seal.Sealed.tells g.V.Seal.Sealed.bytes c.args.job.now.order (g.V.Vault.held c.args.job.now.vault) c.in-Some.segment.value =
    done_of g.V.Seal.Sealed.tells g.V.Seal.Sealed.bytes g.V.Vault.held c.args.job.now c.in-Some.segment.value (sym c.in_ok-segment.ensures.segment ∙ ap (λ (o : Option _). option_map arc_value o) c.in-Some.is) c.merged.ensures.done in
    let can : CanLogEnd g.F.LogFile h c.args.by c.in-Some.segment.value c.args.self.now.journal = can_log_end g.F.LogFile g.V.Seal.Sealed.tells g.V.Seal.Sealed.bytes g.V.Vault.held sound h c.args.by c.args.self.now.journal c.args.job.now is.journal_is on c.in-Some.segment.value done (sym (c.is_closed.ensures.closed ∙ ap (λ (l : LogView _). l.is_closed) c.log.ensures) ∙ c.if-is_closed.false) in
    let book : IsBookOf c.args.self.now.journal.log.params c.args.self.now.journal.log.book.book =
    subst (λ (b : CodebookView). IsBookOf c.args.self.now.journal.log.params b.book) (c.book.ensures.book ∙ ap (λ (l : LogView _). l.book) c.log-2.ensures)
    (is_book_of c.args.self.now.journal.log.params c.book.result.now c.known.ensures
    (ap (λ (b : CodebookView). b.d) c.book.ensures.book ∙ c.book.ensures.sizes.0 ∙ ap (λ (l : LogView _). l.params.d) c.log-2.ensures)
    (ap (λ (b : CodebookView). b.m) c.book.ensures.book ∙ c.book.ensures.sizes.1 ∙ ap (λ (l : LogView _). l.params.m) c.log-2.ensures)) in
    let small : next_pid h ≤ pid_end =
    subst (λ (n : ℕ). n ≤ pid_end) (ap (λ (a : AccountView _). a.next) c.account-2.ensures ∙ is.journal_is.account_is.next) c.standing-small.ensures.small in
    let grow : MayGrow g.F.LogFile (g.V.Vault.held c.args.job.now.vault) c.args.self.now.journal.log h (End c.args.by c.in-Some.segment.value.number ∷ []) =
    may_grow g.F.LogFile g.V.Seal.Sealed.tells g.V.Seal.Sealed.bytes g.V.Vault.held sound h c.args.by c.args.self.now.journal c.args.job.now is.journal_is on c.in-Some.segment.value done t (is.told t).1 book small in
    c.in-Err-Fault.ensures.safe (is.told t).0 (g.V.Vault.held c.args.job.now.vault) h can grow
