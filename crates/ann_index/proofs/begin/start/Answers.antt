use Rattle.std.proofs.Common.{◌≡◌, ◌∙◌, [], ◌∷◌, Bool, ap, refl, subst, sym}
use Rattle.std.specs.Prelude.{IsSome, IfErr, Result, Ok, Err, None}
use Rattle.std.proofs.lemmas.Result.{err_from_is_err_and}
use Rattle.ann_types.specs.Fold.{fold_of}
use Rattle.ann_types.specs.Lists.{BasedList}
use Rattle.ann_types.specs.declared.entry.Entry.TheVariants.{Begin}
use Rattle.ann_log.specs.LogView.{LogView, files_of, held_of, IsBeforeOrAfter}
use Rattle.ann_log.specs.Pairs.{EachPair, LeavePairs}
use Rattle.ann_log.specs.Text.{StandsFor}
use Rattle.ann_merge.specs.Job.{JobView}
use Rattle.ann_journal.specs.Journal.{JournalView, index_in}
use Rattle.ann_journal.proofs.Frames.{idle_log}
use Rattle.ann_stock.specs.Stock.{StockView, ToolsView, GivenBack, Out, given_in, without_job}
use Rattle.ann_ledger.specs.Ledger.{AreToolsFor, IsLedgerOf}
use Rattle.ann_index.specs.Index.{IsIndexOf, kept_of}
use Rattle.ann_index.specs.Merged.{IsRefused, begun}
use Rattle.ann_index.specs.Stages.{IsUntaken}
use Rattle.ann_index.specs.Steps.{HasStarted, IsOpened, IsStart}
use Rattle.ann_index.specs.declared.refusal.MergeRefused.{MergeRefused}
use Rattle.ann_index.specs.declared.refusal.MergeRefused.TheVariants.{Memory, MemoryLogged}
use Rattle.ann_index.proofs.Starting.{IsOpen, given_is, none_given, open_of, opened_begun, opened_still, started, started_again, untaken, untaken_logged}
use Rattle.ann_index.proofs.begin.start.Goals as goal
use Rattle.ann_index.proofs.begin.start.Goals.{then-logged, else-logged}

pub returns-in-Some-clause-started : goal.returns-in-Some-clause-started
returns-in-Some-clause-started g c sound h is =
    let given : c.args.ledger.now.stock.tools ≡ GivenBack c.in-Some.job = given_is c.args.ledger.now.stock.tools c.in-Some.job c.in-Some.ensures.job in
    let out : c.take_again.new.self.stock.tools ≡ Out = ap (λ (s : StockView _ _ _). s.tools) c.take_again.ensures.stock ∙ ap (λ (t : ToolsView _ _ _). without_job t) given in
    let l : IsLedgerOf g.F.LogFile g.V.Seal.Sealed.tells g.V.Seal.Sealed.bytes g.V.Vault.held sound h c.args.ledger.now.journal c.take_again.new.self.stock =
    subst (λ (x : JournalView _ _). IsLedgerOf g.F.LogFile g.V.Seal.Sealed.tells g.V.Seal.Sealed.bytes g.V.Vault.held sound h x c.take_again.new.self.stock) c.take_again.ensures.journal (c.take_again.ensures.ledger sound h is.ledger) in
    subst (λ (x : JournalView _ _). HasStarted g.F.LogFile g.V.Seal.Sealed.tells g.V.Seal.Sealed.bytes g.V.Vault.held g.V.Vault.faults g.E.Eye.faults sound h c.args.ledger.now.journal.log c.args.ledger.now.stock.tools (kept_of x c.take_again.new.self.stock c.args.view.now) c.in-Some.job) (sym c.take_again.ensures.journal)
    (started_again g.F.LogFile g.V.Seal.Sealed.tells g.V.Seal.Sealed.bytes g.V.Vault.held g.V.Vault.faults g.E.Eye.faults sound h c.args.ledger.now.journal.log c.args.ledger.now.stock.tools c.requires.open c.args.ledger.now.journal c.args.ledger.now.stock c.args.view.now c.in-Some.job refl is
    (subst (λ (t : ToolsView _ _ _). AreToolsFor g.F.LogFile g.V.Seal.Sealed.tells g.V.Seal.Sealed.bytes g.V.Vault.held sound c.args.ledger.now.journal.log h t) given is.ledger.tools) given c.take_again.new.self.stock out l)

pub returns-in-Some-clause-during : goal.returns-in-Some-clause-during
returns-in-Some-clause-during g c tells =
    subst (λ (x : JournalView _ _). LeavePairs g.F.LogFile.past g.F.LogFile.unsynced (files_of c.args.ledger.now.journal.log) (files_of x.log) (IsBeforeOrAfter (held_of c.args.ledger.now.journal.log) (Begin 0 ∷ []))) (sym c.take_again.ensures.journal)
    (idle_log g.F.LogFile c.args.ledger.now.journal.log (Begin 0 ∷ [])
    (subst (λ (l : LogView _). EachPair g.F.LogFile.unsynced (StandsFor (held_of l)) (files_of l)) c.log.ensures
    (c.is_closed-open.ensures.images tells (c.is_closed-open.ensures.closed ∙ ap (λ (l : LogView _). l.is_closed) c.log.ensures ∙ c.requires.open))))

pub returns-in_err-logged-clause-started : goal.returns-in_err-logged-clause-started
returns-in_err-logged-clause-started g c sound h is =
    let none : given_in c.args.ledger.now.stock.tools ≡ None = sym c.take_again.ensures.job ∙ c.in_default.is in
    let stock : c.take_again.new.self.stock ≡ c.args.ledger.now.stock = c.take_again.ensures.stock ∙ ap (λ (t : ToolsView _ _ _). record c.args.ledger.now.stock { tools = t }) (none_given c.args.ledger.now.stock.tools none) in
    let here : IsIndexOf g.F.LogFile g.V.Seal.Sealed.tells g.V.Seal.Sealed.bytes g.V.Vault.held sound h h (kept_of c.take_again.new.self.journal c.take_again.new.self.stock c.args.view.now) =
    subst (λ (x : JournalView _ _). IsIndexOf g.F.LogFile g.V.Seal.Sealed.tells g.V.Seal.Sealed.bytes g.V.Vault.held sound h h (kept_of x c.take_again.new.self.stock c.args.view.now)) (sym c.take_again.ensures.journal)
    (subst (λ (s : StockView _ _ _). IsIndexOf g.F.LogFile g.V.Seal.Sealed.tells g.V.Seal.Sealed.bytes g.V.Vault.held sound h h (kept_of c.args.ledger.now.journal s c.args.view.now)) (sym stock) is) in
    let w : IsOpened g.F.LogFile g.V.Seal.Sealed.tells g.V.Seal.Sealed.bytes g.V.Vault.held g.V.Vault.faults g.E.Eye.faults sound h c.args.ledger.now.journal.log c.args.ledger.now.stock.tools (kept_of c.open_shown.new.ledger.journal c.open_shown.new.ledger.stock c.open_shown.new.view) (Err c.in_err-logged.field-0.0) =
    subst (λ (s : StockView _ _ _). IsOpened g.F.LogFile g.V.Seal.Sealed.tells g.V.Seal.Sealed.bytes g.V.Vault.held g.V.Vault.faults g.E.Eye.faults sound h c.args.ledger.now.journal.log s.tools (kept_of c.open_shown.new.ledger.journal c.open_shown.new.ledger.stock c.open_shown.new.view) (Err c.in_err-logged.field-0.0)) stock
    (subst (λ (x : JournalView _ _). IsOpened g.F.LogFile g.V.Seal.Sealed.tells g.V.Seal.Sealed.bytes g.V.Vault.held g.V.Vault.faults g.E.Eye.faults sound h x.log c.take_again.new.self.stock.tools (kept_of c.open_shown.new.ledger.journal c.open_shown.new.ledger.stock c.open_shown.new.view) (Err c.in_err-logged.field-0.0)) c.take_again.ensures.journal (c.in_err-logged.ensures.opened sound h here)) in
    let p = err_from_is_err_and c.from_residual.result c.from_residual.ensures.1 in
    subst (λ (r : Result (JobView _ _ _) MergeRefused). IsStart g.F.LogFile g.V.Seal.Sealed.tells g.V.Seal.Sealed.bytes g.V.Vault.held g.V.Vault.faults g.E.Eye.faults sound h c.args.ledger.now.journal.log c.args.ledger.now.stock.tools (kept_of c.open_shown.new.ledger.journal c.open_shown.new.ledger.stock c.open_shown.new.view) r) (sym (p.1 ∙ ap Err p.2)) w

pub take-requires-clause-list : goal.take-requires-clause-list
take-requires-clause-list g c =
    let sound : Bool = c.requires.list.0 in
    let h : BasedList = c.requires.list.1 in
    let is = c.requires.list.2 in
    let none : given_in c.args.ledger.now.stock.tools ≡ None = sym c.take_again.ensures.job ∙ c.in_default.is in
    let stock : c.take_again.new.self.stock ≡ c.args.ledger.now.stock = c.take_again.ensures.stock ∙ ap (λ (t : ToolsView _ _ _). record c.args.ledger.now.stock { tools = t }) (none_given c.args.ledger.now.stock.tools none) in
    let here : IsIndexOf g.F.LogFile g.V.Seal.Sealed.tells g.V.Seal.Sealed.bytes g.V.Vault.held sound h h (kept_of c.take_again.new.self.journal c.take_again.new.self.stock c.args.view.now) =
    subst (λ (x : JournalView _ _). IsIndexOf g.F.LogFile g.V.Seal.Sealed.tells g.V.Seal.Sealed.bytes g.V.Vault.held sound h h (kept_of x c.take_again.new.self.stock c.args.view.now)) (sym c.take_again.ensures.journal)
    (subst (λ (s : StockView _ _ _). IsIndexOf g.F.LogFile g.V.Seal.Sealed.tells g.V.Seal.Sealed.bytes g.V.Vault.held sound h h (kept_of c.args.ledger.now.journal s c.args.view.now)) (sym stock) is) in
    let w : IsOpened g.F.LogFile g.V.Seal.Sealed.tells g.V.Seal.Sealed.bytes g.V.Vault.held g.V.Vault.faults g.E.Eye.faults sound h c.args.ledger.now.journal.log c.args.ledger.now.stock.tools (kept_of c.open_shown.new.ledger.journal c.open_shown.new.ledger.stock c.open_shown.new.view) (Ok c.in_ok-logged.logged) =
    subst (λ (s : StockView _ _ _). IsOpened g.F.LogFile g.V.Seal.Sealed.tells g.V.Seal.Sealed.bytes g.V.Vault.held g.V.Vault.faults g.E.Eye.faults sound h c.args.ledger.now.journal.log s.tools (kept_of c.open_shown.new.ledger.journal c.open_shown.new.ledger.stock c.open_shown.new.view) (Ok c.in_ok-logged.logged)) stock
    (subst (λ (x : JournalView _ _). IsOpened g.F.LogFile g.V.Seal.Sealed.tells g.V.Seal.Sealed.bytes g.V.Vault.held g.V.Vault.faults g.E.Eye.faults sound h x.log c.take_again.new.self.stock.tools (kept_of c.open_shown.new.ledger.journal c.open_shown.new.ledger.stock c.open_shown.new.view) (Ok c.in_ok-logged.logged)) c.take_again.ensures.journal (c.in_ok-logged.ensures.opened sound h here)) in
    let o : IsOpen g.F.LogFile g.V.Seal.Sealed.tells g.V.Seal.Sealed.bytes g.V.Vault.held g.V.Vault.faults g.E.Eye.faults sound h c.args.ledger.now.journal.log c.args.ledger.now.stock.tools c.requires.open (kept_of c.open_shown.new.ledger.journal c.open_shown.new.ledger.stock c.open_shown.new.view) = open_of g.F.LogFile g.V.Seal.Sealed.tells g.V.Seal.Sealed.bytes g.V.Vault.held g.V.Vault.faults g.E.Eye.faults sound h c.args.ledger.now.journal.log c.args.ledger.now.stock.tools c.requires.open (kept_of c.open_shown.new.ledger.journal c.open_shown.new.ledger.stock c.open_shown.new.view) c.in_ok-logged.logged w in
    (sound, begun (index_in c.args.ledger.now.journal.log) h, o.index.ledger, o.index.follows.shows, o.open_merge)

pub returns-in-Ok-clause-started : goal.returns-in-Ok-clause-started
returns-in-Ok-clause-started g c sound h is =
    let none : given_in c.args.ledger.now.stock.tools ≡ None = sym c.take_again.ensures.job ∙ c.in_default.is in
    let stock : c.take_again.new.self.stock ≡ c.args.ledger.now.stock = c.take_again.ensures.stock ∙ ap (λ (t : ToolsView _ _ _). record c.args.ledger.now.stock { tools = t }) (none_given c.args.ledger.now.stock.tools none) in
    let here : IsIndexOf g.F.LogFile g.V.Seal.Sealed.tells g.V.Seal.Sealed.bytes g.V.Vault.held sound h h (kept_of c.take_again.new.self.journal c.take_again.new.self.stock c.args.view.now) =
    subst (λ (x : JournalView _ _). IsIndexOf g.F.LogFile g.V.Seal.Sealed.tells g.V.Seal.Sealed.bytes g.V.Vault.held sound h h (kept_of x c.take_again.new.self.stock c.args.view.now)) (sym c.take_again.ensures.journal)
    (subst (λ (s : StockView _ _ _). IsIndexOf g.F.LogFile g.V.Seal.Sealed.tells g.V.Seal.Sealed.bytes g.V.Vault.held sound h h (kept_of c.args.ledger.now.journal s c.args.view.now)) (sym stock) is) in
    let w : IsOpened g.F.LogFile g.V.Seal.Sealed.tells g.V.Seal.Sealed.bytes g.V.Vault.held g.V.Vault.faults g.E.Eye.faults sound h c.args.ledger.now.journal.log c.args.ledger.now.stock.tools (kept_of c.open_shown.new.ledger.journal c.open_shown.new.ledger.stock c.open_shown.new.view) (Ok c.in_ok-logged.logged) =
    subst (λ (s : StockView _ _ _). IsOpened g.F.LogFile g.V.Seal.Sealed.tells g.V.Seal.Sealed.bytes g.V.Vault.held g.V.Vault.faults g.E.Eye.faults sound h c.args.ledger.now.journal.log s.tools (kept_of c.open_shown.new.ledger.journal c.open_shown.new.ledger.stock c.open_shown.new.view) (Ok c.in_ok-logged.logged)) stock
    (subst (λ (x : JournalView _ _). IsOpened g.F.LogFile g.V.Seal.Sealed.tells g.V.Seal.Sealed.bytes g.V.Vault.held g.V.Vault.faults g.E.Eye.faults sound h x.log c.take_again.new.self.stock.tools (kept_of c.open_shown.new.ledger.journal c.open_shown.new.ledger.stock c.open_shown.new.view) (Ok c.in_ok-logged.logged)) c.take_again.ensures.journal (c.in_ok-logged.ensures.opened sound h here)) in
    let o : IsOpen g.F.LogFile g.V.Seal.Sealed.tells g.V.Seal.Sealed.bytes g.V.Vault.held g.V.Vault.faults g.E.Eye.faults sound h c.args.ledger.now.journal.log c.args.ledger.now.stock.tools c.requires.open (kept_of c.open_shown.new.ledger.journal c.open_shown.new.ledger.stock c.open_shown.new.view) = open_of g.F.LogFile g.V.Seal.Sealed.tells g.V.Seal.Sealed.bytes g.V.Vault.held g.V.Vault.faults g.E.Eye.faults sound h c.args.ledger.now.journal.log c.args.ledger.now.stock.tools c.requires.open (kept_of c.open_shown.new.ledger.journal c.open_shown.new.ledger.stock c.open_shown.new.view) c.in_ok-logged.logged w in
    let l : IsLedgerOf g.F.LogFile g.V.Seal.Sealed.tells g.V.Seal.Sealed.bytes g.V.Vault.held sound (begun (index_in c.args.ledger.now.journal.log) h) c.open_shown.new.ledger.journal c.take.new.self.stock =
    subst (λ (x : JournalView _ _). IsLedgerOf g.F.LogFile g.V.Seal.Sealed.tells g.V.Seal.Sealed.bytes g.V.Vault.held sound (begun (index_in c.args.ledger.now.journal.log) h) x c.take.new.self.stock) c.take.ensures.journal (c.take.ensures.ledger sound (begun (index_in c.args.ledger.now.journal.log) h) o.index.ledger) in
    let tools : c.args.ledger.now.stock.tools ≡ c.open_shown.new.ledger.stock.tools = ap (λ (s : StockView _ _ _). s.tools) (sym (c.open_shown.ensures.stock ∙ stock)) in
    subst (λ (x : JournalView _ _). HasStarted g.F.LogFile g.V.Seal.Sealed.tells g.V.Seal.Sealed.bytes g.V.Vault.held g.V.Vault.faults g.E.Eye.faults sound h c.args.ledger.now.journal.log c.args.ledger.now.stock.tools (kept_of x c.take.new.self.stock c.open_shown.new.view) c.in-Ok.job) (sym c.take.ensures.journal)
    (started g.F.LogFile g.V.Seal.Sealed.tells g.V.Seal.Sealed.bytes g.V.Vault.held g.V.Vault.faults g.E.Eye.faults sound h c.args.ledger.now.journal.log c.args.ledger.now.stock.tools c.requires.open c.open_shown.new.ledger.journal c.open_shown.new.ledger.stock c.take.new.self.stock c.open_shown.new.view c.in-Ok.job o
    (c.in-Ok.ensures.job sound (begun (index_in c.args.ledger.now.journal.log) h) o.index.ledger o.index.follows.shows) c.in-Ok.ensures.taken tools l)

pub returns-after-logged-clause-started : goal.returns-after-logged-clause-started
returns-after-logged-clause-started g c sound h is =
    let none : given_in c.args.ledger.now.stock.tools ≡ None = sym c.take_again.ensures.job ∙ c.in_default.is in
    let stock : c.take_again.new.self.stock ≡ c.args.ledger.now.stock = c.take_again.ensures.stock ∙ ap (λ (t : ToolsView _ _ _). record c.args.ledger.now.stock { tools = t }) (none_given c.args.ledger.now.stock.tools none) in
    let here : IsIndexOf g.F.LogFile g.V.Seal.Sealed.tells g.V.Seal.Sealed.bytes g.V.Vault.held sound h h (kept_of c.take_again.new.self.journal c.take_again.new.self.stock c.args.view.now) =
    subst (λ (x : JournalView _ _). IsIndexOf g.F.LogFile g.V.Seal.Sealed.tells g.V.Seal.Sealed.bytes g.V.Vault.held sound h h (kept_of x c.take_again.new.self.stock c.args.view.now)) (sym c.take_again.ensures.journal)
    (subst (λ (s : StockView _ _ _). IsIndexOf g.F.LogFile g.V.Seal.Sealed.tells g.V.Seal.Sealed.bytes g.V.Vault.held sound h h (kept_of c.args.ledger.now.journal s c.args.view.now)) (sym stock) is) in
    let was : IsOpened g.F.LogFile g.V.Seal.Sealed.tells g.V.Seal.Sealed.bytes g.V.Vault.held g.V.Vault.faults g.E.Eye.faults sound h c.args.ledger.now.journal.log c.args.ledger.now.stock.tools (kept_of c.open_shown.new.ledger.journal c.open_shown.new.ledger.stock c.open_shown.new.view) (Ok c.in_ok-logged.logged) =
    subst (λ (s : StockView _ _ _). IsOpened g.F.LogFile g.V.Seal.Sealed.tells g.V.Seal.Sealed.bytes g.V.Vault.held g.V.Vault.faults g.E.Eye.faults sound h c.args.ledger.now.journal.log s.tools (kept_of c.open_shown.new.ledger.journal c.open_shown.new.ledger.stock c.open_shown.new.view) (Ok c.in_ok-logged.logged)) stock
    (subst (λ (x : JournalView _ _). IsOpened g.F.LogFile g.V.Seal.Sealed.tells g.V.Seal.Sealed.bytes g.V.Vault.held g.V.Vault.faults g.E.Eye.faults sound h x.log c.take_again.new.self.stock.tools (kept_of c.open_shown.new.ledger.journal c.open_shown.new.ledger.stock c.open_shown.new.view) (Ok c.in_ok-logged.logged)) c.take_again.ensures.journal (c.in_ok-logged.ensures.opened sound h here)) in
    elim c.if-logged.branch [
      | then-logged w ↦ subst (λ (e : MergeRefused). IsRefused g.F.LogFile g.V.Seal.Sealed.tells g.V.Seal.Sealed.bytes g.V.Vault.held g.V.Vault.faults g.E.Eye.faults sound h h c.args.ledger.now.journal.log c.args.ledger.now.stock.tools (kept_of c.take.new.self.journal c.take.new.self.stock c.open_shown.new.view) e) (sym w.result-is)
          (subst (λ (x : JournalView _ _). IsRefused g.F.LogFile g.V.Seal.Sealed.tells g.V.Seal.Sealed.bytes g.V.Vault.held g.V.Vault.faults g.E.Eye.faults sound h h c.args.ledger.now.journal.log c.args.ledger.now.stock.tools (kept_of x c.take.new.self.stock c.open_shown.new.view) (MemoryLogged w.receipt.result)) (sym c.take.ensures.journal)
          (subst (λ (s : StockView _ _ _). IsRefused g.F.LogFile g.V.Seal.Sealed.tells g.V.Seal.Sealed.bytes g.V.Vault.held g.V.Vault.faults g.E.Eye.faults sound h h c.args.ledger.now.journal.log c.args.ledger.now.stock.tools (kept_of c.open_shown.new.ledger.journal s c.open_shown.new.view) (MemoryLogged w.receipt.result)) (sym c.in-Err.ensures.taken)
          (untaken_logged g.F.LogFile g.V.Seal.Sealed.tells g.V.Seal.Sealed.bytes g.V.Vault.held g.V.Vault.faults g.E.Eye.faults sound h c.args.ledger.now.journal.log c.args.ledger.now.stock.tools c.requires.open (kept_of c.open_shown.new.ledger.journal c.open_shown.new.ledger.stock c.open_shown.new.view) w.receipt.result c.in_ok-logged.logged was w.if-logged.true (w.receipt.ensures ∙ ap (λ (x : JournalView _ _). x.account.at) c.take.ensures.journal))))
      | else-logged w ↦ subst (λ (e : MergeRefused). IsRefused g.F.LogFile g.V.Seal.Sealed.tells g.V.Seal.Sealed.bytes g.V.Vault.held g.V.Vault.faults g.E.Eye.faults sound h h c.args.ledger.now.journal.log c.args.ledger.now.stock.tools (kept_of c.take.new.self.journal c.take.new.self.stock c.open_shown.new.view) e) (sym w.result-is)
          (subst (λ (x : JournalView _ _). IsRefused g.F.LogFile g.V.Seal.Sealed.tells g.V.Seal.Sealed.bytes g.V.Vault.held g.V.Vault.faults g.E.Eye.faults sound h h c.args.ledger.now.journal.log c.args.ledger.now.stock.tools (kept_of x c.take.new.self.stock c.open_shown.new.view) Memory) (sym c.take.ensures.journal)
          (subst (λ (s : StockView _ _ _). IsRefused g.F.LogFile g.V.Seal.Sealed.tells g.V.Seal.Sealed.bytes g.V.Vault.held g.V.Vault.faults g.E.Eye.faults sound h h c.args.ledger.now.journal.log c.args.ledger.now.stock.tools (kept_of c.open_shown.new.ledger.journal s c.open_shown.new.view) Memory) (sym c.in-Err.ensures.taken)
          (untaken g.F.LogFile g.V.Seal.Sealed.tells g.V.Seal.Sealed.bytes g.V.Vault.held g.V.Vault.faults g.E.Eye.faults sound h c.args.ledger.now.journal.log c.args.ledger.now.stock.tools c.requires.open (kept_of c.open_shown.new.ledger.journal c.open_shown.new.ledger.stock c.open_shown.new.view) c.in_ok-logged.logged was w.if-logged.false)))
    ]

pub returns-in-Some-clause-goes_on : goal.returns-in-Some-clause-goes_on
returns-in-Some-clause-goes_on g c sound h is some =
    ap (λ (x : JournalView _ _). x.log) c.take_again.ensures.journal

pub returns-in_err-logged-clause-goes_on : goal.returns-in_err-logged-clause-goes_on
returns-in_err-logged-clause-goes_on g c sound h is some =
    let none : given_in c.args.ledger.now.stock.tools ≡ None = sym c.take_again.ensures.job ∙ c.in_default.is in
    let stock : c.take_again.new.self.stock ≡ c.args.ledger.now.stock = c.take_again.ensures.stock ∙ ap (λ (t : ToolsView _ _ _). record c.args.ledger.now.stock { tools = t }) (none_given c.args.ledger.now.stock.tools none) in
    let here : IsIndexOf g.F.LogFile g.V.Seal.Sealed.tells g.V.Seal.Sealed.bytes g.V.Vault.held sound h h (kept_of c.take_again.new.self.journal c.take_again.new.self.stock c.args.view.now) =
    subst (λ (x : JournalView _ _). IsIndexOf g.F.LogFile g.V.Seal.Sealed.tells g.V.Seal.Sealed.bytes g.V.Vault.held sound h h (kept_of x c.take_again.new.self.stock c.args.view.now)) (sym c.take_again.ensures.journal)
    (subst (λ (s : StockView _ _ _). IsIndexOf g.F.LogFile g.V.Seal.Sealed.tells g.V.Seal.Sealed.bytes g.V.Vault.held sound h h (kept_of c.args.ledger.now.journal s c.args.view.now)) (sym stock) is) in
    let was : IsSome (fold_of (index_in c.take_again.new.self.journal.log) h).begun = subst (λ (x : JournalView _ _). IsSome (fold_of (index_in x.log) h).begun) (sym c.take_again.ensures.journal) some in
    c.open_shown.ensures.goes_on sound h here was ∙ ap (λ (x : JournalView _ _). x.log) c.take_again.ensures.journal

pub returns-in-Ok-clause-goes_on : goal.returns-in-Ok-clause-goes_on
returns-in-Ok-clause-goes_on g c sound h is some =
    let none : given_in c.args.ledger.now.stock.tools ≡ None = sym c.take_again.ensures.job ∙ c.in_default.is in
    let stock : c.take_again.new.self.stock ≡ c.args.ledger.now.stock = c.take_again.ensures.stock ∙ ap (λ (t : ToolsView _ _ _). record c.args.ledger.now.stock { tools = t }) (none_given c.args.ledger.now.stock.tools none) in
    let here : IsIndexOf g.F.LogFile g.V.Seal.Sealed.tells g.V.Seal.Sealed.bytes g.V.Vault.held sound h h (kept_of c.take_again.new.self.journal c.take_again.new.self.stock c.args.view.now) =
    subst (λ (x : JournalView _ _). IsIndexOf g.F.LogFile g.V.Seal.Sealed.tells g.V.Seal.Sealed.bytes g.V.Vault.held sound h h (kept_of x c.take_again.new.self.stock c.args.view.now)) (sym c.take_again.ensures.journal)
    (subst (λ (s : StockView _ _ _). IsIndexOf g.F.LogFile g.V.Seal.Sealed.tells g.V.Seal.Sealed.bytes g.V.Vault.held sound h h (kept_of c.args.ledger.now.journal s c.args.view.now)) (sym stock) is) in
    let was : IsSome (fold_of (index_in c.take_again.new.self.journal.log) h).begun = subst (λ (x : JournalView _ _). IsSome (fold_of (index_in x.log) h).begun) (sym c.take_again.ensures.journal) some in
    ap (λ (x : JournalView _ _). x.log) c.take.ensures.journal ∙ c.open_shown.ensures.goes_on sound h here was ∙ ap (λ (x : JournalView _ _). x.log) c.take_again.ensures.journal

pub returns-after-logged-clause-goes_on : goal.returns-after-logged-clause-goes_on
returns-after-logged-clause-goes_on g c sound h is some =
    let none : given_in c.args.ledger.now.stock.tools ≡ None = sym c.take_again.ensures.job ∙ c.in_default.is in
    let stock : c.take_again.new.self.stock ≡ c.args.ledger.now.stock = c.take_again.ensures.stock ∙ ap (λ (t : ToolsView _ _ _). record c.args.ledger.now.stock { tools = t }) (none_given c.args.ledger.now.stock.tools none) in
    let here : IsIndexOf g.F.LogFile g.V.Seal.Sealed.tells g.V.Seal.Sealed.bytes g.V.Vault.held sound h h (kept_of c.take_again.new.self.journal c.take_again.new.self.stock c.args.view.now) =
    subst (λ (x : JournalView _ _). IsIndexOf g.F.LogFile g.V.Seal.Sealed.tells g.V.Seal.Sealed.bytes g.V.Vault.held sound h h (kept_of x c.take_again.new.self.stock c.args.view.now)) (sym c.take_again.ensures.journal)
    (subst (λ (s : StockView _ _ _). IsIndexOf g.F.LogFile g.V.Seal.Sealed.tells g.V.Seal.Sealed.bytes g.V.Vault.held sound h h (kept_of c.args.ledger.now.journal s c.args.view.now)) (sym stock) is) in
    let was : IsSome (fold_of (index_in c.take_again.new.self.journal.log) h).begun = subst (λ (x : JournalView _ _). IsSome (fold_of (index_in x.log) h).begun) (sym c.take_again.ensures.journal) some in
    ap (λ (x : JournalView _ _). x.log) c.take.ensures.journal ∙ c.open_shown.ensures.goes_on sound h here was ∙ ap (λ (x : JournalView _ _). x.log) c.take_again.ensures.journal

pub returns-in_err-logged-clause-untaken : goal.returns-in_err-logged-clause-untaken
returns-in_err-logged-clause-untaken g c sound h is =
    let none : given_in c.args.ledger.now.stock.tools ≡ None = sym c.take_again.ensures.job ∙ c.in_default.is in
    let stock : c.take_again.new.self.stock ≡ c.args.ledger.now.stock = c.take_again.ensures.stock ∙ ap (λ (t : ToolsView _ _ _). record c.args.ledger.now.stock { tools = t }) (none_given c.args.ledger.now.stock.tools none) in
    let here : IsIndexOf g.F.LogFile g.V.Seal.Sealed.tells g.V.Seal.Sealed.bytes g.V.Vault.held sound h h (kept_of c.take_again.new.self.journal c.take_again.new.self.stock c.args.view.now) =
    subst (λ (x : JournalView _ _). IsIndexOf g.F.LogFile g.V.Seal.Sealed.tells g.V.Seal.Sealed.bytes g.V.Vault.held sound h h (kept_of x c.take_again.new.self.stock c.args.view.now)) (sym c.take_again.ensures.journal)
    (subst (λ (s : StockView _ _ _). IsIndexOf g.F.LogFile g.V.Seal.Sealed.tells g.V.Seal.Sealed.bytes g.V.Vault.held sound h h (kept_of c.args.ledger.now.journal s c.args.view.now)) (sym stock) is) in
    let p = err_from_is_err_and c.from_residual.result c.from_residual.ensures.1 in
    subst (λ (r : Result (JobView _ _ _) MergeRefused). IfErr r (IsUntaken g.F.LogFile h c.args.ledger.now.journal.log c.open_shown.new.ledger.journal.log)) (sym (p.1 ∙ ap Err p.2))
    (subst (λ (x : JournalView _ _). IsUntaken g.F.LogFile h x.log c.open_shown.new.ledger.journal.log c.in_err-logged.field-0.0) c.take_again.ensures.journal (c.in_err-logged.ensures.untaken sound h here))

pub returns-after-logged-clause-untaken : goal.returns-after-logged-clause-untaken
returns-after-logged-clause-untaken g c sound h is =
    let none : given_in c.args.ledger.now.stock.tools ≡ None = sym c.take_again.ensures.job ∙ c.in_default.is in
    let stock : c.take_again.new.self.stock ≡ c.args.ledger.now.stock = c.take_again.ensures.stock ∙ ap (λ (t : ToolsView _ _ _). record c.args.ledger.now.stock { tools = t }) (none_given c.args.ledger.now.stock.tools none) in
    let here : IsIndexOf g.F.LogFile g.V.Seal.Sealed.tells g.V.Seal.Sealed.bytes g.V.Vault.held sound h h (kept_of c.take_again.new.self.journal c.take_again.new.self.stock c.args.view.now) =
    subst (λ (x : JournalView _ _). IsIndexOf g.F.LogFile g.V.Seal.Sealed.tells g.V.Seal.Sealed.bytes g.V.Vault.held sound h h (kept_of x c.take_again.new.self.stock c.args.view.now)) (sym c.take_again.ensures.journal)
    (subst (λ (s : StockView _ _ _). IsIndexOf g.F.LogFile g.V.Seal.Sealed.tells g.V.Seal.Sealed.bytes g.V.Vault.held sound h h (kept_of c.args.ledger.now.journal s c.args.view.now)) (sym stock) is) in
    let was : IsOpened g.F.LogFile g.V.Seal.Sealed.tells g.V.Seal.Sealed.bytes g.V.Vault.held g.V.Vault.faults g.E.Eye.faults sound h c.args.ledger.now.journal.log c.args.ledger.now.stock.tools (kept_of c.open_shown.new.ledger.journal c.open_shown.new.ledger.stock c.open_shown.new.view) (Ok c.in_ok-logged.logged) =
    subst (λ (s : StockView _ _ _). IsOpened g.F.LogFile g.V.Seal.Sealed.tells g.V.Seal.Sealed.bytes g.V.Vault.held g.V.Vault.faults g.E.Eye.faults sound h c.args.ledger.now.journal.log s.tools (kept_of c.open_shown.new.ledger.journal c.open_shown.new.ledger.stock c.open_shown.new.view) (Ok c.in_ok-logged.logged)) stock
    (subst (λ (x : JournalView _ _). IsOpened g.F.LogFile g.V.Seal.Sealed.tells g.V.Seal.Sealed.bytes g.V.Vault.held g.V.Vault.faults g.E.Eye.faults sound h x.log c.take_again.new.self.stock.tools (kept_of c.open_shown.new.ledger.journal c.open_shown.new.ledger.stock c.open_shown.new.view) (Ok c.in_ok-logged.logged)) c.take_again.ensures.journal (c.in_ok-logged.ensures.opened sound h here)) in
    elim c.if-logged.branch [
      | then-logged w ↦ subst (λ (e : MergeRefused). IsUntaken g.F.LogFile h c.args.ledger.now.journal.log c.take.new.self.journal.log e) (sym w.result-is)
          (subst (λ (x : JournalView _ _). IsUntaken g.F.LogFile h c.args.ledger.now.journal.log x.log (MemoryLogged w.receipt.result)) (sym c.take.ensures.journal)
          (opened_begun g.F.LogFile g.V.Seal.Sealed.tells g.V.Seal.Sealed.bytes g.V.Vault.held g.V.Vault.faults g.E.Eye.faults sound h c.args.ledger.now.journal.log c.args.ledger.now.stock.tools c.requires.open (kept_of c.open_shown.new.ledger.journal c.open_shown.new.ledger.stock c.open_shown.new.view) c.in_ok-logged.logged was w.if-logged.true))
      | else-logged w ↦ subst (λ (e : MergeRefused). IsUntaken g.F.LogFile h c.args.ledger.now.journal.log c.take.new.self.journal.log e) (sym w.result-is)
          (subst (λ (x : JournalView _ _). IsUntaken g.F.LogFile h c.args.ledger.now.journal.log x.log Memory) (sym c.take.ensures.journal)
          (opened_still g.F.LogFile g.V.Seal.Sealed.tells g.V.Seal.Sealed.bytes g.V.Vault.held g.V.Vault.faults g.E.Eye.faults sound h c.args.ledger.now.journal.log c.args.ledger.now.stock.tools c.requires.open (kept_of c.open_shown.new.ledger.journal c.open_shown.new.ledger.stock c.open_shown.new.view) c.in_ok-logged.logged was w.if-logged.false))
    ]
