use Rattle.std.proofs.Common.{◌≡◌, ◌∙◌, Bool, ap, refl, subst, sym}
use Rattle.std.specs.Prelude.{Err}
use Rattle.ann_types.specs.Lists.{BasedList, with_entry}
use Rattle.ann_types.specs.declared.entry.Entry.TheVariants.{End}
use Rattle.ann_log.specs.Appended.{IsSameLog}
use Rattle.ann_merge.specs.Job.{JobView}
use Rattle.ann_journal.specs.Journal.{JournalView}
use Rattle.ann_stock.specs.Stock.{StockView, ToolsView, GivenBack}
use Rattle.ann_ledger.specs.Ledger.{IsLedgerOf}
use Rattle.ann_ledger.specs.Merging as ledger
use Rattle.ann_index.specs.Index.{IsIndexOf, eye_count, kept_of}
use Rattle.ann_index.specs.Refusals.{of_finish}
use Rattle.ann_index.specs.Stages.{EndsBy}
use Rattle.ann_index.specs.Steps.{IsFinish}
use Rattle.ann_index.specs.declared.refusal.MergeRefused.{MergeRefused}
use Rattle.ann_index.proofs.Shown.{index_all, index_from}
use Rattle.ann_index.proofs.Updating.{same_log_by, same_log_then}
use Rattle.ann_index.proofs.Stages.{ends_by}
use Rattle.ann_index.proofs.Ends.{finished, index_ended, refuses_log, tools_kept, unfinished, unshown}
use Rattle.ann_index.proofs.ending.end_shown.Goals as goal

pub show_all-requires : goal.show_all-requires
show_all-requires g c =
    let sound : Bool = c.requires.list.0 in
    let h : BasedList = c.requires.list.1 in
    let u = c.requires.list.2 in
    let w : ledger.HasFinished g.F.LogFile h 0 c.args.job c.args.ledger.now.journal c.finish.new.self.journal c.args.ledger.now.stock c.finish.new.self.stock c.in-Ok.receipt = c.in-Ok.ensures.finished sound h u.ledger u.job_is in
    let here : IsIndexOf g.F.LogFile g.V.Seal.Sealed.tells g.V.Seal.Sealed.bytes g.V.Vault.held sound (with_entry h (End 0 c.args.job.order.number)) h (kept_of c.finish.new.self.journal c.finish.new.self.stock c.args.view.now) =
    index_ended g.F.LogFile g.V.Seal.Sealed.tells g.V.Seal.Sealed.bytes g.V.Vault.held g.V.Vault.faults g.E.Eye.faults sound h c.args.job c.args.ledger.now.journal c.finish.new.self.journal c.args.ledger.now.stock c.finish.new.self.stock c.args.view.now c.requires.open u c.in-Ok.receipt w (λ t. c.in-Ok.ensures.brings sound h t u.ledger u.job_is) (c.in-Ok.ensures.ledger sound h u.ledger u.job_is) in
    (sound, with_entry h (End 0 c.args.job.order.number), h, here.follows)

pub returns-in-Ok-show_all-clause-ended : goal.returns-in-Ok-show_all-clause-ended
returns-in-Ok-show_all-clause-ended g c sound h u =
    let w : ledger.HasFinished g.F.LogFile h 0 c.args.job c.args.ledger.now.journal c.finish.new.self.journal c.args.ledger.now.stock c.finish.new.self.stock c.in-Ok.receipt = c.in-Ok.ensures.finished sound h u.ledger u.job_is in
    let here : IsIndexOf g.F.LogFile g.V.Seal.Sealed.tells g.V.Seal.Sealed.bytes g.V.Vault.held sound (with_entry h (End 0 c.args.job.order.number)) h (kept_of c.finish.new.self.journal c.finish.new.self.stock c.args.view.now) =
    index_ended g.F.LogFile g.V.Seal.Sealed.tells g.V.Seal.Sealed.bytes g.V.Vault.held g.V.Vault.faults g.E.Eye.faults sound h c.args.job c.args.ledger.now.journal c.finish.new.self.journal c.args.ledger.now.stock c.finish.new.self.stock c.args.view.now c.requires.open u c.in-Ok.receipt w (λ t. c.in-Ok.ensures.brings sound h t u.ledger u.job_is) (c.in-Ok.ensures.ledger sound h u.ledger u.job_is) in
    finished g.F.LogFile g.V.Seal.Sealed.tells g.V.Seal.Sealed.bytes g.V.Vault.held g.V.Vault.faults g.E.Eye.faults sound h c.args.job c.args.ledger.now.journal c.finish.new.self.journal c.args.ledger.now.stock c.finish.new.self.stock c.args.view.now c.requires.open u c.in-Ok.receipt w c.show_all.new.journal c.show_all.new.view c.show_all.ensures.some.log (record { segment = c.number-segment.result; at = c.in-Ok.receipt.at }) c.number-segment.ensures refl
    (index_all g.F.LogFile g.V.Seal.Sealed.tells g.V.Seal.Sealed.bytes g.V.Vault.held sound (with_entry h (End 0 c.args.job.order.number)) c.finish.new.self.journal c.show_all.new.journal c.finish.new.self.stock h c.args.view.now c.show_all.new.view c.show_all.ensures.some (c.show_all.ensures.follows sound (with_entry h (End 0 c.args.job.order.number)) h here.follows) c.in-Ok-show_all.ensures.shown here)

pub returns-in-Err-show_all-clause-ended : goal.returns-in-Err-show_all-clause-ended
returns-in-Err-show_all-clause-ended g c sound h u =
    let w : ledger.HasFinished g.F.LogFile h 0 c.args.job c.args.ledger.now.journal c.finish.new.self.journal c.args.ledger.now.stock c.finish.new.self.stock c.in-Ok.receipt = c.in-Ok.ensures.finished sound h u.ledger u.job_is in
    let here : IsIndexOf g.F.LogFile g.V.Seal.Sealed.tells g.V.Seal.Sealed.bytes g.V.Vault.held sound (with_entry h (End 0 c.args.job.order.number)) h (kept_of c.finish.new.self.journal c.finish.new.self.stock c.args.view.now) =
    index_ended g.F.LogFile g.V.Seal.Sealed.tells g.V.Seal.Sealed.bytes g.V.Vault.held g.V.Vault.faults g.E.Eye.faults sound h c.args.job c.args.ledger.now.journal c.finish.new.self.journal c.args.ledger.now.stock c.finish.new.self.stock c.args.view.now c.requires.open u c.in-Ok.receipt w (λ t. c.in-Ok.ensures.brings sound h t u.ledger u.job_is) (c.in-Ok.ensures.ledger sound h u.ledger u.job_is) in
    unshown g.F.LogFile g.V.Seal.Sealed.tells g.V.Seal.Sealed.bytes g.V.Vault.held g.V.Vault.faults g.E.Eye.faults sound h c.args.job c.args.ledger.now.journal c.finish.new.self.journal c.args.ledger.now.stock c.finish.new.self.stock c.args.view.now c.requires.open u c.in-Ok.receipt w c.show_all.new.journal c.show_all.new.view c.show_all.ensures.some.log
    (index_from g.F.LogFile g.V.Seal.Sealed.tells g.V.Seal.Sealed.bytes g.V.Vault.held sound (with_entry h (End 0 c.args.job.order.number)) c.finish.new.self.journal c.show_all.new.journal c.finish.new.self.stock h c.args.view.now c.show_all.new.view c.show_all.ensures.some (c.show_all.ensures.follows sound (with_entry h (End 0 c.args.job.order.number)) h here.follows) here)

pub returns-in-Ok-show_all-clause-eyes : goal.returns-in-Ok-show_all-clause-eyes
returns-in-Ok-show_all-clause-eyes g c =
    let sound : Bool = c.requires.list.0 in
    let h : BasedList = c.requires.list.1 in
    let u = c.requires.list.2 in
    let w : ledger.HasFinished g.F.LogFile h 0 c.args.job c.args.ledger.now.journal c.finish.new.self.journal c.args.ledger.now.stock c.finish.new.self.stock c.in-Ok.receipt = c.in-Ok.ensures.finished sound h u.ledger u.job_is in
    ap (λ (t : ToolsView _ _ _). eye_count t) w.tools

pub returns-in-Ok-show_all-clause-same_log : goal.returns-in-Ok-show_all-clause-same_log
returns-in-Ok-show_all-clause-same_log g c =
    let sound : Bool = c.requires.list.0 in
    let h : BasedList = c.requires.list.1 in
    let u = c.requires.list.2 in
    let w : ledger.HasFinished g.F.LogFile h 0 c.args.job c.args.ledger.now.journal c.finish.new.self.journal c.args.ledger.now.stock c.finish.new.self.stock c.in-Ok.receipt = c.in-Ok.ensures.finished sound h u.ledger u.job_is in
    same_log_then c.args.ledger.now.journal.log c.finish.new.self.journal.log c.show_all.new.journal.log w.logged.same_log (same_log_by c.finish.new.self.journal.log c.show_all.new.journal.log c.show_all.ensures.some.log)

pub returns-in-Err-show_all-clause-eyes : goal.returns-in-Err-show_all-clause-eyes
returns-in-Err-show_all-clause-eyes g c =
    let sound : Bool = c.requires.list.0 in
    let h : BasedList = c.requires.list.1 in
    let u = c.requires.list.2 in
    let w : ledger.HasFinished g.F.LogFile h 0 c.args.job c.args.ledger.now.journal c.finish.new.self.journal c.args.ledger.now.stock c.finish.new.self.stock c.in-Ok.receipt = c.in-Ok.ensures.finished sound h u.ledger u.job_is in
    ap (λ (t : ToolsView _ _ _). eye_count t) w.tools

pub returns-in-Err-show_all-clause-same_log : goal.returns-in-Err-show_all-clause-same_log
returns-in-Err-show_all-clause-same_log g c =
    let sound : Bool = c.requires.list.0 in
    let h : BasedList = c.requires.list.1 in
    let u = c.requires.list.2 in
    let w : ledger.HasFinished g.F.LogFile h 0 c.args.job c.args.ledger.now.journal c.finish.new.self.journal c.args.ledger.now.stock c.finish.new.self.stock c.in-Ok.receipt = c.in-Ok.ensures.finished sound h u.ledger u.job_is in
    same_log_then c.args.ledger.now.journal.log c.finish.new.self.journal.log c.show_all.new.journal.log w.logged.same_log (same_log_by c.finish.new.self.journal.log c.show_all.new.journal.log c.show_all.ensures.some.log)

pub give_back-requires : goal.give_back-requires
give_back-requires g c =
    let sound : Bool = c.requires.list.0 in
    let h : BasedList = c.requires.list.1 in
    let u = c.requires.list.2 in
    let w : ledger.IsUnfinished g.F.LogFile h 0 c.args.job c.args.ledger.now.journal c.finish.new.self.journal c.args.ledger.now.stock c.finish.new.self.stock c.in-Err.refused.why = c.in-Err.ensures.finished sound h u.ledger u.job_is in
    tools_kept g.F.LogFile h c.args.job c.args.ledger.now.journal c.finish.new.self.journal c.args.ledger.now.stock c.finish.new.self.stock c.in-Err.refused.why w ∙ u.out

pub returns-in-Err-clause-ended : goal.returns-in-Err-clause-ended
returns-in-Err-clause-ended g c sound h u =
    let w : ledger.IsUnfinished g.F.LogFile h 0 c.args.job c.args.ledger.now.journal c.finish.new.self.journal c.args.ledger.now.stock c.finish.new.self.stock c.in-Err.refused.why = c.in-Err.ensures.finished sound h u.ledger u.job_is in
    let both = c.in-Err.ensures.ledger sound h u.ledger u.job_is in
    let l : IsLedgerOf g.F.LogFile g.V.Seal.Sealed.tells g.V.Seal.Sealed.bytes g.V.Vault.held sound h c.finish.new.self.journal c.give_back.new.self.stock =
    subst (λ (x : JournalView _ _). IsLedgerOf g.F.LogFile g.V.Seal.Sealed.tells g.V.Seal.Sealed.bytes g.V.Vault.held sound h x c.give_back.new.self.stock) c.give_back.ensures.journal (c.give_back.ensures.ledger sound h both.0 both.1) in
    let given : c.give_back.new.self.stock.tools ≡ GivenBack c.args.job =
    ap (λ (s : StockView _ _ _). s.tools) c.give_back.ensures.stock ∙ ap (λ (x : JobView _ _ _). GivenBack x) c.in-Err.ensures.job in
    subst (λ (e : MergeRefused). IsFinish g.F.LogFile g.V.Seal.Sealed.tells g.V.Seal.Sealed.bytes g.V.Vault.held g.V.Vault.faults g.E.Eye.faults sound h c.args.job.order.number (kept_of c.args.ledger.now.journal c.args.ledger.now.stock c.args.view.now) (kept_of c.give_back.new.self.journal c.give_back.new.self.stock c.args.view.now) (Err e)) (sym c.from.ensures)
    (subst (λ (x : JournalView _ _). IsFinish g.F.LogFile g.V.Seal.Sealed.tells g.V.Seal.Sealed.bytes g.V.Vault.held g.V.Vault.faults g.E.Eye.faults sound h c.args.job.order.number (kept_of c.args.ledger.now.journal c.args.ledger.now.stock c.args.view.now) (kept_of x c.give_back.new.self.stock c.args.view.now) (Err (of_finish c.in-Err.refused.why))) (sym c.give_back.ensures.journal)
    (unfinished g.F.LogFile g.V.Seal.Sealed.tells g.V.Seal.Sealed.bytes g.V.Vault.held g.V.Vault.faults g.E.Eye.faults sound h c.args.job c.args.ledger.now.journal c.finish.new.self.journal c.args.ledger.now.stock c.finish.new.self.stock c.args.view.now c.requires.open u c.give_back.new.self.stock given l c.in-Err.refused.why w))

pub returns-in-Err-clause-same_log : goal.returns-in-Err-clause-same_log
returns-in-Err-clause-same_log g c =
    let sound : Bool = c.requires.list.0 in
    let h : BasedList = c.requires.list.1 in
    let u = c.requires.list.2 in
    let w : ledger.IsUnfinished g.F.LogFile h 0 c.args.job c.args.ledger.now.journal c.finish.new.self.journal c.args.ledger.now.stock c.finish.new.self.stock c.in-Err.refused.why = c.in-Err.ensures.finished sound h u.ledger u.job_is in
    subst (λ (x : JournalView _ _). IsSameLog c.args.ledger.now.journal.log x.log) (sym c.give_back.ensures.journal)
    (refuses_log g.F.LogFile h c.args.job c.args.ledger.now.journal c.finish.new.self.journal c.args.ledger.now.stock c.finish.new.self.stock c.in-Err.refused.why w)

pub returns-in-Ok-show_all-clause-ends : goal.returns-in-Ok-show_all-clause-ends
returns-in-Ok-show_all-clause-ends g c =
    let u = c.requires.list.2 in
    let w : ledger.HasFinished g.F.LogFile c.requires.list.1 0 c.args.job c.args.ledger.now.journal c.finish.new.self.journal c.args.ledger.now.stock c.finish.new.self.stock c.in-Ok.receipt = c.in-Ok.ensures.finished c.requires.list.0 c.requires.list.1 u.ledger u.job_is in
    record { at_hand = w.tools; retired = w.retired }

pub returns-in-Err-show_all-clause-ends : goal.returns-in-Err-show_all-clause-ends
returns-in-Err-show_all-clause-ends g c =
    let u = c.requires.list.2 in
    let w : ledger.HasFinished g.F.LogFile c.requires.list.1 0 c.args.job c.args.ledger.now.journal c.finish.new.self.journal c.args.ledger.now.stock c.finish.new.self.stock c.in-Ok.receipt = c.in-Ok.ensures.finished c.requires.list.0 c.requires.list.1 u.ledger u.job_is in
    record { at_hand = w.tools; retired = w.retired }

pub returns-in-Err-clause-ends : goal.returns-in-Err-clause-ends
returns-in-Err-clause-ends g c =
    let u = c.requires.list.2 in
    let given : c.give_back.new.self.stock ≡ record c.finish.new.self.stock { tools = GivenBack c.args.job } =
    c.give_back.ensures.stock ∙ ap (λ (x : JobView _ _ _). record c.finish.new.self.stock { tools = GivenBack x }) c.in-Err.ensures.job in
    subst (λ (e : MergeRefused). EndsBy c.args.ledger.now.stock c.give_back.new.self.stock c.args.job (Err e)) (sym c.from.ensures)
    (ends_by g.F.LogFile c.requires.list.1 c.args.job c.args.ledger.now.journal c.finish.new.self.journal c.args.ledger.now.stock c.finish.new.self.stock c.give_back.new.self.stock c.requires.open given c.in-Err.refused.why
    (c.in-Err.ensures.finished c.requires.list.0 c.requires.list.1 u.ledger u.job_is))
