use Rattle.std.proofs.Common.{◌≡◌, ◌∙◌, [], ◌∷◌, Bool, false, ap, inl, subst, sym}
use Rattle.std.specs.Prelude.{IsSome, Result, Err}
use Rattle.std.proofs.lemmas.Result.{err_from_is_err_and}
use Rattle.ann_types.specs.Fold.{fold_of}
use Rattle.ann_types.specs.Index.{Index}
use Rattle.ann_types.specs.Lists.{BasedList, with_entry}
use Rattle.ann_types.specs.declared.entry.Entry.TheVariants.{Begin, End}
use Rattle.ann_log.specs.Appended.{IsSameLog}
use Rattle.ann_log.specs.LogView.{LogView, files_of, held_of, IsBeforeOrAfter}
use Rattle.ann_log.specs.Pairs.{EachPair, LeavePairs}
use Rattle.ann_log.specs.Text.{StandsFor}
use Rattle.ann_mbegin.specs.Begun.{IsJobOf}
use Rattle.ann_journal.specs.Journal.{JournalView, index_in}
use Rattle.ann_showing.specs.Showing.{Follows}
use Rattle.ann_stock.specs.Stock.{StockView}
use Rattle.ann_ledger.specs.Clearing.{IsClearing}
use Rattle.ann_ledger.specs.Ledger.{IsLedgerOf}
use Rattle.ann_index.specs.Devices.{DevicesGoOn}
use Rattle.ann_index.specs.Index.{IsIndexOf, kept_of}
use Rattle.ann_index.specs.Left.{LeavesBy}
use Rattle.ann_index.specs.Stages.{IsOut, IsUntaken}
use Rattle.ann_index.specs.Merged.{HasMerged, IsBegun, IsMergeOf, IsRefused, begun, segment_for}
use Rattle.ann_index.specs.Steps.{HasFinished, HasStarted, HasWorkedOut, IsUnderWay}
use Rattle.ann_index.specs.declared.refusal.Merged.{Merged}
use Rattle.ann_index.specs.declared.refusal.MergeRefused.{MergeRefused}
use Rattle.ann_index.proofs.Crashes.{Leaves, unmoved, while_ending, while_starting}
use Rattle.ann_index.proofs.Devices.{devices_ended, devices_merged, devices_still, devices_undone}
use Rattle.ann_index.proofs.Left.{left_merged, left_undone, left_unended, left_untaken}
use Rattle.ann_index.proofs.Following.{same_index}
use Rattle.ann_index.proofs.Shown.{index_all, index_from, shown_on}
use Rattle.ann_index.proofs.Updating.{same_log_by, same_log_then}
use Rattle.ann_index.proofs.Merges.{clear_hand, given_back, merged_by, number_is, refused_from, unended}
use Rattle.ann_index.proofs.merging.merge_shown.Goals as goal

pub returns-in_err-show_all-clause-merged : goal.returns-in_err-show_all-clause-merged
returns-in_err-show_all-clause-merged g c sound h shown is =
    let open_now : c.args.ledger.now.journal.log.is_closed ≡ false = ap (λ l. l.is_closed) (sym c.log.ensures) ∙ sym c.is_closed.ensures.closed ∙ c.if-is_closed.false in
    let p = err_from_is_err_and c.from_residual.result c.from_residual.ensures.1 in
    subst (λ (r : Result Merged MergeRefused). IsMergeOf g.F.LogFile g.S.Sealed.tells g.S.Sealed.bytes g.V.Vault.held g.V.Vault.faults g.E.Eye.faults sound h shown c.args.ledger.now.journal.log c.args.ledger.now.stock.tools (kept_of c.show_all.new.journal c.args.ledger.now.stock c.show_all.new.view) r) (sym (p.1 ∙ ap Err p.2))
    (record {
      open_now = open_now;
      left = inl (c.show_all.ensures.some.log, (index_from g.F.LogFile g.S.Sealed.tells g.S.Sealed.bytes g.V.Vault.held sound h c.args.ledger.now.journal c.show_all.new.journal c.args.ledger.now.stock shown c.args.view.now c.show_all.new.view c.show_all.ensures.some (c.show_all.ensures.follows sound h shown is.follows) is));
    })

pub start-requires-clause-list : goal.start-requires-clause-list
start-requires-clause-list g c =
    let sound : Bool = c.requires.list.0 in
    let h : BasedList = c.requires.list.1 in
    let shown : BasedList = c.requires.list.2 in
    let is = c.requires.list.3 in
    let open_now : c.args.ledger.now.journal.log.is_closed ≡ false = ap (λ l. l.is_closed) (sym c.log.ensures) ∙ sym c.is_closed.ensures.closed ∙ c.if-is_closed.false in
    let all : IsIndexOf g.F.LogFile g.S.Sealed.tells g.S.Sealed.bytes g.V.Vault.held sound h h (kept_of c.show_all.new.journal c.args.ledger.now.stock c.show_all.new.view) =
    index_all g.F.LogFile g.S.Sealed.tells g.S.Sealed.bytes g.V.Vault.held sound h c.args.ledger.now.journal c.show_all.new.journal c.args.ledger.now.stock shown c.args.view.now c.show_all.new.view c.show_all.ensures.some (c.show_all.ensures.follows sound h shown is.follows) c.in_ok-show_all.ensures.shown is in
    (sound, h, all)

pub returns-in_err-job-clause-merged : goal.returns-in_err-job-clause-merged
returns-in_err-job-clause-merged g c sound h shown is =
    let open_now : c.args.ledger.now.journal.log.is_closed ≡ false = ap (λ l. l.is_closed) (sym c.log.ensures) ∙ sym c.is_closed.ensures.closed ∙ c.if-is_closed.false in
    let all : IsIndexOf g.F.LogFile g.S.Sealed.tells g.S.Sealed.bytes g.V.Vault.held sound h h (kept_of c.show_all.new.journal c.args.ledger.now.stock c.show_all.new.view) =
    index_all g.F.LogFile g.S.Sealed.tells g.S.Sealed.bytes g.V.Vault.held sound h c.args.ledger.now.journal c.show_all.new.journal c.args.ledger.now.stock shown c.args.view.now c.show_all.new.view c.show_all.ensures.some (c.show_all.ensures.follows sound h shown is.follows) c.in_ok-show_all.ensures.shown is in
    let p = err_from_is_err_and c.from_residual-in_err-job.result c.from_residual-in_err-job.ensures.1 in
    subst (λ (r : Result Merged MergeRefused). IsMergeOf g.F.LogFile g.S.Sealed.tells g.S.Sealed.bytes g.V.Vault.held g.V.Vault.faults g.E.Eye.faults sound h shown c.args.ledger.now.journal.log c.args.ledger.now.stock.tools (kept_of c.start.new.ledger.journal c.start.new.ledger.stock c.start.new.view) r) (sym (p.1 ∙ ap Err p.2))
    (refused_from g.F.LogFile g.S.Sealed.tells g.S.Sealed.bytes g.V.Vault.held g.V.Vault.faults g.E.Eye.faults sound h shown c.args.ledger.now.journal.log c.args.ledger.now.stock.tools (kept_of c.start.new.ledger.journal c.start.new.ledger.stock c.start.new.view)
    (shown_on g.F.LogFile g.S.Sealed.bytes sound h shown h c.args.ledger.now.journal c.show_all.new.journal c.args.view.now c.show_all.new.view is.follows all.follows c.show_all.ensures.some) c.in_err-job.field-0.0
    (subst (λ (l : LogView _). IsRefused g.F.LogFile g.S.Sealed.tells g.S.Sealed.bytes g.V.Vault.held g.V.Vault.faults g.E.Eye.faults sound h h l c.args.ledger.now.stock.tools (kept_of c.start.new.ledger.journal c.start.new.ledger.stock c.start.new.view) c.in_err-job.field-0.0) c.show_all.ensures.some.log (c.in_err-job.ensures.started sound h all)))

pub work_out-requires-clause-open : goal.work_out-requires-clause-open
work_out-requires-clause-open g c κs lts =
    let sound : Bool = c.requires.list.0 in
    let h : BasedList = c.requires.list.1 in
    let shown : BasedList = c.requires.list.2 in
    let is = c.requires.list.3 in
    let open_now : c.args.ledger.now.journal.log.is_closed ≡ false = ap (λ l. l.is_closed) (sym c.log.ensures) ∙ sym c.is_closed.ensures.closed ∙ c.if-is_closed.false in
    let all : IsIndexOf g.F.LogFile g.S.Sealed.tells g.S.Sealed.bytes g.V.Vault.held sound h h (kept_of c.show_all.new.journal c.args.ledger.now.stock c.show_all.new.view) =
    index_all g.F.LogFile g.S.Sealed.tells g.S.Sealed.bytes g.V.Vault.held sound h c.args.ledger.now.journal c.show_all.new.journal c.args.ledger.now.stock shown c.args.view.now c.show_all.new.view c.show_all.ensures.some (c.show_all.ensures.follows sound h shown is.follows) c.in_ok-show_all.ensures.shown is in
    let st : HasStarted g.F.LogFile g.S.Sealed.tells g.S.Sealed.bytes g.V.Vault.held g.V.Vault.faults g.E.Eye.faults sound h c.args.ledger.now.journal.log c.args.ledger.now.stock.tools (kept_of c.start.new.ledger.journal c.start.new.ledger.stock c.start.new.view) c.in_ok-job.job =
    subst (λ (l : LogView _). HasStarted g.F.LogFile g.S.Sealed.tells g.S.Sealed.bytes g.V.Vault.held g.V.Vault.faults g.E.Eye.faults sound h l c.args.ledger.now.stock.tools (kept_of c.start.new.ledger.journal c.start.new.ledger.stock c.start.new.view) c.in_ok-job.job) c.show_all.ensures.some.log (c.in_ok-job.ensures.started sound h all) in
    st.open_now

pub work_out-requires-clause-out : goal.work_out-requires-clause-out
work_out-requires-clause-out g c κs lts =
    let sound : Bool = c.requires.list.0 in
    let h : BasedList = c.requires.list.1 in
    let shown : BasedList = c.requires.list.2 in
    let is = c.requires.list.3 in
    let open_now : c.args.ledger.now.journal.log.is_closed ≡ false = ap (λ l. l.is_closed) (sym c.log.ensures) ∙ sym c.is_closed.ensures.closed ∙ c.if-is_closed.false in
    let all : IsIndexOf g.F.LogFile g.S.Sealed.tells g.S.Sealed.bytes g.V.Vault.held sound h h (kept_of c.show_all.new.journal c.args.ledger.now.stock c.show_all.new.view) =
    index_all g.F.LogFile g.S.Sealed.tells g.S.Sealed.bytes g.V.Vault.held sound h c.args.ledger.now.journal c.show_all.new.journal c.args.ledger.now.stock shown c.args.view.now c.show_all.new.view c.show_all.ensures.some (c.show_all.ensures.follows sound h shown is.follows) c.in_ok-show_all.ensures.shown is in
    let st : HasStarted g.F.LogFile g.S.Sealed.tells g.S.Sealed.bytes g.V.Vault.held g.V.Vault.faults g.E.Eye.faults sound h c.args.ledger.now.journal.log c.args.ledger.now.stock.tools (kept_of c.start.new.ledger.journal c.start.new.ledger.stock c.start.new.view) c.in_ok-job.job =
    subst (λ (l : LogView _). HasStarted g.F.LogFile g.S.Sealed.tells g.S.Sealed.bytes g.V.Vault.held g.V.Vault.faults g.E.Eye.faults sound h l c.args.ledger.now.stock.tools (kept_of c.start.new.ledger.journal c.start.new.ledger.stock c.start.new.view) c.in_ok-job.job) c.show_all.ensures.some.log (c.in_ok-job.ensures.started sound h all) in
    st.under_way.out

pub work_out-requires-clause-list : goal.work_out-requires-clause-list
work_out-requires-clause-list g c κs lts =
    let sound : Bool = c.requires.list.0 in
    let h : BasedList = c.requires.list.1 in
    let shown : BasedList = c.requires.list.2 in
    let is = c.requires.list.3 in
    let open_now : c.args.ledger.now.journal.log.is_closed ≡ false = ap (λ l. l.is_closed) (sym c.log.ensures) ∙ sym c.is_closed.ensures.closed ∙ c.if-is_closed.false in
    let all : IsIndexOf g.F.LogFile g.S.Sealed.tells g.S.Sealed.bytes g.V.Vault.held sound h h (kept_of c.show_all.new.journal c.args.ledger.now.stock c.show_all.new.view) =
    index_all g.F.LogFile g.S.Sealed.tells g.S.Sealed.bytes g.V.Vault.held sound h c.args.ledger.now.journal c.show_all.new.journal c.args.ledger.now.stock shown c.args.view.now c.show_all.new.view c.show_all.ensures.some (c.show_all.ensures.follows sound h shown is.follows) c.in_ok-show_all.ensures.shown is in
    let st : HasStarted g.F.LogFile g.S.Sealed.tells g.S.Sealed.bytes g.V.Vault.held g.V.Vault.faults g.E.Eye.faults sound h c.args.ledger.now.journal.log c.args.ledger.now.stock.tools (kept_of c.start.new.ledger.journal c.start.new.ledger.stock c.start.new.view) c.in_ok-job.job =
    subst (λ (l : LogView _). HasStarted g.F.LogFile g.S.Sealed.tells g.S.Sealed.bytes g.V.Vault.held g.V.Vault.faults g.E.Eye.faults sound h l c.args.ledger.now.stock.tools (kept_of c.start.new.ledger.journal c.start.new.ledger.stock c.start.new.view) c.in_ok-job.job) c.show_all.ensures.some.log (c.in_ok-job.ensures.started sound h all) in
    (sound, begun (index_in c.args.ledger.now.journal.log) h, st.under_way.ledger, st.under_way.job_is)

pub returns-in_err-done-clause-merged : goal.returns-in_err-done-clause-merged
returns-in_err-done-clause-merged g c sound h shown is =
    let open_now : c.args.ledger.now.journal.log.is_closed ≡ false = ap (λ l. l.is_closed) (sym c.log.ensures) ∙ sym c.is_closed.ensures.closed ∙ c.if-is_closed.false in
    let all : IsIndexOf g.F.LogFile g.S.Sealed.tells g.S.Sealed.bytes g.V.Vault.held sound h h (kept_of c.show_all.new.journal c.args.ledger.now.stock c.show_all.new.view) =
    index_all g.F.LogFile g.S.Sealed.tells g.S.Sealed.bytes g.V.Vault.held sound h c.args.ledger.now.journal c.show_all.new.journal c.args.ledger.now.stock shown c.args.view.now c.show_all.new.view c.show_all.ensures.some (c.show_all.ensures.follows sound h shown is.follows) c.in_ok-show_all.ensures.shown is in
    let st : HasStarted g.F.LogFile g.S.Sealed.tells g.S.Sealed.bytes g.V.Vault.held g.V.Vault.faults g.E.Eye.faults sound h c.args.ledger.now.journal.log c.args.ledger.now.stock.tools (kept_of c.start.new.ledger.journal c.start.new.ledger.stock c.start.new.view) c.in_ok-job.job =
    subst (λ (l : LogView _). HasStarted g.F.LogFile g.S.Sealed.tells g.S.Sealed.bytes g.V.Vault.held g.V.Vault.faults g.E.Eye.faults sound h l c.args.ledger.now.stock.tools (kept_of c.start.new.ledger.journal c.start.new.ledger.stock c.start.new.view) c.in_ok-job.job) c.show_all.ensures.some.log (c.in_ok-job.ensures.started sound h all) in
    let p = err_from_is_err_and c.from_residual-in_err-done.result c.from_residual-in_err-done.ensures.1 in
    subst (λ (r : Result Merged MergeRefused). IsMergeOf g.F.LogFile g.S.Sealed.tells g.S.Sealed.bytes g.V.Vault.held g.V.Vault.faults g.E.Eye.faults sound h shown c.args.ledger.now.journal.log c.args.ledger.now.stock.tools (kept_of c.work_out.new.ledger.journal c.work_out.new.ledger.stock c.start.new.view) r) (sym (p.1 ∙ ap Err p.2))
    (given_back g.F.LogFile g.S.Sealed.tells g.S.Sealed.bytes g.V.Vault.held g.V.Vault.faults g.E.Eye.faults sound h shown c.args.ledger.now.journal.log c.args.ledger.now.stock.tools open_now c.start.new.ledger.journal c.work_out.new.ledger.journal c.start.new.ledger.stock c.work_out.new.ledger.stock c.start.new.view c.in_ok-job.job c.in_err-done.field-0.0 st.begun_is st.under_way st.parts (c.in_err-done.ensures.worked sound (begun (index_in c.args.ledger.now.journal.log) h) st.under_way.ledger st.under_way.job_is))

pub returns-in_err-done-clause-same_log : goal.returns-in_err-done-clause-same_log
returns-in_err-done-clause-same_log g c =
    let sound : Bool = c.requires.list.0 in
    let h : BasedList = c.requires.list.1 in
    let shown : BasedList = c.requires.list.2 in
    let is = c.requires.list.3 in
    let open_now : c.args.ledger.now.journal.log.is_closed ≡ false = ap (λ l. l.is_closed) (sym c.log.ensures) ∙ sym c.is_closed.ensures.closed ∙ c.if-is_closed.false in
    let all : IsIndexOf g.F.LogFile g.S.Sealed.tells g.S.Sealed.bytes g.V.Vault.held sound h h (kept_of c.show_all.new.journal c.args.ledger.now.stock c.show_all.new.view) =
    index_all g.F.LogFile g.S.Sealed.tells g.S.Sealed.bytes g.V.Vault.held sound h c.args.ledger.now.journal c.show_all.new.journal c.args.ledger.now.stock shown c.args.view.now c.show_all.new.view c.show_all.ensures.some (c.show_all.ensures.follows sound h shown is.follows) c.in_ok-show_all.ensures.shown is in
    let st : HasStarted g.F.LogFile g.S.Sealed.tells g.S.Sealed.bytes g.V.Vault.held g.V.Vault.faults g.E.Eye.faults sound h c.args.ledger.now.journal.log c.args.ledger.now.stock.tools (kept_of c.start.new.ledger.journal c.start.new.ledger.stock c.start.new.view) c.in_ok-job.job =
    subst (λ (l : LogView _). HasStarted g.F.LogFile g.S.Sealed.tells g.S.Sealed.bytes g.V.Vault.held g.V.Vault.faults g.E.Eye.faults sound h l c.args.ledger.now.stock.tools (kept_of c.start.new.ledger.journal c.start.new.ledger.stock c.start.new.view) c.in_ok-job.job) c.show_all.ensures.some.log (c.in_ok-job.ensures.started sound h all) in
    let w = c.in_err-done.ensures.worked sound (begun (index_in c.args.ledger.now.journal.log) h) st.under_way.ledger st.under_way.job_is in
    subst (λ (x : JournalView _ _). IsSameLog c.args.ledger.now.journal.log x.log) (sym w.same) (same_log_then c.args.ledger.now.journal.log c.show_all.new.journal.log c.start.new.ledger.journal.log (same_log_by c.args.ledger.now.journal.log c.show_all.new.journal.log c.show_all.ensures.some.log) c.start.ensures.same_log)

pub end_shown-requires-clause-open : goal.end_shown-requires-clause-open
end_shown-requires-clause-open g c =
    let sound : Bool = c.requires.list.0 in
    let h : BasedList = c.requires.list.1 in
    let shown : BasedList = c.requires.list.2 in
    let is = c.requires.list.3 in
    let open_now : c.args.ledger.now.journal.log.is_closed ≡ false = ap (λ l. l.is_closed) (sym c.log.ensures) ∙ sym c.is_closed.ensures.closed ∙ c.if-is_closed.false in
    let all : IsIndexOf g.F.LogFile g.S.Sealed.tells g.S.Sealed.bytes g.V.Vault.held sound h h (kept_of c.show_all.new.journal c.args.ledger.now.stock c.show_all.new.view) =
    index_all g.F.LogFile g.S.Sealed.tells g.S.Sealed.bytes g.V.Vault.held sound h c.args.ledger.now.journal c.show_all.new.journal c.args.ledger.now.stock shown c.args.view.now c.show_all.new.view c.show_all.ensures.some (c.show_all.ensures.follows sound h shown is.follows) c.in_ok-show_all.ensures.shown is in
    let st : HasStarted g.F.LogFile g.S.Sealed.tells g.S.Sealed.bytes g.V.Vault.held g.V.Vault.faults g.E.Eye.faults sound h c.args.ledger.now.journal.log c.args.ledger.now.stock.tools (kept_of c.start.new.ledger.journal c.start.new.ledger.stock c.start.new.view) c.in_ok-job.job =
    subst (λ (l : LogView _). HasStarted g.F.LogFile g.S.Sealed.tells g.S.Sealed.bytes g.V.Vault.held g.V.Vault.faults g.E.Eye.faults sound h l c.args.ledger.now.stock.tools (kept_of c.start.new.ledger.journal c.start.new.ledger.stock c.start.new.view) c.in_ok-job.job) c.show_all.ensures.some.log (c.in_ok-job.ensures.started sound h all) in
    let wk : HasWorkedOut g.F.LogFile g.S.Sealed.tells g.S.Sealed.bytes g.V.Vault.held g.V.Vault.faults g.E.Eye.faults sound (begun (index_in c.args.ledger.now.journal.log) h) c.start.new.ledger.journal c.work_out.new.ledger.journal c.start.new.ledger.stock c.work_out.new.ledger.stock c.in_ok-job.job c.in_ok-done.done = c.in_ok-done.ensures.worked sound (begun (index_in c.args.ledger.now.journal.log) h) st.under_way.ledger st.under_way.job_is in
    let u : IsUnderWay g.F.LogFile g.S.Sealed.tells g.S.Sealed.bytes g.V.Vault.held g.V.Vault.faults g.E.Eye.faults sound (begun (index_in c.args.ledger.now.journal.log) h) (kept_of c.work_out.new.ledger.journal c.work_out.new.ledger.stock c.start.new.view) c.in_ok-done.done = record {
      follows = subst (λ (x : JournalView _ _). Follows g.F.LogFile g.S.Sealed.bytes sound (begun (index_in c.args.ledger.now.journal.log) h) (begun (index_in c.args.ledger.now.journal.log) h) x c.start.new.view) (sym wk.same.0) st.under_way.follows;
      ledger = subst (λ (s : StockView _ _ _). IsLedgerOf g.F.LogFile g.S.Sealed.tells g.S.Sealed.bytes g.V.Vault.held sound (begun (index_in c.args.ledger.now.journal.log) h) c.work_out.new.ledger.journal s) (sym wk.same.1) (subst (λ (x : JournalView _ _). IsLedgerOf g.F.LogFile g.S.Sealed.tells g.S.Sealed.bytes g.V.Vault.held sound (begun (index_in c.args.ledger.now.journal.log) h) x c.start.new.ledger.stock) (sym wk.same.0) st.under_way.ledger);
      out = ap (λ (s : StockView _ _ _). s.tools) wk.same.1 ∙ st.under_way.out;
      job_is = wk.job_is;
    } in
    ap (λ (x : JournalView _ _). x.log.is_closed) wk.same.0 ∙ st.open_now

pub end_shown-requires-clause-done : goal.end_shown-requires-clause-done
end_shown-requires-clause-done g c =
    let sound : Bool = c.requires.list.0 in
    let h : BasedList = c.requires.list.1 in
    let shown : BasedList = c.requires.list.2 in
    let is = c.requires.list.3 in
    let open_now : c.args.ledger.now.journal.log.is_closed ≡ false = ap (λ l. l.is_closed) (sym c.log.ensures) ∙ sym c.is_closed.ensures.closed ∙ c.if-is_closed.false in
    let all : IsIndexOf g.F.LogFile g.S.Sealed.tells g.S.Sealed.bytes g.V.Vault.held sound h h (kept_of c.show_all.new.journal c.args.ledger.now.stock c.show_all.new.view) =
    index_all g.F.LogFile g.S.Sealed.tells g.S.Sealed.bytes g.V.Vault.held sound h c.args.ledger.now.journal c.show_all.new.journal c.args.ledger.now.stock shown c.args.view.now c.show_all.new.view c.show_all.ensures.some (c.show_all.ensures.follows sound h shown is.follows) c.in_ok-show_all.ensures.shown is in
    let st : HasStarted g.F.LogFile g.S.Sealed.tells g.S.Sealed.bytes g.V.Vault.held g.V.Vault.faults g.E.Eye.faults sound h c.args.ledger.now.journal.log c.args.ledger.now.stock.tools (kept_of c.start.new.ledger.journal c.start.new.ledger.stock c.start.new.view) c.in_ok-job.job =
    subst (λ (l : LogView _). HasStarted g.F.LogFile g.S.Sealed.tells g.S.Sealed.bytes g.V.Vault.held g.V.Vault.faults g.E.Eye.faults sound h l c.args.ledger.now.stock.tools (kept_of c.start.new.ledger.journal c.start.new.ledger.stock c.start.new.view) c.in_ok-job.job) c.show_all.ensures.some.log (c.in_ok-job.ensures.started sound h all) in
    let wk : HasWorkedOut g.F.LogFile g.S.Sealed.tells g.S.Sealed.bytes g.V.Vault.held g.V.Vault.faults g.E.Eye.faults sound (begun (index_in c.args.ledger.now.journal.log) h) c.start.new.ledger.journal c.work_out.new.ledger.journal c.start.new.ledger.stock c.work_out.new.ledger.stock c.in_ok-job.job c.in_ok-done.done = c.in_ok-done.ensures.worked sound (begun (index_in c.args.ledger.now.journal.log) h) st.under_way.ledger st.under_way.job_is in
    let u : IsUnderWay g.F.LogFile g.S.Sealed.tells g.S.Sealed.bytes g.V.Vault.held g.V.Vault.faults g.E.Eye.faults sound (begun (index_in c.args.ledger.now.journal.log) h) (kept_of c.work_out.new.ledger.journal c.work_out.new.ledger.stock c.start.new.view) c.in_ok-done.done = record {
      follows = subst (λ (x : JournalView _ _). Follows g.F.LogFile g.S.Sealed.bytes sound (begun (index_in c.args.ledger.now.journal.log) h) (begun (index_in c.args.ledger.now.journal.log) h) x c.start.new.view) (sym wk.same.0) st.under_way.follows;
      ledger = subst (λ (s : StockView _ _ _). IsLedgerOf g.F.LogFile g.S.Sealed.tells g.S.Sealed.bytes g.V.Vault.held sound (begun (index_in c.args.ledger.now.journal.log) h) c.work_out.new.ledger.journal s) (sym wk.same.1) (subst (λ (x : JournalView _ _). IsLedgerOf g.F.LogFile g.S.Sealed.tells g.S.Sealed.bytes g.V.Vault.held sound (begun (index_in c.args.ledger.now.journal.log) h) x c.start.new.ledger.stock) (sym wk.same.0) st.under_way.ledger);
      out = ap (λ (s : StockView _ _ _). s.tools) wk.same.1 ∙ st.under_way.out;
      job_is = wk.job_is;
    } in
    wk.done

pub end_shown-requires-clause-list : goal.end_shown-requires-clause-list
end_shown-requires-clause-list g c =
    let sound : Bool = c.requires.list.0 in
    let h : BasedList = c.requires.list.1 in
    let shown : BasedList = c.requires.list.2 in
    let is = c.requires.list.3 in
    let open_now : c.args.ledger.now.journal.log.is_closed ≡ false = ap (λ l. l.is_closed) (sym c.log.ensures) ∙ sym c.is_closed.ensures.closed ∙ c.if-is_closed.false in
    let all : IsIndexOf g.F.LogFile g.S.Sealed.tells g.S.Sealed.bytes g.V.Vault.held sound h h (kept_of c.show_all.new.journal c.args.ledger.now.stock c.show_all.new.view) =
    index_all g.F.LogFile g.S.Sealed.tells g.S.Sealed.bytes g.V.Vault.held sound h c.args.ledger.now.journal c.show_all.new.journal c.args.ledger.now.stock shown c.args.view.now c.show_all.new.view c.show_all.ensures.some (c.show_all.ensures.follows sound h shown is.follows) c.in_ok-show_all.ensures.shown is in
    let st : HasStarted g.F.LogFile g.S.Sealed.tells g.S.Sealed.bytes g.V.Vault.held g.V.Vault.faults g.E.Eye.faults sound h c.args.ledger.now.journal.log c.args.ledger.now.stock.tools (kept_of c.start.new.ledger.journal c.start.new.ledger.stock c.start.new.view) c.in_ok-job.job =
    subst (λ (l : LogView _). HasStarted g.F.LogFile g.S.Sealed.tells g.S.Sealed.bytes g.V.Vault.held g.V.Vault.faults g.E.Eye.faults sound h l c.args.ledger.now.stock.tools (kept_of c.start.new.ledger.journal c.start.new.ledger.stock c.start.new.view) c.in_ok-job.job) c.show_all.ensures.some.log (c.in_ok-job.ensures.started sound h all) in
    let wk : HasWorkedOut g.F.LogFile g.S.Sealed.tells g.S.Sealed.bytes g.V.Vault.held g.V.Vault.faults g.E.Eye.faults sound (begun (index_in c.args.ledger.now.journal.log) h) c.start.new.ledger.journal c.work_out.new.ledger.journal c.start.new.ledger.stock c.work_out.new.ledger.stock c.in_ok-job.job c.in_ok-done.done = c.in_ok-done.ensures.worked sound (begun (index_in c.args.ledger.now.journal.log) h) st.under_way.ledger st.under_way.job_is in
    let u : IsUnderWay g.F.LogFile g.S.Sealed.tells g.S.Sealed.bytes g.V.Vault.held g.V.Vault.faults g.E.Eye.faults sound (begun (index_in c.args.ledger.now.journal.log) h) (kept_of c.work_out.new.ledger.journal c.work_out.new.ledger.stock c.start.new.view) c.in_ok-done.done = record {
      follows = subst (λ (x : JournalView _ _). Follows g.F.LogFile g.S.Sealed.bytes sound (begun (index_in c.args.ledger.now.journal.log) h) (begun (index_in c.args.ledger.now.journal.log) h) x c.start.new.view) (sym wk.same.0) st.under_way.follows;
      ledger = subst (λ (s : StockView _ _ _). IsLedgerOf g.F.LogFile g.S.Sealed.tells g.S.Sealed.bytes g.V.Vault.held sound (begun (index_in c.args.ledger.now.journal.log) h) c.work_out.new.ledger.journal s) (sym wk.same.1) (subst (λ (x : JournalView _ _). IsLedgerOf g.F.LogFile g.S.Sealed.tells g.S.Sealed.bytes g.V.Vault.held sound (begun (index_in c.args.ledger.now.journal.log) h) x c.start.new.ledger.stock) (sym wk.same.0) st.under_way.ledger);
      out = ap (λ (s : StockView _ _ _). s.tools) wk.same.1 ∙ st.under_way.out;
      job_is = wk.job_is;
    } in
    (sound, begun (index_in c.args.ledger.now.journal.log) h, u)

pub returns-in_err-merged-clause-merged : goal.returns-in_err-merged-clause-merged
returns-in_err-merged-clause-merged g c sound h shown is =
    let open_now : c.args.ledger.now.journal.log.is_closed ≡ false = ap (λ l. l.is_closed) (sym c.log.ensures) ∙ sym c.is_closed.ensures.closed ∙ c.if-is_closed.false in
    let all : IsIndexOf g.F.LogFile g.S.Sealed.tells g.S.Sealed.bytes g.V.Vault.held sound h h (kept_of c.show_all.new.journal c.args.ledger.now.stock c.show_all.new.view) =
    index_all g.F.LogFile g.S.Sealed.tells g.S.Sealed.bytes g.V.Vault.held sound h c.args.ledger.now.journal c.show_all.new.journal c.args.ledger.now.stock shown c.args.view.now c.show_all.new.view c.show_all.ensures.some (c.show_all.ensures.follows sound h shown is.follows) c.in_ok-show_all.ensures.shown is in
    let st : HasStarted g.F.LogFile g.S.Sealed.tells g.S.Sealed.bytes g.V.Vault.held g.V.Vault.faults g.E.Eye.faults sound h c.args.ledger.now.journal.log c.args.ledger.now.stock.tools (kept_of c.start.new.ledger.journal c.start.new.ledger.stock c.start.new.view) c.in_ok-job.job =
    subst (λ (l : LogView _). HasStarted g.F.LogFile g.S.Sealed.tells g.S.Sealed.bytes g.V.Vault.held g.V.Vault.faults g.E.Eye.faults sound h l c.args.ledger.now.stock.tools (kept_of c.start.new.ledger.journal c.start.new.ledger.stock c.start.new.view) c.in_ok-job.job) c.show_all.ensures.some.log (c.in_ok-job.ensures.started sound h all) in
    let wk : HasWorkedOut g.F.LogFile g.S.Sealed.tells g.S.Sealed.bytes g.V.Vault.held g.V.Vault.faults g.E.Eye.faults sound (begun (index_in c.args.ledger.now.journal.log) h) c.start.new.ledger.journal c.work_out.new.ledger.journal c.start.new.ledger.stock c.work_out.new.ledger.stock c.in_ok-job.job c.in_ok-done.done = c.in_ok-done.ensures.worked sound (begun (index_in c.args.ledger.now.journal.log) h) st.under_way.ledger st.under_way.job_is in
    let u : IsUnderWay g.F.LogFile g.S.Sealed.tells g.S.Sealed.bytes g.V.Vault.held g.V.Vault.faults g.E.Eye.faults sound (begun (index_in c.args.ledger.now.journal.log) h) (kept_of c.work_out.new.ledger.journal c.work_out.new.ledger.stock c.start.new.view) c.in_ok-done.done = record {
      follows = subst (λ (x : JournalView _ _). Follows g.F.LogFile g.S.Sealed.bytes sound (begun (index_in c.args.ledger.now.journal.log) h) (begun (index_in c.args.ledger.now.journal.log) h) x c.start.new.view) (sym wk.same.0) st.under_way.follows;
      ledger = subst (λ (s : StockView _ _ _). IsLedgerOf g.F.LogFile g.S.Sealed.tells g.S.Sealed.bytes g.V.Vault.held sound (begun (index_in c.args.ledger.now.journal.log) h) c.work_out.new.ledger.journal s) (sym wk.same.1) (subst (λ (x : JournalView _ _). IsLedgerOf g.F.LogFile g.S.Sealed.tells g.S.Sealed.bytes g.V.Vault.held sound (begun (index_in c.args.ledger.now.journal.log) h) x c.start.new.ledger.stock) (sym wk.same.0) st.under_way.ledger);
      out = ap (λ (s : StockView _ _ _). s.tools) wk.same.1 ∙ st.under_way.out;
      job_is = wk.job_is;
    } in
    let log3 : IsSameLog c.args.ledger.now.journal.log c.work_out.new.ledger.journal.log = subst (λ (x : JournalView _ _). IsSameLog c.args.ledger.now.journal.log x.log) (sym wk.same.0) (same_log_then c.args.ledger.now.journal.log c.show_all.new.journal.log c.start.new.ledger.journal.log (same_log_by c.args.ledger.now.journal.log c.show_all.new.journal.log c.show_all.ensures.some.log) c.start.ensures.same_log) in
    let numbered : c.in_ok-done.done.order.number ≡ segment_for (index_in c.args.ledger.now.journal.log) h =
    number_is (index_in c.args.ledger.now.journal.log) h c.in_ok-done.done.order (subst (λ (i : Index). IsJobOf i (begun (index_in c.args.ledger.now.journal.log) h) c.in_ok-done.done.order) (same_index c.args.ledger.now.journal.log c.work_out.new.ledger.journal.log log3.params log3.book) wk.job_is.of_begin) in
    let begun_is = subst (λ (x : JournalView _ _). IsBegun g.F.LogFile (index_in c.args.ledger.now.journal.log) h c.args.ledger.now.journal.log x.log) (sym wk.same.0) st.begun_is in
    let p = err_from_is_err_and c.from_residual-in_err-merged.result c.from_residual-in_err-merged.ensures.1 in
    subst (λ (r : Result Merged MergeRefused). IsMergeOf g.F.LogFile g.S.Sealed.tells g.S.Sealed.bytes g.V.Vault.held g.V.Vault.faults g.E.Eye.faults sound h shown c.args.ledger.now.journal.log c.args.ledger.now.stock.tools (kept_of c.end_shown.new.ledger.journal c.end_shown.new.ledger.stock c.end_shown.new.view) r) (sym (p.1 ∙ ap Err p.2))
    (unended g.F.LogFile g.S.Sealed.tells g.S.Sealed.bytes g.V.Vault.held g.V.Vault.faults g.E.Eye.faults sound h shown c.args.ledger.now.journal.log c.args.ledger.now.stock.tools open_now (kept_of c.work_out.new.ledger.journal c.work_out.new.ledger.stock c.start.new.view) (kept_of c.end_shown.new.ledger.journal c.end_shown.new.ledger.stock c.end_shown.new.view) c.in_ok-done.done.order.number begun_is numbered c.in_err-merged.field-0.0 (c.in_err-merged.ensures.ended sound (begun (index_in c.args.ledger.now.journal.log) h) u))

pub returns-in_err-merged-clause-same_log : goal.returns-in_err-merged-clause-same_log
returns-in_err-merged-clause-same_log g c =
    let sound : Bool = c.requires.list.0 in
    let h : BasedList = c.requires.list.1 in
    let shown : BasedList = c.requires.list.2 in
    let is = c.requires.list.3 in
    let open_now : c.args.ledger.now.journal.log.is_closed ≡ false = ap (λ l. l.is_closed) (sym c.log.ensures) ∙ sym c.is_closed.ensures.closed ∙ c.if-is_closed.false in
    let all : IsIndexOf g.F.LogFile g.S.Sealed.tells g.S.Sealed.bytes g.V.Vault.held sound h h (kept_of c.show_all.new.journal c.args.ledger.now.stock c.show_all.new.view) =
    index_all g.F.LogFile g.S.Sealed.tells g.S.Sealed.bytes g.V.Vault.held sound h c.args.ledger.now.journal c.show_all.new.journal c.args.ledger.now.stock shown c.args.view.now c.show_all.new.view c.show_all.ensures.some (c.show_all.ensures.follows sound h shown is.follows) c.in_ok-show_all.ensures.shown is in
    let st : HasStarted g.F.LogFile g.S.Sealed.tells g.S.Sealed.bytes g.V.Vault.held g.V.Vault.faults g.E.Eye.faults sound h c.args.ledger.now.journal.log c.args.ledger.now.stock.tools (kept_of c.start.new.ledger.journal c.start.new.ledger.stock c.start.new.view) c.in_ok-job.job =
    subst (λ (l : LogView _). HasStarted g.F.LogFile g.S.Sealed.tells g.S.Sealed.bytes g.V.Vault.held g.V.Vault.faults g.E.Eye.faults sound h l c.args.ledger.now.stock.tools (kept_of c.start.new.ledger.journal c.start.new.ledger.stock c.start.new.view) c.in_ok-job.job) c.show_all.ensures.some.log (c.in_ok-job.ensures.started sound h all) in
    let wk : HasWorkedOut g.F.LogFile g.S.Sealed.tells g.S.Sealed.bytes g.V.Vault.held g.V.Vault.faults g.E.Eye.faults sound (begun (index_in c.args.ledger.now.journal.log) h) c.start.new.ledger.journal c.work_out.new.ledger.journal c.start.new.ledger.stock c.work_out.new.ledger.stock c.in_ok-job.job c.in_ok-done.done = c.in_ok-done.ensures.worked sound (begun (index_in c.args.ledger.now.journal.log) h) st.under_way.ledger st.under_way.job_is in
    let u : IsUnderWay g.F.LogFile g.S.Sealed.tells g.S.Sealed.bytes g.V.Vault.held g.V.Vault.faults g.E.Eye.faults sound (begun (index_in c.args.ledger.now.journal.log) h) (kept_of c.work_out.new.ledger.journal c.work_out.new.ledger.stock c.start.new.view) c.in_ok-done.done = record {
      follows = subst (λ (x : JournalView _ _). Follows g.F.LogFile g.S.Sealed.bytes sound (begun (index_in c.args.ledger.now.journal.log) h) (begun (index_in c.args.ledger.now.journal.log) h) x c.start.new.view) (sym wk.same.0) st.under_way.follows;
      ledger = subst (λ (s : StockView _ _ _). IsLedgerOf g.F.LogFile g.S.Sealed.tells g.S.Sealed.bytes g.V.Vault.held sound (begun (index_in c.args.ledger.now.journal.log) h) c.work_out.new.ledger.journal s) (sym wk.same.1) (subst (λ (x : JournalView _ _). IsLedgerOf g.F.LogFile g.S.Sealed.tells g.S.Sealed.bytes g.V.Vault.held sound (begun (index_in c.args.ledger.now.journal.log) h) x c.start.new.ledger.stock) (sym wk.same.0) st.under_way.ledger);
      out = ap (λ (s : StockView _ _ _). s.tools) wk.same.1 ∙ st.under_way.out;
      job_is = wk.job_is;
    } in
    let log3 : IsSameLog c.args.ledger.now.journal.log c.work_out.new.ledger.journal.log = subst (λ (x : JournalView _ _). IsSameLog c.args.ledger.now.journal.log x.log) (sym wk.same.0) (same_log_then c.args.ledger.now.journal.log c.show_all.new.journal.log c.start.new.ledger.journal.log (same_log_by c.args.ledger.now.journal.log c.show_all.new.journal.log c.show_all.ensures.some.log) c.start.ensures.same_log) in
    same_log_then c.args.ledger.now.journal.log c.work_out.new.ledger.journal.log c.end_shown.new.ledger.journal.log log3 c.end_shown.ensures.same_log

pub returns-clause-same_log : goal.returns-clause-same_log
returns-clause-same_log g c =
    let sound : Bool = c.requires.list.0 in
    let h : BasedList = c.requires.list.1 in
    let shown : BasedList = c.requires.list.2 in
    let is = c.requires.list.3 in
    let open_now : c.args.ledger.now.journal.log.is_closed ≡ false = ap (λ l. l.is_closed) (sym c.log.ensures) ∙ sym c.is_closed.ensures.closed ∙ c.if-is_closed.false in
    let all : IsIndexOf g.F.LogFile g.S.Sealed.tells g.S.Sealed.bytes g.V.Vault.held sound h h (kept_of c.show_all.new.journal c.args.ledger.now.stock c.show_all.new.view) =
    index_all g.F.LogFile g.S.Sealed.tells g.S.Sealed.bytes g.V.Vault.held sound h c.args.ledger.now.journal c.show_all.new.journal c.args.ledger.now.stock shown c.args.view.now c.show_all.new.view c.show_all.ensures.some (c.show_all.ensures.follows sound h shown is.follows) c.in_ok-show_all.ensures.shown is in
    let st : HasStarted g.F.LogFile g.S.Sealed.tells g.S.Sealed.bytes g.V.Vault.held g.V.Vault.faults g.E.Eye.faults sound h c.args.ledger.now.journal.log c.args.ledger.now.stock.tools (kept_of c.start.new.ledger.journal c.start.new.ledger.stock c.start.new.view) c.in_ok-job.job =
    subst (λ (l : LogView _). HasStarted g.F.LogFile g.S.Sealed.tells g.S.Sealed.bytes g.V.Vault.held g.V.Vault.faults g.E.Eye.faults sound h l c.args.ledger.now.stock.tools (kept_of c.start.new.ledger.journal c.start.new.ledger.stock c.start.new.view) c.in_ok-job.job) c.show_all.ensures.some.log (c.in_ok-job.ensures.started sound h all) in
    let wk : HasWorkedOut g.F.LogFile g.S.Sealed.tells g.S.Sealed.bytes g.V.Vault.held g.V.Vault.faults g.E.Eye.faults sound (begun (index_in c.args.ledger.now.journal.log) h) c.start.new.ledger.journal c.work_out.new.ledger.journal c.start.new.ledger.stock c.work_out.new.ledger.stock c.in_ok-job.job c.in_ok-done.done = c.in_ok-done.ensures.worked sound (begun (index_in c.args.ledger.now.journal.log) h) st.under_way.ledger st.under_way.job_is in
    let u : IsUnderWay g.F.LogFile g.S.Sealed.tells g.S.Sealed.bytes g.V.Vault.held g.V.Vault.faults g.E.Eye.faults sound (begun (index_in c.args.ledger.now.journal.log) h) (kept_of c.work_out.new.ledger.journal c.work_out.new.ledger.stock c.start.new.view) c.in_ok-done.done = record {
      follows = subst (λ (x : JournalView _ _). Follows g.F.LogFile g.S.Sealed.bytes sound (begun (index_in c.args.ledger.now.journal.log) h) (begun (index_in c.args.ledger.now.journal.log) h) x c.start.new.view) (sym wk.same.0) st.under_way.follows;
      ledger = subst (λ (s : StockView _ _ _). IsLedgerOf g.F.LogFile g.S.Sealed.tells g.S.Sealed.bytes g.V.Vault.held sound (begun (index_in c.args.ledger.now.journal.log) h) c.work_out.new.ledger.journal s) (sym wk.same.1) (subst (λ (x : JournalView _ _). IsLedgerOf g.F.LogFile g.S.Sealed.tells g.S.Sealed.bytes g.V.Vault.held sound (begun (index_in c.args.ledger.now.journal.log) h) x c.start.new.ledger.stock) (sym wk.same.0) st.under_way.ledger);
      out = ap (λ (s : StockView _ _ _). s.tools) wk.same.1 ∙ st.under_way.out;
      job_is = wk.job_is;
    } in
    let log3 : IsSameLog c.args.ledger.now.journal.log c.work_out.new.ledger.journal.log = subst (λ (x : JournalView _ _). IsSameLog c.args.ledger.now.journal.log x.log) (sym wk.same.0) (same_log_then c.args.ledger.now.journal.log c.show_all.new.journal.log c.start.new.ledger.journal.log (same_log_by c.args.ledger.now.journal.log c.show_all.new.journal.log c.show_all.ensures.some.log) c.start.ensures.same_log) in
    subst (λ (x : JournalView _ _). IsSameLog c.args.ledger.now.journal.log x.log) (sym c.clear-removed.ensures.journal) (same_log_then c.args.ledger.now.journal.log c.work_out.new.ledger.journal.log c.end_shown.new.ledger.journal.log log3 c.end_shown.ensures.same_log)

pub returns-clause-merged : goal.returns-clause-merged
returns-clause-merged g c sound h shown is =
    let open_now : c.args.ledger.now.journal.log.is_closed ≡ false = ap (λ l. l.is_closed) (sym c.log.ensures) ∙ sym c.is_closed.ensures.closed ∙ c.if-is_closed.false in
    let all : IsIndexOf g.F.LogFile g.S.Sealed.tells g.S.Sealed.bytes g.V.Vault.held sound h h (kept_of c.show_all.new.journal c.args.ledger.now.stock c.show_all.new.view) =
    index_all g.F.LogFile g.S.Sealed.tells g.S.Sealed.bytes g.V.Vault.held sound h c.args.ledger.now.journal c.show_all.new.journal c.args.ledger.now.stock shown c.args.view.now c.show_all.new.view c.show_all.ensures.some (c.show_all.ensures.follows sound h shown is.follows) c.in_ok-show_all.ensures.shown is in
    let st : HasStarted g.F.LogFile g.S.Sealed.tells g.S.Sealed.bytes g.V.Vault.held g.V.Vault.faults g.E.Eye.faults sound h c.args.ledger.now.journal.log c.args.ledger.now.stock.tools (kept_of c.start.new.ledger.journal c.start.new.ledger.stock c.start.new.view) c.in_ok-job.job =
    subst (λ (l : LogView _). HasStarted g.F.LogFile g.S.Sealed.tells g.S.Sealed.bytes g.V.Vault.held g.V.Vault.faults g.E.Eye.faults sound h l c.args.ledger.now.stock.tools (kept_of c.start.new.ledger.journal c.start.new.ledger.stock c.start.new.view) c.in_ok-job.job) c.show_all.ensures.some.log (c.in_ok-job.ensures.started sound h all) in
    let wk : HasWorkedOut g.F.LogFile g.S.Sealed.tells g.S.Sealed.bytes g.V.Vault.held g.V.Vault.faults g.E.Eye.faults sound (begun (index_in c.args.ledger.now.journal.log) h) c.start.new.ledger.journal c.work_out.new.ledger.journal c.start.new.ledger.stock c.work_out.new.ledger.stock c.in_ok-job.job c.in_ok-done.done = c.in_ok-done.ensures.worked sound (begun (index_in c.args.ledger.now.journal.log) h) st.under_way.ledger st.under_way.job_is in
    let u : IsUnderWay g.F.LogFile g.S.Sealed.tells g.S.Sealed.bytes g.V.Vault.held g.V.Vault.faults g.E.Eye.faults sound (begun (index_in c.args.ledger.now.journal.log) h) (kept_of c.work_out.new.ledger.journal c.work_out.new.ledger.stock c.start.new.view) c.in_ok-done.done = record {
      follows = subst (λ (x : JournalView _ _). Follows g.F.LogFile g.S.Sealed.bytes sound (begun (index_in c.args.ledger.now.journal.log) h) (begun (index_in c.args.ledger.now.journal.log) h) x c.start.new.view) (sym wk.same.0) st.under_way.follows;
      ledger = subst (λ (s : StockView _ _ _). IsLedgerOf g.F.LogFile g.S.Sealed.tells g.S.Sealed.bytes g.V.Vault.held sound (begun (index_in c.args.ledger.now.journal.log) h) c.work_out.new.ledger.journal s) (sym wk.same.1) (subst (λ (x : JournalView _ _). IsLedgerOf g.F.LogFile g.S.Sealed.tells g.S.Sealed.bytes g.V.Vault.held sound (begun (index_in c.args.ledger.now.journal.log) h) x c.start.new.ledger.stock) (sym wk.same.0) st.under_way.ledger);
      out = ap (λ (s : StockView _ _ _). s.tools) wk.same.1 ∙ st.under_way.out;
      job_is = wk.job_is;
    } in
    let log3 : IsSameLog c.args.ledger.now.journal.log c.work_out.new.ledger.journal.log = subst (λ (x : JournalView _ _). IsSameLog c.args.ledger.now.journal.log x.log) (sym wk.same.0) (same_log_then c.args.ledger.now.journal.log c.show_all.new.journal.log c.start.new.ledger.journal.log (same_log_by c.args.ledger.now.journal.log c.show_all.new.journal.log c.show_all.ensures.some.log) c.start.ensures.same_log) in
    let numbered : c.in_ok-done.done.order.number ≡ segment_for (index_in c.args.ledger.now.journal.log) h =
    number_is (index_in c.args.ledger.now.journal.log) h c.in_ok-done.done.order (subst (λ (i : Index). IsJobOf i (begun (index_in c.args.ledger.now.journal.log) h) c.in_ok-done.done.order) (same_index c.args.ledger.now.journal.log c.work_out.new.ledger.journal.log log3.params log3.book) wk.job_is.of_begin) in
    let begun_is = subst (λ (x : JournalView _ _). IsBegun g.F.LogFile (index_in c.args.ledger.now.journal.log) h c.args.ledger.now.journal.log x.log) (sym wk.same.0) st.begun_is in
    let w : HasFinished g.F.LogFile g.S.Sealed.tells g.S.Sealed.bytes g.V.Vault.held g.V.Vault.faults g.E.Eye.faults sound (begun (index_in c.args.ledger.now.journal.log) h) c.in_ok-done.done.order.number (kept_of c.work_out.new.ledger.journal c.work_out.new.ledger.stock c.start.new.view) (kept_of c.end_shown.new.ledger.journal c.end_shown.new.ledger.stock c.end_shown.new.view) c.in_ok-merged.merged = c.in_ok-merged.ensures.ended sound (begun (index_in c.args.ledger.now.journal.log) h) u in
    let g2 : BasedList = with_entry (begun (index_in c.args.ledger.now.journal.log) h) (End 0 c.in_ok-done.done.order.number) in
    let l : IsLedgerOf g.F.LogFile g.S.Sealed.tells g.S.Sealed.bytes g.V.Vault.held sound g2 c.end_shown.new.ledger.journal c.clear-removed.new.self.stock =
    subst (λ (x : JournalView _ _). IsLedgerOf g.F.LogFile g.S.Sealed.tells g.S.Sealed.bytes g.V.Vault.held sound g2 x c.clear-removed.new.self.stock) c.clear-removed.ensures.journal (c.clear-removed.ensures.ledger sound g2 w.index.ledger) in
    subst (λ (x : JournalView _ _). HasMerged g.F.LogFile g.S.Sealed.tells g.S.Sealed.bytes g.V.Vault.held g.V.Vault.faults g.E.Eye.faults sound h shown c.args.ledger.now.journal.log c.args.ledger.now.stock.tools (kept_of x c.clear-removed.new.self.stock c.end_shown.new.view) c.in_ok-merged.merged) (sym c.clear-removed.ensures.journal)
    (merged_by g.F.LogFile g.S.Sealed.tells g.S.Sealed.bytes g.V.Vault.held g.V.Vault.faults g.E.Eye.faults sound h shown c.args.ledger.now.journal.log c.args.ledger.now.stock.tools open_now (kept_of c.work_out.new.ledger.journal c.work_out.new.ledger.stock c.start.new.view) (kept_of c.end_shown.new.ledger.journal c.end_shown.new.ledger.stock c.end_shown.new.view) c.in_ok-done.done.order.number begun_is numbered c.in_ok-merged.merged w c.clear-removed.new.self.stock
    (clear_hand g.S.Sealed.tells g.V.Vault.held g.V.Vault.faults c.end_shown.new.ledger.journal.log c.end_shown.new.ledger.stock c.clear-removed.new.self.stock c.clear-removed.result w.at_hand c.clear-removed.ensures.cleared) l)

pub returns-in_err-show_all-clause-during : goal.returns-in_err-show_all-clause-during
returns-in_err-show_all-clause-during g c sound h shown is was_open tells =
    let each : EachPair g.F.LogFile.unsynced (StandsFor (held_of c.args.ledger.now.journal.log)) (files_of c.args.ledger.now.journal.log) =
    subst (λ (l : LogView _). EachPair g.F.LogFile.unsynced (StandsFor (held_of l)) (files_of l)) c.log.ensures (c.is_closed.ensures.images tells c.if-is_closed.false) in
    subst (λ (l : LogView _). Leaves g.F.LogFile h c.args.ledger.now.journal.log c.args.ledger.now.journal.log l) (sym c.show_all.ensures.some.log) (unmoved g.F.LogFile h c.args.ledger.now.journal.log each)

pub returns-in_err-job-clause-during : goal.returns-in_err-job-clause-during
returns-in_err-job-clause-during g c sound h shown is was_open tells =
    let open_now : c.args.ledger.now.journal.log.is_closed ≡ false = ap (λ l. l.is_closed) (sym c.log.ensures) ∙ sym c.is_closed.ensures.closed ∙ c.if-is_closed.false in
    let all : IsIndexOf g.F.LogFile g.S.Sealed.tells g.S.Sealed.bytes g.V.Vault.held sound h h (kept_of c.show_all.new.journal c.args.ledger.now.stock c.show_all.new.view) =
    index_all g.F.LogFile g.S.Sealed.tells g.S.Sealed.bytes g.V.Vault.held sound h c.args.ledger.now.journal c.show_all.new.journal c.args.ledger.now.stock shown c.args.view.now c.show_all.new.view c.show_all.ensures.some (c.show_all.ensures.follows sound h shown is.follows) c.in_ok-show_all.ensures.shown is in
    let each : EachPair g.F.LogFile.unsynced (StandsFor (held_of c.args.ledger.now.journal.log)) (files_of c.args.ledger.now.journal.log) =
    subst (λ (l : LogView _). EachPair g.F.LogFile.unsynced (StandsFor (held_of l)) (files_of l)) c.log.ensures (c.is_closed.ensures.images tells c.if-is_closed.false) in
    let goes : IsSome (fold_of (index_in c.args.ledger.now.journal.log) h).begun → c.start.new.ledger.journal.log ≡ c.args.ledger.now.journal.log =
    λ s. c.start.ensures.goes_on sound h all (subst (λ (l : LogView _). IsSome (fold_of (index_in l) h).begun) (sym c.show_all.ensures.some.log) s) ∙ c.show_all.ensures.some.log in
    let run : Leaves g.F.LogFile h c.args.ledger.now.journal.log c.args.ledger.now.journal.log c.start.new.ledger.journal.log =
    while_starting g.F.LogFile h c.args.ledger.now.journal.log c.start.new.ledger.journal.log each goes
    (subst (λ (l : LogView _). LeavePairs g.F.LogFile.past g.F.LogFile.unsynced (files_of l) (files_of c.start.new.ledger.journal.log) (IsBeforeOrAfter (held_of l) (Begin 0 ∷ []))) c.show_all.ensures.some.log (c.start.ensures.during tells)) in
    run

pub returns-in_err-done-clause-during : goal.returns-in_err-done-clause-during
returns-in_err-done-clause-during g c sound h shown is was_open tells =
    let open_now : c.args.ledger.now.journal.log.is_closed ≡ false = ap (λ l. l.is_closed) (sym c.log.ensures) ∙ sym c.is_closed.ensures.closed ∙ c.if-is_closed.false in
    let all : IsIndexOf g.F.LogFile g.S.Sealed.tells g.S.Sealed.bytes g.V.Vault.held sound h h (kept_of c.show_all.new.journal c.args.ledger.now.stock c.show_all.new.view) =
    index_all g.F.LogFile g.S.Sealed.tells g.S.Sealed.bytes g.V.Vault.held sound h c.args.ledger.now.journal c.show_all.new.journal c.args.ledger.now.stock shown c.args.view.now c.show_all.new.view c.show_all.ensures.some (c.show_all.ensures.follows sound h shown is.follows) c.in_ok-show_all.ensures.shown is in
    let st : HasStarted g.F.LogFile g.S.Sealed.tells g.S.Sealed.bytes g.V.Vault.held g.V.Vault.faults g.E.Eye.faults sound h c.args.ledger.now.journal.log c.args.ledger.now.stock.tools (kept_of c.start.new.ledger.journal c.start.new.ledger.stock c.start.new.view) c.in_ok-job.job =
    subst (λ (l : LogView _). HasStarted g.F.LogFile g.S.Sealed.tells g.S.Sealed.bytes g.V.Vault.held g.V.Vault.faults g.E.Eye.faults sound h l c.args.ledger.now.stock.tools (kept_of c.start.new.ledger.journal c.start.new.ledger.stock c.start.new.view) c.in_ok-job.job) c.show_all.ensures.some.log (c.in_ok-job.ensures.started sound h all) in
    let each : EachPair g.F.LogFile.unsynced (StandsFor (held_of c.args.ledger.now.journal.log)) (files_of c.args.ledger.now.journal.log) =
    subst (λ (l : LogView _). EachPair g.F.LogFile.unsynced (StandsFor (held_of l)) (files_of l)) c.log.ensures (c.is_closed.ensures.images tells c.if-is_closed.false) in
    let goes : IsSome (fold_of (index_in c.args.ledger.now.journal.log) h).begun → c.start.new.ledger.journal.log ≡ c.args.ledger.now.journal.log =
    λ s. c.start.ensures.goes_on sound h all (subst (λ (l : LogView _). IsSome (fold_of (index_in l) h).begun) (sym c.show_all.ensures.some.log) s) ∙ c.show_all.ensures.some.log in
    let run : Leaves g.F.LogFile h c.args.ledger.now.journal.log c.args.ledger.now.journal.log c.start.new.ledger.journal.log =
    while_starting g.F.LogFile h c.args.ledger.now.journal.log c.start.new.ledger.journal.log each goes
    (subst (λ (l : LogView _). LeavePairs g.F.LogFile.past g.F.LogFile.unsynced (files_of l) (files_of c.start.new.ledger.journal.log) (IsBeforeOrAfter (held_of l) (Begin 0 ∷ []))) c.show_all.ensures.some.log (c.start.ensures.during tells)) in
    let w = c.in_err-done.ensures.worked sound (begun (index_in c.args.ledger.now.journal.log) h) st.under_way.ledger st.under_way.job_is in
    subst (λ (x : JournalView _ _). Leaves g.F.LogFile h c.args.ledger.now.journal.log c.args.ledger.now.journal.log x.log) (sym w.same) run

pub returns-in_err-merged-clause-during : goal.returns-in_err-merged-clause-during
returns-in_err-merged-clause-during g c sound h shown is was_open tells =
    let open_now : c.args.ledger.now.journal.log.is_closed ≡ false = ap (λ l. l.is_closed) (sym c.log.ensures) ∙ sym c.is_closed.ensures.closed ∙ c.if-is_closed.false in
    let all : IsIndexOf g.F.LogFile g.S.Sealed.tells g.S.Sealed.bytes g.V.Vault.held sound h h (kept_of c.show_all.new.journal c.args.ledger.now.stock c.show_all.new.view) =
    index_all g.F.LogFile g.S.Sealed.tells g.S.Sealed.bytes g.V.Vault.held sound h c.args.ledger.now.journal c.show_all.new.journal c.args.ledger.now.stock shown c.args.view.now c.show_all.new.view c.show_all.ensures.some (c.show_all.ensures.follows sound h shown is.follows) c.in_ok-show_all.ensures.shown is in
    let st : HasStarted g.F.LogFile g.S.Sealed.tells g.S.Sealed.bytes g.V.Vault.held g.V.Vault.faults g.E.Eye.faults sound h c.args.ledger.now.journal.log c.args.ledger.now.stock.tools (kept_of c.start.new.ledger.journal c.start.new.ledger.stock c.start.new.view) c.in_ok-job.job =
    subst (λ (l : LogView _). HasStarted g.F.LogFile g.S.Sealed.tells g.S.Sealed.bytes g.V.Vault.held g.V.Vault.faults g.E.Eye.faults sound h l c.args.ledger.now.stock.tools (kept_of c.start.new.ledger.journal c.start.new.ledger.stock c.start.new.view) c.in_ok-job.job) c.show_all.ensures.some.log (c.in_ok-job.ensures.started sound h all) in
    let wk : HasWorkedOut g.F.LogFile g.S.Sealed.tells g.S.Sealed.bytes g.V.Vault.held g.V.Vault.faults g.E.Eye.faults sound (begun (index_in c.args.ledger.now.journal.log) h) c.start.new.ledger.journal c.work_out.new.ledger.journal c.start.new.ledger.stock c.work_out.new.ledger.stock c.in_ok-job.job c.in_ok-done.done = c.in_ok-done.ensures.worked sound (begun (index_in c.args.ledger.now.journal.log) h) st.under_way.ledger st.under_way.job_is in
    let u : IsUnderWay g.F.LogFile g.S.Sealed.tells g.S.Sealed.bytes g.V.Vault.held g.V.Vault.faults g.E.Eye.faults sound (begun (index_in c.args.ledger.now.journal.log) h) (kept_of c.work_out.new.ledger.journal c.work_out.new.ledger.stock c.start.new.view) c.in_ok-done.done = record {
      follows = subst (λ (x : JournalView _ _). Follows g.F.LogFile g.S.Sealed.bytes sound (begun (index_in c.args.ledger.now.journal.log) h) (begun (index_in c.args.ledger.now.journal.log) h) x c.start.new.view) (sym wk.same.0) st.under_way.follows;
      ledger = subst (λ (s : StockView _ _ _). IsLedgerOf g.F.LogFile g.S.Sealed.tells g.S.Sealed.bytes g.V.Vault.held sound (begun (index_in c.args.ledger.now.journal.log) h) c.work_out.new.ledger.journal s) (sym wk.same.1) (subst (λ (x : JournalView _ _). IsLedgerOf g.F.LogFile g.S.Sealed.tells g.S.Sealed.bytes g.V.Vault.held sound (begun (index_in c.args.ledger.now.journal.log) h) x c.start.new.ledger.stock) (sym wk.same.0) st.under_way.ledger);
      out = ap (λ (s : StockView _ _ _). s.tools) wk.same.1 ∙ st.under_way.out;
      job_is = wk.job_is;
    } in
    let log3 : IsSameLog c.args.ledger.now.journal.log c.work_out.new.ledger.journal.log = subst (λ (x : JournalView _ _). IsSameLog c.args.ledger.now.journal.log x.log) (sym wk.same.0) (same_log_then c.args.ledger.now.journal.log c.show_all.new.journal.log c.start.new.ledger.journal.log (same_log_by c.args.ledger.now.journal.log c.show_all.new.journal.log c.show_all.ensures.some.log) c.start.ensures.same_log) in
    let numbered : c.in_ok-done.done.order.number ≡ segment_for (index_in c.args.ledger.now.journal.log) h =
    number_is (index_in c.args.ledger.now.journal.log) h c.in_ok-done.done.order (subst (λ (i : Index). IsJobOf i (begun (index_in c.args.ledger.now.journal.log) h) c.in_ok-done.done.order) (same_index c.args.ledger.now.journal.log c.work_out.new.ledger.journal.log log3.params log3.book) wk.job_is.of_begin) in
    let begun_is = subst (λ (x : JournalView _ _). IsBegun g.F.LogFile (index_in c.args.ledger.now.journal.log) h c.args.ledger.now.journal.log x.log) (sym wk.same.0) st.begun_is in
    let each : EachPair g.F.LogFile.unsynced (StandsFor (held_of c.args.ledger.now.journal.log)) (files_of c.args.ledger.now.journal.log) =
    subst (λ (l : LogView _). EachPair g.F.LogFile.unsynced (StandsFor (held_of l)) (files_of l)) c.log.ensures (c.is_closed.ensures.images tells c.if-is_closed.false) in
    let goes : IsSome (fold_of (index_in c.args.ledger.now.journal.log) h).begun → c.start.new.ledger.journal.log ≡ c.args.ledger.now.journal.log =
    λ s. c.start.ensures.goes_on sound h all (subst (λ (l : LogView _). IsSome (fold_of (index_in l) h).begun) (sym c.show_all.ensures.some.log) s) ∙ c.show_all.ensures.some.log in
    let run : Leaves g.F.LogFile h c.args.ledger.now.journal.log c.args.ledger.now.journal.log c.start.new.ledger.journal.log =
    while_starting g.F.LogFile h c.args.ledger.now.journal.log c.start.new.ledger.journal.log each goes
    (subst (λ (l : LogView _). LeavePairs g.F.LogFile.past g.F.LogFile.unsynced (files_of l) (files_of c.start.new.ledger.journal.log) (IsBeforeOrAfter (held_of l) (Begin 0 ∷ []))) c.show_all.ensures.some.log (c.start.ensures.during tells)) in
    let ran : Leaves g.F.LogFile h c.args.ledger.now.journal.log c.args.ledger.now.journal.log c.end_shown.new.ledger.journal.log =
    while_ending g.F.LogFile h c.args.ledger.now.journal.log c.work_out.new.ledger.journal.log c.end_shown.new.ledger.journal.log c.in_ok-done.done.order.number tells begun_is numbered
    (subst (λ (x : JournalView _ _). Leaves g.F.LogFile h c.args.ledger.now.journal.log c.args.ledger.now.journal.log x.log) (sym wk.same.0) run) (c.end_shown.ensures.during tells) in
    ran

pub returns-clause-during : goal.returns-clause-during
returns-clause-during g c sound h shown is was_open tells =
    let open_now : c.args.ledger.now.journal.log.is_closed ≡ false = ap (λ l. l.is_closed) (sym c.log.ensures) ∙ sym c.is_closed.ensures.closed ∙ c.if-is_closed.false in
    let all : IsIndexOf g.F.LogFile g.S.Sealed.tells g.S.Sealed.bytes g.V.Vault.held sound h h (kept_of c.show_all.new.journal c.args.ledger.now.stock c.show_all.new.view) =
    index_all g.F.LogFile g.S.Sealed.tells g.S.Sealed.bytes g.V.Vault.held sound h c.args.ledger.now.journal c.show_all.new.journal c.args.ledger.now.stock shown c.args.view.now c.show_all.new.view c.show_all.ensures.some (c.show_all.ensures.follows sound h shown is.follows) c.in_ok-show_all.ensures.shown is in
    let st : HasStarted g.F.LogFile g.S.Sealed.tells g.S.Sealed.bytes g.V.Vault.held g.V.Vault.faults g.E.Eye.faults sound h c.args.ledger.now.journal.log c.args.ledger.now.stock.tools (kept_of c.start.new.ledger.journal c.start.new.ledger.stock c.start.new.view) c.in_ok-job.job =
    subst (λ (l : LogView _). HasStarted g.F.LogFile g.S.Sealed.tells g.S.Sealed.bytes g.V.Vault.held g.V.Vault.faults g.E.Eye.faults sound h l c.args.ledger.now.stock.tools (kept_of c.start.new.ledger.journal c.start.new.ledger.stock c.start.new.view) c.in_ok-job.job) c.show_all.ensures.some.log (c.in_ok-job.ensures.started sound h all) in
    let wk : HasWorkedOut g.F.LogFile g.S.Sealed.tells g.S.Sealed.bytes g.V.Vault.held g.V.Vault.faults g.E.Eye.faults sound (begun (index_in c.args.ledger.now.journal.log) h) c.start.new.ledger.journal c.work_out.new.ledger.journal c.start.new.ledger.stock c.work_out.new.ledger.stock c.in_ok-job.job c.in_ok-done.done = c.in_ok-done.ensures.worked sound (begun (index_in c.args.ledger.now.journal.log) h) st.under_way.ledger st.under_way.job_is in
    let u : IsUnderWay g.F.LogFile g.S.Sealed.tells g.S.Sealed.bytes g.V.Vault.held g.V.Vault.faults g.E.Eye.faults sound (begun (index_in c.args.ledger.now.journal.log) h) (kept_of c.work_out.new.ledger.journal c.work_out.new.ledger.stock c.start.new.view) c.in_ok-done.done = record {
      follows = subst (λ (x : JournalView _ _). Follows g.F.LogFile g.S.Sealed.bytes sound (begun (index_in c.args.ledger.now.journal.log) h) (begun (index_in c.args.ledger.now.journal.log) h) x c.start.new.view) (sym wk.same.0) st.under_way.follows;
      ledger = subst (λ (s : StockView _ _ _). IsLedgerOf g.F.LogFile g.S.Sealed.tells g.S.Sealed.bytes g.V.Vault.held sound (begun (index_in c.args.ledger.now.journal.log) h) c.work_out.new.ledger.journal s) (sym wk.same.1) (subst (λ (x : JournalView _ _). IsLedgerOf g.F.LogFile g.S.Sealed.tells g.S.Sealed.bytes g.V.Vault.held sound (begun (index_in c.args.ledger.now.journal.log) h) x c.start.new.ledger.stock) (sym wk.same.0) st.under_way.ledger);
      out = ap (λ (s : StockView _ _ _). s.tools) wk.same.1 ∙ st.under_way.out;
      job_is = wk.job_is;
    } in
    let log3 : IsSameLog c.args.ledger.now.journal.log c.work_out.new.ledger.journal.log = subst (λ (x : JournalView _ _). IsSameLog c.args.ledger.now.journal.log x.log) (sym wk.same.0) (same_log_then c.args.ledger.now.journal.log c.show_all.new.journal.log c.start.new.ledger.journal.log (same_log_by c.args.ledger.now.journal.log c.show_all.new.journal.log c.show_all.ensures.some.log) c.start.ensures.same_log) in
    let numbered : c.in_ok-done.done.order.number ≡ segment_for (index_in c.args.ledger.now.journal.log) h =
    number_is (index_in c.args.ledger.now.journal.log) h c.in_ok-done.done.order (subst (λ (i : Index). IsJobOf i (begun (index_in c.args.ledger.now.journal.log) h) c.in_ok-done.done.order) (same_index c.args.ledger.now.journal.log c.work_out.new.ledger.journal.log log3.params log3.book) wk.job_is.of_begin) in
    let begun_is = subst (λ (x : JournalView _ _). IsBegun g.F.LogFile (index_in c.args.ledger.now.journal.log) h c.args.ledger.now.journal.log x.log) (sym wk.same.0) st.begun_is in
    let each : EachPair g.F.LogFile.unsynced (StandsFor (held_of c.args.ledger.now.journal.log)) (files_of c.args.ledger.now.journal.log) =
    subst (λ (l : LogView _). EachPair g.F.LogFile.unsynced (StandsFor (held_of l)) (files_of l)) c.log.ensures (c.is_closed.ensures.images tells c.if-is_closed.false) in
    let goes : IsSome (fold_of (index_in c.args.ledger.now.journal.log) h).begun → c.start.new.ledger.journal.log ≡ c.args.ledger.now.journal.log =
    λ s. c.start.ensures.goes_on sound h all (subst (λ (l : LogView _). IsSome (fold_of (index_in l) h).begun) (sym c.show_all.ensures.some.log) s) ∙ c.show_all.ensures.some.log in
    let run : Leaves g.F.LogFile h c.args.ledger.now.journal.log c.args.ledger.now.journal.log c.start.new.ledger.journal.log =
    while_starting g.F.LogFile h c.args.ledger.now.journal.log c.start.new.ledger.journal.log each goes
    (subst (λ (l : LogView _). LeavePairs g.F.LogFile.past g.F.LogFile.unsynced (files_of l) (files_of c.start.new.ledger.journal.log) (IsBeforeOrAfter (held_of l) (Begin 0 ∷ []))) c.show_all.ensures.some.log (c.start.ensures.during tells)) in
    let ran : Leaves g.F.LogFile h c.args.ledger.now.journal.log c.args.ledger.now.journal.log c.end_shown.new.ledger.journal.log =
    while_ending g.F.LogFile h c.args.ledger.now.journal.log c.work_out.new.ledger.journal.log c.end_shown.new.ledger.journal.log c.in_ok-done.done.order.number tells begun_is numbered
    (subst (λ (x : JournalView _ _). Leaves g.F.LogFile h c.args.ledger.now.journal.log c.args.ledger.now.journal.log x.log) (sym wk.same.0) run) (c.end_shown.ensures.during tells) in
    subst (λ (x : JournalView _ _). Leaves g.F.LogFile h c.args.ledger.now.journal.log c.args.ledger.now.journal.log x.log) (sym c.clear-removed.ensures.journal) ran

-- ---- the vault and the eyes

pub returns-then-is_closed-clause-devices : goal.returns-then-is_closed-clause-devices
returns-then-is_closed-clause-devices g c = devices_still g.V.Vault.faults g.E.Eye.reads g.E.Eye.faults c.args.ledger.now.stock.tools c.requires.list.3.in_hand

pub returns-in_err-show_all-clause-devices : goal.returns-in_err-show_all-clause-devices
returns-in_err-show_all-clause-devices g c = devices_still g.V.Vault.faults g.E.Eye.reads g.E.Eye.faults c.args.ledger.now.stock.tools c.requires.list.3.in_hand

pub returns-in_err-job-clause-devices : goal.returns-in_err-job-clause-devices
returns-in_err-job-clause-devices g c =
    subst (λ (s : StockView _ _ _). DevicesGoOn g.V.Vault.faults g.E.Eye.reads g.E.Eye.faults c.args.ledger.now.stock.tools s.tools) (sym c.in_err-job.ensures.taken)
    (devices_still g.V.Vault.faults g.E.Eye.reads g.E.Eye.faults c.args.ledger.now.stock.tools c.requires.list.3.in_hand)

pub returns-in_err-done-clause-devices : goal.returns-in_err-done-clause-devices
returns-in_err-done-clause-devices g c =
    devices_undone g.V.Vault.faults g.E.Eye.reads g.E.Eye.faults g.S.Sealed.tells g.S.Sealed.bytes c.args.ledger.now.stock c.start.new.ledger.stock c.work_out.new.ledger.stock c.in_ok-job.job c.in_err-done.field-0.0 c.in_ok-job.ensures.taken c.in_err-done.ensures.works

pub returns-in_err-merged-clause-devices : goal.returns-in_err-merged-clause-devices
returns-in_err-merged-clause-devices g c =
    devices_ended g.V.Vault.faults g.E.Eye.reads g.E.Eye.faults c.args.ledger.now.stock c.start.new.ledger.stock c.work_out.new.ledger.stock c.end_shown.new.ledger.stock c.in_ok-job.job c.in_ok-done.done (Err c.in_err-merged.field-0.0) c.in_ok-job.ensures.taken c.in_ok-done.ensures.works.0 c.in_err-merged.ensures.ends

pub returns-clause-devices : goal.returns-clause-devices
returns-clause-devices g c =
    devices_merged g.V.Vault.faults g.E.Eye.reads g.E.Eye.faults g.S.Sealed.tells g.V.Vault.held c.end_shown.new.ledger.journal.log c.args.ledger.now.stock c.start.new.ledger.stock c.work_out.new.ledger.stock c.end_shown.new.ledger.stock c.clear-removed.new.self.stock c.in_ok-job.job c.in_ok-done.done c.in_ok-merged.merged c.clear-removed.result c.in_ok-job.ensures.taken c.in_ok-done.ensures.works.0 c.in_ok-merged.ensures.ends c.clear-removed.ensures.cleared

-- ---- what is left

pub returns-in_err-job-clause-left : goal.returns-in_err-job-clause-left
returns-in_err-job-clause-left g c sound h shown is =
    let open_now : c.args.ledger.now.journal.log.is_closed ≡ false = ap (λ l. l.is_closed) (sym c.log.ensures) ∙ sym c.is_closed.ensures.closed ∙ c.if-is_closed.false in
    let all : IsIndexOf g.F.LogFile g.S.Sealed.tells g.S.Sealed.bytes g.V.Vault.held sound h h (kept_of c.show_all.new.journal c.args.ledger.now.stock c.show_all.new.view) =
    index_all g.F.LogFile g.S.Sealed.tells g.S.Sealed.bytes g.V.Vault.held sound h c.args.ledger.now.journal c.show_all.new.journal c.args.ledger.now.stock shown c.args.view.now c.show_all.new.view c.show_all.ensures.some (c.show_all.ensures.follows sound h shown is.follows) c.in_ok-show_all.ensures.shown is in
    let p = err_from_is_err_and c.from_residual-in_err-job.result c.from_residual-in_err-job.ensures.1 in
    subst (λ (r : Result Merged MergeRefused). LeavesBy g.F.LogFile h c.args.ledger.now.journal.log c.start.new.ledger.journal.log c.args.ledger.now.stock c.start.new.ledger.stock g.S.Sealed.tells g.S.Sealed.bytes g.V.Vault.held g.V.Vault.faults g.E.Eye.reads r) (sym (p.1 ∙ ap Err p.2))
    (left_untaken g.F.LogFile g.S.Sealed.tells g.S.Sealed.bytes g.V.Vault.held g.V.Vault.faults g.E.Eye.reads g.E.Eye.faults h c.args.ledger.now.journal.log c.start.new.ledger.journal.log c.args.ledger.now.stock c.start.new.ledger.stock c.in_err-job.field-0.0
    (subst (λ (l : LogView _). IsUntaken g.F.LogFile h l c.start.new.ledger.journal.log c.in_err-job.field-0.0) c.show_all.ensures.some.log (c.in_err-job.ensures.untaken sound h all)) c.in_err-job.ensures.taken)

pub returns-in_err-done-clause-left : goal.returns-in_err-done-clause-left
returns-in_err-done-clause-left g c sound h shown is =
    let open_now : c.args.ledger.now.journal.log.is_closed ≡ false = ap (λ l. l.is_closed) (sym c.log.ensures) ∙ sym c.is_closed.ensures.closed ∙ c.if-is_closed.false in
    let all : IsIndexOf g.F.LogFile g.S.Sealed.tells g.S.Sealed.bytes g.V.Vault.held sound h h (kept_of c.show_all.new.journal c.args.ledger.now.stock c.show_all.new.view) =
    index_all g.F.LogFile g.S.Sealed.tells g.S.Sealed.bytes g.V.Vault.held sound h c.args.ledger.now.journal c.show_all.new.journal c.args.ledger.now.stock shown c.args.view.now c.show_all.new.view c.show_all.ensures.some (c.show_all.ensures.follows sound h shown is.follows) c.in_ok-show_all.ensures.shown is in
    let st : HasStarted g.F.LogFile g.S.Sealed.tells g.S.Sealed.bytes g.V.Vault.held g.V.Vault.faults g.E.Eye.faults sound h c.args.ledger.now.journal.log c.args.ledger.now.stock.tools (kept_of c.start.new.ledger.journal c.start.new.ledger.stock c.start.new.view) c.in_ok-job.job =
    subst (λ (l : LogView _). HasStarted g.F.LogFile g.S.Sealed.tells g.S.Sealed.bytes g.V.Vault.held g.V.Vault.faults g.E.Eye.faults sound h l c.args.ledger.now.stock.tools (kept_of c.start.new.ledger.journal c.start.new.ledger.stock c.start.new.view) c.in_ok-job.job) c.show_all.ensures.some.log (c.in_ok-job.ensures.started sound h all) in
    let w = c.in_err-done.ensures.worked sound (begun (index_in c.args.ledger.now.journal.log) h) st.under_way.ledger st.under_way.job_is in
    let log2 : IsSameLog c.args.ledger.now.journal.log c.start.new.ledger.journal.log = same_log_then c.args.ledger.now.journal.log c.show_all.new.journal.log c.start.new.ledger.journal.log (same_log_by c.args.ledger.now.journal.log c.show_all.new.journal.log c.show_all.ensures.some.log) c.start.ensures.same_log in
    let p = err_from_is_err_and c.from_residual-in_err-done.result c.from_residual-in_err-done.ensures.1 in
    subst (λ (r : Result Merged MergeRefused). LeavesBy g.F.LogFile h c.args.ledger.now.journal.log c.work_out.new.ledger.journal.log c.args.ledger.now.stock c.work_out.new.ledger.stock g.S.Sealed.tells g.S.Sealed.bytes g.V.Vault.held g.V.Vault.faults g.E.Eye.reads r) (sym (p.1 ∙ ap Err p.2))
    (left_undone g.F.LogFile g.S.Sealed.tells g.S.Sealed.bytes g.V.Vault.held g.V.Vault.faults g.E.Eye.reads g.E.Eye.faults h c.args.ledger.now.journal.log c.work_out.new.ledger.journal.log c.args.ledger.now.stock c.work_out.new.ledger.stock c.start.new.ledger.stock c.in_ok-job.job c.in_ok-job.ensures.taken
    (subst (λ (x : JournalView _ _). IsBegun g.F.LogFile (index_in c.args.ledger.now.journal.log) h c.args.ledger.now.journal.log x.log) (sym w.same) st.begun_is)
    (subst (λ (i : Index). IsJobOf i (begun (index_in c.args.ledger.now.journal.log) h) c.in_ok-job.job.order) (same_index c.args.ledger.now.journal.log c.start.new.ledger.journal.log log2.params log2.book) st.under_way.job_is.of_begin)
    c.in_err-done.field-0.0 c.in_err-done.ensures.works)

pub returns-in_err-merged-clause-left : goal.returns-in_err-merged-clause-left
returns-in_err-merged-clause-left g c sound h shown is =
    let open_now : c.args.ledger.now.journal.log.is_closed ≡ false = ap (λ l. l.is_closed) (sym c.log.ensures) ∙ sym c.is_closed.ensures.closed ∙ c.if-is_closed.false in
    let all : IsIndexOf g.F.LogFile g.S.Sealed.tells g.S.Sealed.bytes g.V.Vault.held sound h h (kept_of c.show_all.new.journal c.args.ledger.now.stock c.show_all.new.view) =
    index_all g.F.LogFile g.S.Sealed.tells g.S.Sealed.bytes g.V.Vault.held sound h c.args.ledger.now.journal c.show_all.new.journal c.args.ledger.now.stock shown c.args.view.now c.show_all.new.view c.show_all.ensures.some (c.show_all.ensures.follows sound h shown is.follows) c.in_ok-show_all.ensures.shown is in
    let st : HasStarted g.F.LogFile g.S.Sealed.tells g.S.Sealed.bytes g.V.Vault.held g.V.Vault.faults g.E.Eye.faults sound h c.args.ledger.now.journal.log c.args.ledger.now.stock.tools (kept_of c.start.new.ledger.journal c.start.new.ledger.stock c.start.new.view) c.in_ok-job.job =
    subst (λ (l : LogView _). HasStarted g.F.LogFile g.S.Sealed.tells g.S.Sealed.bytes g.V.Vault.held g.V.Vault.faults g.E.Eye.faults sound h l c.args.ledger.now.stock.tools (kept_of c.start.new.ledger.journal c.start.new.ledger.stock c.start.new.view) c.in_ok-job.job) c.show_all.ensures.some.log (c.in_ok-job.ensures.started sound h all) in
    let wk : HasWorkedOut g.F.LogFile g.S.Sealed.tells g.S.Sealed.bytes g.V.Vault.held g.V.Vault.faults g.E.Eye.faults sound (begun (index_in c.args.ledger.now.journal.log) h) c.start.new.ledger.journal c.work_out.new.ledger.journal c.start.new.ledger.stock c.work_out.new.ledger.stock c.in_ok-job.job c.in_ok-done.done = c.in_ok-done.ensures.worked sound (begun (index_in c.args.ledger.now.journal.log) h) st.under_way.ledger st.under_way.job_is in
    let u : IsUnderWay g.F.LogFile g.S.Sealed.tells g.S.Sealed.bytes g.V.Vault.held g.V.Vault.faults g.E.Eye.faults sound (begun (index_in c.args.ledger.now.journal.log) h) (kept_of c.work_out.new.ledger.journal c.work_out.new.ledger.stock c.start.new.view) c.in_ok-done.done = record {
      follows = subst (λ (x : JournalView _ _). Follows g.F.LogFile g.S.Sealed.bytes sound (begun (index_in c.args.ledger.now.journal.log) h) (begun (index_in c.args.ledger.now.journal.log) h) x c.start.new.view) (sym wk.same.0) st.under_way.follows;
      ledger = subst (λ (s : StockView _ _ _). IsLedgerOf g.F.LogFile g.S.Sealed.tells g.S.Sealed.bytes g.V.Vault.held sound (begun (index_in c.args.ledger.now.journal.log) h) c.work_out.new.ledger.journal s) (sym wk.same.1) (subst (λ (x : JournalView _ _). IsLedgerOf g.F.LogFile g.S.Sealed.tells g.S.Sealed.bytes g.V.Vault.held sound (begun (index_in c.args.ledger.now.journal.log) h) x c.start.new.ledger.stock) (sym wk.same.0) st.under_way.ledger);
      out = ap (λ (s : StockView _ _ _). s.tools) wk.same.1 ∙ st.under_way.out;
      job_is = wk.job_is;
    } in
    let log3 : IsSameLog c.args.ledger.now.journal.log c.work_out.new.ledger.journal.log = subst (λ (x : JournalView _ _). IsSameLog c.args.ledger.now.journal.log x.log) (sym wk.same.0) (same_log_then c.args.ledger.now.journal.log c.show_all.new.journal.log c.start.new.ledger.journal.log (same_log_by c.args.ledger.now.journal.log c.show_all.new.journal.log c.show_all.ensures.some.log) c.start.ensures.same_log) in
    let numbered : c.in_ok-done.done.order.number ≡ segment_for (index_in c.args.ledger.now.journal.log) h =
    number_is (index_in c.args.ledger.now.journal.log) h c.in_ok-done.done.order (subst (λ (i : Index). IsJobOf i (begun (index_in c.args.ledger.now.journal.log) h) c.in_ok-done.done.order) (same_index c.args.ledger.now.journal.log c.work_out.new.ledger.journal.log log3.params log3.book) wk.job_is.of_begin) in
    let begun_is = subst (λ (x : JournalView _ _). IsBegun g.F.LogFile (index_in c.args.ledger.now.journal.log) h c.args.ledger.now.journal.log x.log) (sym wk.same.0) st.begun_is in
    let out : IsOut c.args.ledger.now.stock c.work_out.new.ledger.stock c.in_ok-job.job = subst (λ (s : StockView _ _ _). IsOut c.args.ledger.now.stock s c.in_ok-job.job) (sym wk.same.1) c.in_ok-job.ensures.taken in
    let of_begin : IsJobOf (index_in c.args.ledger.now.journal.log) (begun (index_in c.args.ledger.now.journal.log) h) c.in_ok-done.done.order = subst (λ (i : Index). IsJobOf i (begun (index_in c.args.ledger.now.journal.log) h) c.in_ok-done.done.order) (same_index c.args.ledger.now.journal.log c.work_out.new.ledger.journal.log log3.params log3.book) wk.job_is.of_begin in
    let p = err_from_is_err_and c.from_residual-in_err-merged.result c.from_residual-in_err-merged.ensures.1 in
    subst (λ (r : Result Merged MergeRefused). LeavesBy g.F.LogFile h c.args.ledger.now.journal.log c.end_shown.new.ledger.journal.log c.args.ledger.now.stock c.end_shown.new.ledger.stock g.S.Sealed.tells g.S.Sealed.bytes g.V.Vault.held g.V.Vault.faults g.E.Eye.reads r) (sym (p.1 ∙ ap Err p.2))
    (left_unended g.F.LogFile g.S.Sealed.tells g.S.Sealed.bytes g.V.Vault.held g.V.Vault.faults g.E.Eye.reads g.E.Eye.faults sound h c.args.ledger.now.journal.log c.args.ledger.now.stock c.work_out.new.ledger.stock c.in_ok-job.job c.in_ok-done.done out of_begin (kept_of c.work_out.new.ledger.journal c.work_out.new.ledger.stock c.start.new.view) (kept_of c.end_shown.new.ledger.journal c.end_shown.new.ledger.stock c.end_shown.new.view) begun_is numbered wk.done c.end_shown.ensures.during c.in_err-merged.field-0.0
    (c.in_err-merged.ensures.ended sound (begun (index_in c.args.ledger.now.journal.log) h) u) c.in_err-merged.ensures.ends)

pub returns-clause-left : goal.returns-clause-left
returns-clause-left g c sound h shown is =
    let open_now : c.args.ledger.now.journal.log.is_closed ≡ false = ap (λ l. l.is_closed) (sym c.log.ensures) ∙ sym c.is_closed.ensures.closed ∙ c.if-is_closed.false in
    let all : IsIndexOf g.F.LogFile g.S.Sealed.tells g.S.Sealed.bytes g.V.Vault.held sound h h (kept_of c.show_all.new.journal c.args.ledger.now.stock c.show_all.new.view) =
    index_all g.F.LogFile g.S.Sealed.tells g.S.Sealed.bytes g.V.Vault.held sound h c.args.ledger.now.journal c.show_all.new.journal c.args.ledger.now.stock shown c.args.view.now c.show_all.new.view c.show_all.ensures.some (c.show_all.ensures.follows sound h shown is.follows) c.in_ok-show_all.ensures.shown is in
    let st : HasStarted g.F.LogFile g.S.Sealed.tells g.S.Sealed.bytes g.V.Vault.held g.V.Vault.faults g.E.Eye.faults sound h c.args.ledger.now.journal.log c.args.ledger.now.stock.tools (kept_of c.start.new.ledger.journal c.start.new.ledger.stock c.start.new.view) c.in_ok-job.job =
    subst (λ (l : LogView _). HasStarted g.F.LogFile g.S.Sealed.tells g.S.Sealed.bytes g.V.Vault.held g.V.Vault.faults g.E.Eye.faults sound h l c.args.ledger.now.stock.tools (kept_of c.start.new.ledger.journal c.start.new.ledger.stock c.start.new.view) c.in_ok-job.job) c.show_all.ensures.some.log (c.in_ok-job.ensures.started sound h all) in
    let wk : HasWorkedOut g.F.LogFile g.S.Sealed.tells g.S.Sealed.bytes g.V.Vault.held g.V.Vault.faults g.E.Eye.faults sound (begun (index_in c.args.ledger.now.journal.log) h) c.start.new.ledger.journal c.work_out.new.ledger.journal c.start.new.ledger.stock c.work_out.new.ledger.stock c.in_ok-job.job c.in_ok-done.done = c.in_ok-done.ensures.worked sound (begun (index_in c.args.ledger.now.journal.log) h) st.under_way.ledger st.under_way.job_is in
    let u : IsUnderWay g.F.LogFile g.S.Sealed.tells g.S.Sealed.bytes g.V.Vault.held g.V.Vault.faults g.E.Eye.faults sound (begun (index_in c.args.ledger.now.journal.log) h) (kept_of c.work_out.new.ledger.journal c.work_out.new.ledger.stock c.start.new.view) c.in_ok-done.done = record {
      follows = subst (λ (x : JournalView _ _). Follows g.F.LogFile g.S.Sealed.bytes sound (begun (index_in c.args.ledger.now.journal.log) h) (begun (index_in c.args.ledger.now.journal.log) h) x c.start.new.view) (sym wk.same.0) st.under_way.follows;
      ledger = subst (λ (s : StockView _ _ _). IsLedgerOf g.F.LogFile g.S.Sealed.tells g.S.Sealed.bytes g.V.Vault.held sound (begun (index_in c.args.ledger.now.journal.log) h) c.work_out.new.ledger.journal s) (sym wk.same.1) (subst (λ (x : JournalView _ _). IsLedgerOf g.F.LogFile g.S.Sealed.tells g.S.Sealed.bytes g.V.Vault.held sound (begun (index_in c.args.ledger.now.journal.log) h) x c.start.new.ledger.stock) (sym wk.same.0) st.under_way.ledger);
      out = ap (λ (s : StockView _ _ _). s.tools) wk.same.1 ∙ st.under_way.out;
      job_is = wk.job_is;
    } in
    let log3 : IsSameLog c.args.ledger.now.journal.log c.work_out.new.ledger.journal.log = subst (λ (x : JournalView _ _). IsSameLog c.args.ledger.now.journal.log x.log) (sym wk.same.0) (same_log_then c.args.ledger.now.journal.log c.show_all.new.journal.log c.start.new.ledger.journal.log (same_log_by c.args.ledger.now.journal.log c.show_all.new.journal.log c.show_all.ensures.some.log) c.start.ensures.same_log) in
    let numbered : c.in_ok-done.done.order.number ≡ segment_for (index_in c.args.ledger.now.journal.log) h =
    number_is (index_in c.args.ledger.now.journal.log) h c.in_ok-done.done.order (subst (λ (i : Index). IsJobOf i (begun (index_in c.args.ledger.now.journal.log) h) c.in_ok-done.done.order) (same_index c.args.ledger.now.journal.log c.work_out.new.ledger.journal.log log3.params log3.book) wk.job_is.of_begin) in
    let begun_is = subst (λ (x : JournalView _ _). IsBegun g.F.LogFile (index_in c.args.ledger.now.journal.log) h c.args.ledger.now.journal.log x.log) (sym wk.same.0) st.begun_is in
    let out : IsOut c.args.ledger.now.stock c.work_out.new.ledger.stock c.in_ok-job.job = subst (λ (s : StockView _ _ _). IsOut c.args.ledger.now.stock s c.in_ok-job.job) (sym wk.same.1) c.in_ok-job.ensures.taken in
    let of_begin : IsJobOf (index_in c.args.ledger.now.journal.log) (begun (index_in c.args.ledger.now.journal.log) h) c.in_ok-done.done.order = subst (λ (i : Index). IsJobOf i (begun (index_in c.args.ledger.now.journal.log) h) c.in_ok-done.done.order) (same_index c.args.ledger.now.journal.log c.work_out.new.ledger.journal.log log3.params log3.book) wk.job_is.of_begin in
    left_merged g.F.LogFile g.S.Sealed.tells g.S.Sealed.bytes g.V.Vault.held g.V.Vault.faults g.E.Eye.reads g.E.Eye.faults h c.args.ledger.now.journal.log c.clear-removed.new.self.journal.log c.args.ledger.now.stock c.clear-removed.new.self.stock c.work_out.new.ledger.stock c.in_ok-job.job c.in_ok-done.done out of_begin c.in_ok-merged.merged c.end_shown.new.ledger.stock c.clear-removed.result c.in_ok-merged.ensures.ends
    (subst (λ (x : JournalView _ _). IsClearing g.S.Sealed.tells g.V.Vault.held g.V.Vault.faults x.log c.end_shown.new.ledger.stock c.clear-removed.new.self.stock c.clear-removed.result) (sym c.clear-removed.ensures.journal) c.clear-removed.ensures.cleared)
