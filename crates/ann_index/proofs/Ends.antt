-- What a merge leaves where it ends.
use Rattle.std.proofs.Common.{◌≡◌, ◌∙◌, ℕ, Bool, false, List, [], ◌∷◌, ap, subst, sym}
use Rattle.std.specs.Prelude.{IsTrue, Err}
use Rattle.std.proofs.lemmas.Bool.{false≢true}
use Rattle.ann_types.specs.Lists.{BasedList, with_entry}
use Rattle.ann_types.specs.declared.entry.Entry.TheVariants.{End}
use Rattle.ann_account.specs.Steps.{StillLead}
use Rattle.ann_disk.specs.declared.file.LogFile.{Ghosts}
use Rattle.ann_log.specs.Appended.{HasAppended, IsSameLog}
use Rattle.ann_log.specs.LogView.{LogView}
use Rattle.ann_vault.specs.Held.{Holding}
use Rattle.ann_view.specs.View.{IndexView}
use Rattle.ann_merge.specs.Job.{JobView}
use Rattle.ann_journal.specs.Journal.{JournalView, IsJournalOf, index_in}
use Rattle.ann_journal.specs.declared.refused.Receipt.{Receipt}
use Rattle.ann_stock.specs.Stock.{StockView, ToolsView, AtHand, GivenBack, Out, IsAtHand}
use Rattle.ann_ledger.specs.Ledger.{IsLedgerOf}
use Rattle.ann_ledger.specs.Merging as ledger
use Rattle.ann_ledger.specs.declared.refused.FinishWhy.{FinishWhy}
use Rattle.ann_ledger.specs.declared.refused.FinishWhy.TheVariants as ending
use Rattle.ann_index.specs.Index.{IsIndexFrom, IsIndexOf, kept_of}
use Rattle.ann_index.specs.Refusals.{of_finish}
use Rattle.ann_index.specs.Steps as mine
use Rattle.ann_index.specs.Steps.{IsFinish, IsUnderWay}
use Rattle.ann_index.specs.declared.refusal.Merged.{Merged}
use Rattle.ann_index.proofs.Following.{follows_logged, follows_still}
use Rattle.ann_index.proofs.Updating.{same_log_by}

at_hand_in : {V E S : Type 0} (tools : ToolsView V E S) (vault : V) (eyes : List E) → tools ≡ AtHand vault eyes → tools ≡ Out → ⊥
at_hand_in tools vault eyes is out = cc

given_back_in : {V E S : Type 0} (tools : ToolsView V E S) (job : JobView V E S) → tools ≡ GivenBack job → tools ≡ Out → ⊥
given_back_in tools job is out = cc

module _ {F V E S : Type 0} (D : Ghosts F) (h : BasedList) (job : JobView V E S) (j j2 : JournalView F S) (stock stock2 : StockView V E S) where
  -- a refusal leaves the tools where they were, and the same log
  pub tools_kept : (why : FinishWhy) → ledger.IsUnfinished D h 0 job j j2 stock stock2 why → stock2.tools ≡ stock.tools
  tools_kept (ending.Stopped at) w = ap (λ (s : StockView V E S). s.tools) w.stock
  tools_kept ending.Memory w = w.stock.tools
  tools_kept ending.LogFault w = w.stock.tools

  pub refuses_log : (why : FinishWhy) → ledger.IsUnfinished D h 0 job j j2 stock stock2 why → IsSameLog j.log j2.log
  refuses_log (ending.Stopped at) w = same_log_by j.log j2.log (ap (λ (x : JournalView F S). x.log) w.journal)
  refuses_log ending.Memory w = same_log_by j.log j2.log w.untouched.log
  refuses_log ending.LogFault w = w.unlogged.same_log

module _ {F V E S : Type 0} (D : Ghosts F) (tells : Type 0) (bytes : S → List ℕ) (held : V → Holding) (vault_faults : V → ℕ) (eye_faults : E → ℕ) (sound : Bool) (h : BasedList) (job : JobView V E S) (j j2 : JournalView F S) (stock stock2 : StockView V E S) (view : IndexView S) (open_now : j.log.is_closed ≡ false) (u : IsUnderWay D tells bytes held vault_faults eye_faults sound h (kept_of j stock view) job) where
  -- the End is logged
  module _ (receipt : Receipt) (w : ledger.HasFinished D h 0 job j j2 stock stock2 receipt) where
    pub index_ended : (IsTrue sound → StillLead bytes (index_in j.log) h (End 0 job.order.number ∷ []) j.account j2.account) → IsLedgerOf D tells bytes held sound (with_entry h (End 0 job.order.number)) j2 stock2 → IsIndexOf D tells bytes held sound (with_entry h (End 0 job.order.number)) h (kept_of j2 stock2 view)
    index_ended brings l = record {
      follows = follows_logged D bytes sound h h (End 0 job.order.number ∷ []) j j2 view w.logged.same_log.params w.logged.same_log.book w.logged.journal_is w.logged.noted.leads brings u.follows;
      ledger = l;
      in_hand = at_hand_in stock2.tools job.vault job.eyes w.tools;
    }

    module _ (j3 : JournalView F S) (view2 : IndexView S) (log3 : j3.log ≡ j2.log) where
      stored : HasAppended D j.log (End 0 job.order.number ∷ []) j3.log
      stored = subst (λ x. HasAppended D j.log (End 0 job.order.number ∷ []) x) (sym log3) w.logged.log

      pub finished : (merged : Merged) → merged.segment ≡ job.order.number → merged.at ≡ receipt.at → IsIndexOf D tells bytes held sound (with_entry h (End 0 job.order.number)) (with_entry h (End 0 job.order.number)) (kept_of j3 stock2 view2) → mine.HasFinished D tells bytes held vault_faults eye_faults sound h job.order.number (kept_of j stock view) (kept_of j3 stock2 view2) merged
      finished merged segment at is = record {
        appended = stored;
        open_now = subst (λ (x : LogView F). x.is_closed ≡ false) (sym log3) w.logged.open_now;
        segment = segment;
        place = at ∙ w.place;
        at_hand = subst IsAtHand (sym w.tools) tt;
        index = is;
      }

      pub unshown : IsIndexFrom D tells bytes held sound (with_entry h (End 0 job.order.number)) h (kept_of j3 stock2 view2) → mine.IsFinishUnshown D tells bytes held vault_faults eye_faults sound h job.order.number (kept_of j stock view) (kept_of j3 stock2 view2) receipt
      unshown is = record { appended = stored; place = w.place; open_now = subst (λ (x : LogView F). x.is_closed ≡ false) (sym log3) w.logged.open_now; index = is }

  -- it isn't, and the job is given back
  module _ (stock3 : StockView V E S) (given : stock3.tools ≡ GivenBack job) (l : IsLedgerOf D tells bytes held sound h j2 stock3) where
    still : IsSameLog j.log j2.log → IsJournalOf D h j2 → j2.account.waiting ≡ j.account.waiting → IsIndexOf D tells bytes held sound h h (kept_of j2 stock3 view)
    still same is waiting = record {
      follows = follows_still D bytes sound h j j2 view same.params same.book h is waiting u.follows;
      ledger = l;
      in_hand = given_back_in stock3.tools job given;
    }

    pub unfinished : (why : FinishWhy) → ledger.IsUnfinished D h 0 job j j2 stock stock2 why → IsFinish D tells bytes held vault_faults eye_faults sound h job.order.number (kept_of j stock view) (kept_of j2 stock3 view) (Err (of_finish why))
    unfinished (ending.Stopped at) w = absurd (false≢true (sym open_now ∙ w.closed))
    unfinished ending.Memory w = record { log = w.untouched.log; index = still (same_log_by j.log j2.log w.untouched.log) w.untouched.journal_is w.untouched.account.waiting }
    unfinished ending.LogFault w = record { unlogged = w.unlogged.log; closed = w.unlogged.closed; index = still w.unlogged.same_log w.unlogged.journal_is w.unlogged.account.waiting }
