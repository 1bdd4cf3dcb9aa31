-- What a merge leaves where it begins.
use Rattle.std.proofs.Common.{◌≡◌, ◌∙◌, ℕ, Bool, true, false, List, [], ◌∷◌, inl, ap, subst, sym}
use Rattle.std.specs.Prelude.{IsSome, Option, None, Result, Ok, Err, is_some}
use Rattle.std.proofs.lemmas.Bool.{false≢true}
use Rattle.ann_types.specs.Fold.{Begun, fold_of}
use Rattle.ann_types.specs.Lists.{BasedList, length_of, with_entry}
use Rattle.ann_types.specs.declared.entry.Entry.TheVariants.{Begin}
use Rattle.ann_account.specs.Steps.{StillLead}
use Rattle.ann_disk.specs.declared.file.LogFile.{Ghosts}
use Rattle.ann_log.specs.Appended.{HasAppended, IsSameLog}
use Rattle.ann_log.specs.LogView.{LogView}
use Rattle.ann_vault.specs.Held.{Holding}
use Rattle.ann_view.specs.View.{IndexView}
use Rattle.ann_journal.specs.Journal.{JournalView, IsJournalOf, index_in}
use Rattle.ann_journal.specs.declared.refused.Receipt.{Receipt}
use Rattle.ann_stock.specs.Stock.{StockView, ToolsView}
use Rattle.ann_ledger.specs.Ledger.{IsLedgerOf}
use Rattle.ann_ledger.specs.Merging as ledger
use Rattle.ann_ledger.specs.declared.refused.Unopened.{Unopened}
use Rattle.ann_ledger.specs.declared.refused.Unopened.TheVariants as opening
use Rattle.ann_index.specs.Index.{IsIndexFrom, IsIndexOf, kept_of}
use Rattle.ann_index.specs.Merged as mine
use Rattle.ann_index.specs.Merged.{begun, begun_by}
use Rattle.ann_index.specs.Steps.{HasOpened, WasOpen}
use Rattle.ann_index.specs.declared.refusal.MergeRefused.TheVariants.{Nothing, Memory, LogFault, MemoryLogged}
use Rattle.ann_index.proofs.Following.{follows_logged, follows_still}
use Rattle.ann_index.proofs.Shown.{begins_self}
use Rattle.ann_index.proofs.Updating.{same_log_by}

-- opening a merge leaves the same log
pub opens_log : {F S : Type 0} (D : Ghosts F) (h : BasedList) (by : ℕ) (j j' : JournalView F S) (r : Result Bool Unopened) → ledger.IsOpening D h by j j' r → IsSameLog j.log j'.log
opens_log D h by j j' (Ok false) w = same_log_by j.log j'.log (ap (λ (x : JournalView _ _). x.log) w.same)
opens_log D h by j j' (Ok true) w = w.logged.same_log
opens_log D h by j j' (Err (opening.Nothing at)) w = same_log_by j.log j'.log (ap (λ (x : JournalView _ _). x.log) w.same)
opens_log D h by j j' (Err opening.Memory) w = same_log_by j.log j'.log w.untouched.log
opens_log D h by j j' (Err opening.LogFault) w = w.unlogged.same_log

module _ {F V E S : Type 0} (D : Ghosts F) (tells : Type 0) (bytes : S → List ℕ) (held : V → Holding) (vault_faults : V → ℕ) (eye_faults : E → ℕ) (sound : Bool) (h : BasedList) (j j2 : JournalView F S) (stock : StockView V E S) (tools : ToolsView V E S) (view : IndexView S) (open_now : j.log.is_closed ≡ false) (all : IsIndexOf D tells bytes held sound h h (kept_of j stock view)) where
  still : IsSameLog j.log j2.log → IsJournalOf D h j2 → j2.account.waiting ≡ j.account.waiting → IsLedgerOf D tells bytes held sound h j2 stock → IsIndexOf D tells bytes held sound h h (kept_of j2 stock view)
  still same is waiting l = record {
    follows = follows_still D bytes sound h j j2 view same.params same.book h is waiting all.follows;
    ledger = l;
    in_hand = all.in_hand;
  }

  unmoved : j2 ≡ j → IsIndexOf D tells bytes held sound h h (kept_of j2 stock view)
  unmoved same = subst (λ (x : JournalView F S). IsIndexOf D tells bytes held sound h h (kept_of x stock view)) (sym same) all

  pub was_open : ledger.WasOpen D h 0 j j2 → WasOpen D tells bytes held vault_faults eye_faults sound h j.log (kept_of j2 stock view)
  was_open w = record { open_merge = w.open_merge; same_log = ap (λ (x : JournalView F S). x.log) w.same; index = unmoved w.same }

  pub idle : (at : ℕ) → ledger.IsIdle D h 0 j j2 at → mine.IsRefused D tells bytes held vault_faults eye_faults sound h h j.log tools (kept_of j2 stock view) (Nothing at)
  idle at w = record { open_now = open_now; none = w.none; no_work = w.no_work; place = w.place; same_log = ap (λ (x : JournalView F S). x.log) w.same; index = unmoved w.same }

  pub wanting : ledger.IsUnlogged D h 0 j j2 → IsLedgerOf D tells bytes held sound h j2 stock → mine.IsRefused D tells bytes held vault_faults eye_faults sound h h j.log tools (kept_of j2 stock view) Memory
  wanting w l = record {
    open_now = open_now;
    left = inl (w.untouched.log, record { later = h; on = begins_self h; index = still (same_log_by j.log j2.log w.untouched.log) w.untouched.journal_is w.untouched.account.waiting l });
  }

  pub failing : ledger.HasFailed D h 0 j j2 → IsLedgerOf D tells bytes held sound h j2 stock → mine.IsRefused D tells bytes held vault_faults eye_faults sound h h j.log tools (kept_of j2 stock view) LogFault
  failing w l = record {
    open_before = open_now;
    closed = w.unlogged.closed;
    left = inl (record { may = record { none = w.may.none; work = w.may.work }; unlogged = w.unlogged.log }, still w.unlogged.same_log w.unlogged.journal_is w.unlogged.account.waiting l);
  }

  -- the Begin is logged
  module _ (w : ledger.HasOpened D h 0 j j2) (brings : StillLead bytes (index_in j.log) h (Begin 0 ∷ []) j.account j2.account) (l : IsLedgerOf D tells bytes held sound (with_entry h (Begin 0)) j2 stock) where
    pub is_begun : begun (index_in j.log) h ≡ with_entry h (Begin 0)
    is_begun = ap (λ (o : Option Begun). begun_by o h) w.may.none

    pub index_begun : IsIndexOf D tells bytes held sound (with_entry h (Begin 0)) h (kept_of j2 stock view)
    index_begun = record {
      follows = follows_logged D bytes sound h h (Begin 0 ∷ []) j j2 view w.logged.same_log.params w.logged.same_log.book w.logged.journal_is w.logged.noted.leads (λ t. brings) all.follows;
      ledger = l;
      in_hand = all.in_hand;
    }

    module _ (j3 : JournalView F S) (view2 : IndexView S) (log3 : j3.log ≡ j2.log) where
      pub has_begun : mine.HasBegun D (index_in j.log) h j.log j3.log
      has_begun = record {
        may = record { none = w.may.none; work = w.may.work };
        open_now = subst (λ (x : LogView F). x.is_closed ≡ false) (sym log3) w.logged.open_now;
        appended = subst (λ x. HasAppended D j.log (Begin 0 ∷ []) x) (sym log3) w.logged.log;
      }

      pub opened : IsIndexOf D tells bytes held sound (with_entry h (Begin 0)) (with_entry h (Begin 0)) (kept_of j3 stock view2) → HasOpened D tells bytes held vault_faults eye_faults sound h j.log (kept_of j3 stock view2)
      opened is = record {
        begun_is = has_begun;
        open_now = subst (λ (x : LogView F). x.is_closed ≡ false) (sym log3) w.logged.open_now;
        index = subst (λ (g : BasedList). IsIndexOf D tells bytes held sound g g (kept_of j3 stock view2)) (sym is_begun) is;
      }

      pub unshown : (receipt : Receipt) → receipt.at ≡ length_of (with_entry h (Begin 0)) → IsIndexFrom D tells bytes held sound (with_entry h (Begin 0)) h (kept_of j3 stock view2) → mine.IsRefused D tells bytes held vault_faults eye_faults sound h h j.log tools (kept_of j3 stock view2) (MemoryLogged receipt)
      unshown receipt place is = (
        open_now,
        inl (record {
          logged = has_begun;
          place = place ∙ ap length_of (sym is_begun);
          index = subst (λ (g : BasedList). IsIndexFrom D tells bytes held sound g h (kept_of j3 stock view2)) (sym is_begun) is;
        }),
      )

-- where a merge is open, opening one leaves the log
module _ {F S : Type 0} (D : Ghosts F) (h : BasedList) (by : ℕ) (j j' : JournalView F S) (some : IsSome (fold_of (index_in j.log) h).begun) where
  none_open : (fold_of (index_in j.log) h).begun ≡ None → ⊥
  none_open none = false≢true (sym (ap (λ (o : Option Begun). is_some o) none) ∙ some)

  pub open_keeps : (r : Result Bool Unopened) → ledger.IsOpening D h by j j' r → j'.log ≡ j.log
  open_keeps (Ok false) w = ap (λ (x : JournalView F S). x.log) w.same
  open_keeps (Ok true) w = absurd (none_open w.may.none)
  open_keeps (Err (opening.Nothing at)) w = ap (λ (x : JournalView F S). x.log) w.same
  open_keeps (Err opening.Memory) w = w.untouched.log
  open_keeps (Err opening.LogFault) w = absurd (none_open w.may.none)
