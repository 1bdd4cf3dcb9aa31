-- A merge, by its steps.
use Rattle.std.proofs.Common.{◌≡◌, ◌∙◌, ◌+◌, ◌*◌, ℕ, Bool, true, false, List, [], ◌∷◌, inl, inr, refl, ap, subst, sym}
use Rattle.std.specs.Prelude.{Option, Some, None, Err}
use Rattle.ann_types.specs.Fold.{Begun, State, fold_of, step}
use Rattle.ann_types.specs.Index.{Index}
use Rattle.ann_types.specs.Lists.{BasedList, BeginsWith, length_of, with_entry}
use Rattle.ann_types.specs.declared.entry.Entry.TheVariants.{Begin, End}
use Rattle.ann_types.proofs.Folds.{fold_push}
use Rattle.ann_disk.specs.declared.file.LogFile.{Ghosts}
use Rattle.ann_log.specs.Appended.{HasAppended}
use Rattle.ann_log.specs.LogView.{LogView}
use Rattle.ann_vault.specs.Held.{Holding}
use Rattle.ann_view.specs.View.{IndexView}
use Rattle.ann_merge.specs.Job.{JobView, Order}
use Rattle.ann_mbegin.specs.Begun.{IsJobOf}
use Rattle.ann_journal.specs.Journal.{JournalView, index_in}
use Rattle.ann_showing.specs.Showing.{Follows}
use Rattle.ann_stock.specs.Stock.{StockView, ToolsView, AtHand, GivenBack, Out, IsAtHand, parts_in}
use Rattle.ann_ledger.specs.Clearing.{IsClearing, IsClearingBy}
use Rattle.ann_ledger.specs.Ledger.{IsLedgerOf}
use Rattle.ann_stock.specs.Cleared.{HasClearedBy}
use Rattle.ann_index.specs.Index.{KeptView, IsIndexOf, IsIndexFrom, kept_of}
use Rattle.ann_index.specs.Merged as mine
use Rattle.ann_index.specs.Merged.{IsBegun, IsRefused, IsUnmerged, HasMerged, begun, begun_by, end_for, ended, place_by, segment_for}
use Rattle.ann_index.specs.Steps.{IsFinish, IsGivenBack, IsUnderWay, IsWorkCause}
use Rattle.ann_index.specs.Steps as steps
use Rattle.ann_index.proofs.Shown.{begins_then}
use Rattle.ann_index.specs.declared.refusal.Merged.{Merged}
use Rattle.ann_index.specs.declared.refusal.MergeRefused.{MergeRefused}
use Rattle.ann_index.specs.declared.refusal.MergeRefused.TheVariants.{Stopped, Nothing, Memory, LogFault, Disk, BadSegment, MemoryLogged}

-- ---- the number of the segment

some_in : {A : Type 0} (a b : A) → Some a ≡ Some b → a ≡ b
some_in a b e = cc

-- a Begin is at the list's end
begin_place : (index : Index) (h : BasedList) (b : Begun) → (fold_of index (with_entry h (Begin 0))).begun ≡ Some b → b.position ≡ length_of h
begin_place index h b is =
    let e : (step index h (fold_of index h) (Begin 0)).begun ≡ Some b = ap (λ (s : State). s.begun) (sym (fold_push index h (Begin 0))) ∙ is in
    sym (ap (λ (x : Begun). x.position) (some_in _ b e))

module _ {S : Type 0} (index : Index) (h : BasedList) (order : Order S) (is : IsJobOf index (begun index h) order) where
  number_by : (o : Option Begun) → (fold_of index h).begun ≡ o → order.number ≡ 2 * place_by o h + 1
  number_by None none =
      let whole : begun index h ≡ with_entry h (Begin 0) = ap (λ (x : Option Begun). begun_by x h) none in
      let place : is.begun.position ≡ length_of h = begin_place index h is.begun (ap (λ (g : BasedList). (fold_of index g).begun) (sym whole) ∙ is.open_now) in
      is.numbered ∙ ap (λ n. 2 * n + 1) place
  number_by (Some b) some =
      let whole : begun index h ≡ h = ap (λ (x : Option Begun). begun_by x h) some in
      let same : is.begun ≡ b = some_in is.begun b (sym (ap (λ (g : BasedList). (fold_of index g).begun) (sym whole) ∙ is.open_now) ∙ some) in
      is.numbered ∙ ap (λ (x : Begun). 2 * x.position + 1) same

  pub number_is : order.number ≡ segment_for index h
  number_is = number_by (fold_of index h).begun refl

given_back_in : {V E S : Type 0} (tools : ToolsView V E S) (job : JobView V E S) → tools ≡ GivenBack job → tools ≡ Out → ⊥
given_back_in tools job is out = cc

-- ---- clearing

hand_by : {V E S : Type 0} (tells : Type 0) (held : V → Holding) (faults : V → ℕ) (base : ℕ) (tools : ToolsView V E S) (old new : StockView V E S) (calm : Bool) → old.tools ≡ tools → IsAtHand tools → HasClearedBy tells held faults base tools old new calm → IsAtHand new.tools
hand_by tells held faults base (AtHand vault eyes) old new calm is hand w = subst IsAtHand (sym w.tools) tt
hand_by tells held faults base (GivenBack job) old new calm is hand w = absurd hand
hand_by tells held faults base Out old new calm is hand w = absurd hand

clear_by : {F V E S : Type 0} (tells : Type 0) (held : V → Holding) (faults : V → ℕ) (b : Bool) (log : LogView F) (old new : StockView V E S) (calm : Bool) → IsAtHand old.tools → IsClearingBy tells held faults b log old new calm → IsAtHand new.tools
clear_by tells held faults true log old new calm hand w = subst (λ (s : StockView _ _ _). IsAtHand s.tools) (sym w.0) hand
clear_by tells held faults false log old new calm hand w = hand_by tells held faults log.base.segment old.tools old new calm refl hand w

pub clear_hand : {F V E S : Type 0} (tells : Type 0) (held : V → Holding) (faults : V → ℕ) (log : LogView F) (old new : StockView V E S) (calm : Bool) → IsAtHand old.tools → IsClearing tells held faults log old new calm → IsAtHand new.tools
clear_hand tells held faults log old new calm hand w = clear_by tells held faults log.is_closed log old new calm hand w

hand_out : {V E S : Type 0} (tools : ToolsView V E S) → IsAtHand tools → tools ≡ Out → ⊥
hand_out tools hand out = subst IsAtHand out hand

-- ---- the steps

module _ {F V E S : Type 0} (D : Ghosts F) (tells : Type 0) (bytes : S → List ℕ) (held : V → Holding) (vault_faults : V → ℕ) (eye_faults : E → ℕ) (sound : Bool) (h shown : BasedList) (log : LogView F) (tools : ToolsView V E S) (open_now : log.is_closed ≡ false) where
  abbrev pub behind : BasedList
  behind = begun (index_in log) h

  -- ---- worked, and refused

  module _ (j3 : JournalView F S) (stock3 : StockView V E S) (view : IndexView S) (job worked : JobView V E S) (parts : parts_in tools ≡ Some (job.vault, job.eyes)) (given : stock3.tools ≡ GivenBack worked) (unmerged : IsUnmerged D tells bytes held vault_faults eye_faults sound h shown log tools (kept_of j3 stock3 view)) where
    pub unworked : (why : MergeRefused) → IsWorkCause D tells bytes held vault_faults eye_faults sound job worked why → IsRefused D tells bytes held vault_faults eye_faults sound h shown log tools (kept_of j3 stock3 view) why
    unworked (Stopped at) cause = absurd cause
    unworked (Nothing at) cause = absurd cause
    unworked Memory cause = record { open_now = open_now; left = inr (unmerged.begun_is, unmerged.index) }
    unworked LogFault cause = absurd cause
    unworked Disk cause = (
      unmerged,
      record {
        vault = job.vault;
        eyes = job.eyes;
        had = parts;
        vault_now = worked.vault;
        eyes_now = worked.eyes;
        has = ap (λ (t : ToolsView V E S). parts_in t) given;
        rose = cause;
      },
    )
    unworked (BadSegment block) cause = (unmerged, cause)
    unworked (MemoryLogged receipt) cause = absurd cause

  pub given_back : (j2 j3 : JournalView F S) (stock2 stock3 : StockView V E S) (view : IndexView S) (job : JobView V E S) (why : MergeRefused) → IsBegun D (index_in log) h log j2.log → IsUnderWay D tells bytes held vault_faults eye_faults sound behind (kept_of j2 stock2 view) job → parts_in tools ≡ Some (job.vault, job.eyes) → IsGivenBack D tells bytes held vault_faults eye_faults sound behind j2 j3 stock2 stock3 job why → IsRefused D tells bytes held vault_faults eye_faults sound h shown log tools (kept_of j3 stock3 view) why
  given_back j2 j3 stock2 stock3 view job why is u parts w =
      unworked j3 stock3 view job w.worked parts w.tools
      (record {
        open_now = open_now;
        begun_is = subst (λ (x : JournalView F S). IsBegun D (index_in log) h log x.log) (sym w.same) is;
        index = record {
          follows = subst (λ (x : JournalView F S). Follows D bytes sound behind behind x view) (sym w.same) u.follows;
          ledger = w.ledger;
          in_hand = given_back_in stock3.tools w.worked w.tools;
        };
      })
      why w.cause

  -- ---- ended, or not

  module _ (old new : KeptView F V E S) (number : ℕ) (is : IsBegun D (index_in log) h log old.journal.log) (numbered : number ≡ segment_for (index_in log) h) where
    has_ended : HasAppended D old.journal.log (End 0 number ∷ []) new.journal.log → new.journal.log.is_closed ≡ false → mine.HasEnded D (index_in log) h log new.journal.log
    has_ended appended open_after = record {
      open_now = open_after;
      between = old.journal.log;
      begun_is = is;
      appended = subst (λ n. HasAppended D old.journal.log (End 0 n ∷ []) new.journal.log) numbered appended;
    }

    list_is : with_entry behind (End 0 number) ≡ ended (index_in log) h
    list_is = ap (λ n. with_entry behind (End 0 n)) numbered

    pub unended : (why : MergeRefused) → IsFinish D tells bytes held vault_faults eye_faults sound behind number old new (Err why) → IsRefused D tells bytes held vault_faults eye_faults sound h shown log tools new why
    unended (Stopped at) w = absurd w
    unended (Nothing at) w = absurd w
    unended Memory w = record {
      open_now = open_now;
      left = inr (subst (λ (x : LogView F). IsBegun D (index_in log) h log x) (sym w.log) is, w.index);
    }
    unended LogFault w = record {
      open_before = open_now;
      closed = w.closed;
      left = inr (record { between = old.journal.log; begun_is = is; unlogged = w.unlogged }, w.index);
    }
    unended Disk w = absurd w
    unended (BadSegment block) w = absurd w
    unended (MemoryLogged receipt) w = (
      open_now,
      inr (record {
        logged = has_ended w.appended w.open_now;
        place = w.place ∙ ap length_of list_is;
        index = subst (λ (g : BasedList). IsIndexFrom D tells bytes held sound g behind new) list_is w.index;
      }),
    )

    -- what is retired may be cleared then
    pub merged_by : (merged : Merged) → steps.HasFinished D tells bytes held vault_faults eye_faults sound behind number old new merged → (stock : StockView V E S) → IsAtHand stock.tools → IsLedgerOf D tells bytes held sound (with_entry behind (End 0 number)) new.journal stock → HasMerged D tells bytes held vault_faults eye_faults sound h shown log tools (kept_of new.journal stock new.view) merged
    merged_by merged w stock hand l = record {
      open_now = open_now;
      logged = has_ended w.appended w.open_now;
      number = w.segment ∙ numbered;
      place = w.place ∙ ap length_of list_is;
      at_hand = hand;
      index = subst (λ (g : BasedList). IsIndexOf D tells bytes held sound g g (kept_of new.journal stock new.view)) list_is
          (record { follows = w.index.follows; ledger = l; in_hand = hand_out stock.tools hand });
    }

-- what is shown where all was, is no less than what was shown before
module _ {F V E S : Type 0} (D : Ghosts F) (tells : Type 0) (bytes : S → List ℕ) (held : V → Holding) (vault_faults : V → ℕ) (eye_faults : E → ℕ) (sound : Bool) (h shown : BasedList) (log : LogView F) (tools : ToolsView V E S) (new : KeptView F V E S) (on : BeginsWith h shown) where
  from_before : IsIndexFrom D tells bytes held sound h h new → IsIndexFrom D tells bytes held sound h shown new
  from_before is = record { later = is.later; index = is.index; on = begins_then shown h is.later on is.on }

  pub refused_from : (why : MergeRefused) → IsRefused D tells bytes held vault_faults eye_faults sound h h log tools new why → IsRefused D tells bytes held vault_faults eye_faults sound h shown log tools new why
  refused_from (Stopped at) w = record { closed = w.closed; place = w.place }
  refused_from (Nothing at) w = record { open_now = w.open_now; none = w.none; no_work = w.no_work; place = w.place; same_log = w.same_log; index = w.index }
  refused_from Memory w = record { open_now = w.open_now; left = elim w.left [ inl x ↦ inl (x.0, from_before x.1) | inr x ↦ inr x ] }
  refused_from LogFault w = record { open_before = w.open_before; closed = w.closed; left = w.left }
  refused_from Disk w = (record { open_now = w.0.open_now; begun_is = w.0.begun_is; index = w.0.index }, w.1)
  refused_from (BadSegment block) w = (record { open_now = w.0.open_now; begun_is = w.0.begun_is; index = w.0.index }, w.1)
  refused_from (MemoryLogged receipt) w = (
    w.0,
    elim w.1 [
      | inl x ↦ inl (record { logged = x.logged; place = x.place; index = x.index })
      | inr x ↦ inr (record { logged = x.logged; place = x.place; index = x.index })
    ],
  )
