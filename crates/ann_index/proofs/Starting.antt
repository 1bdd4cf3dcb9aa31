-- The job of a merge that begins, or goes on.
use Rattle.std.proofs.Common.{◌≡◌, ◌∙◌, ℕ, Bool, true, false, List, [], ◌∷◌, inl, refl, ap, subst, sym}
use Rattle.std.specs.Prelude.{IsSome, Option, Some, None, Ok}
use Rattle.std.proofs.lemmas.Bool.{false≢true}
use Rattle.ann_types.specs.Fold.{Begun, State, fold_of}
use Rattle.ann_types.specs.Index.{Index}
use Rattle.ann_types.specs.Lists.{BasedList, BeginsWith, with_entry}
use Rattle.ann_types.specs.declared.entry.Entry.TheVariants.{Begin}
use Rattle.ann_types.proofs.Folds.{fold_push}
use Rattle.ann_disk.specs.declared.file.LogFile.{Ghosts}
use Rattle.ann_log.specs.LogView.{LogView}
use Rattle.ann_vault.specs.Held.{Holding}
use Rattle.ann_view.specs.View.{IndexView}
use Rattle.ann_merge.specs.Job.{JobView}
use Rattle.ann_journal.specs.Journal.{JournalView, index_in}
use Rattle.ann_journal.specs.declared.refused.Receipt.{Receipt}
use Rattle.ann_stock.specs.Stock.{StockView, ToolsView, AtHand, GivenBack, Out, given_in, parts_in, without_job}
use Rattle.ann_ledger.specs.Ledger.{AreToolsFor, IsJobOn, IsLedgerOf}
use Rattle.ann_ledger.specs.Merging.{IsTaken}
use Rattle.ann_index.specs.Index.{KeptView, IsIndexOf, kept_of}
use Rattle.ann_index.specs.Merged.{HasBegun, begun, begun_by, IsBegun, IsBegunBy, IsRefused}
use Rattle.ann_index.specs.Steps.{HasStarted, IsOpened, IsUnderWay}
use Rattle.ann_index.proofs.Shown.{begins_self, begins_with}
use Rattle.ann_index.specs.declared.refusal.MergeRefused.TheVariants.{Memory, MemoryLogged}

-- ---- tools

none_some : {A : Type 0} (a : A) → None ≡ Some a → ⊥
none_some a e = cc

some_in : {A : Type 0} (a b : A) → Some a ≡ Some b → a ≡ b
some_in a b e = cc

pub none_given : {V E S : Type 0} (tools : ToolsView V E S) → given_in tools ≡ None → without_job tools ≡ tools
none_given (AtHand vault eyes) none = refl
none_given (GivenBack job) none = absurd (none_some job (sym none))
none_given Out none = refl

pub given_is : {V E S : Type 0} (tools : ToolsView V E S) (job : JobView V E S) → Some job ≡ given_in tools → tools ≡ GivenBack job
given_is (AtHand vault eyes) job given = absurd (none_some job (sym given))
given_is (GivenBack other) job given = ap (λ (j : JobView _ _ _). GivenBack j) (sym (some_in job other given))
given_is Out job given = absurd (none_some job (sym given))

module _ {F V E S : Type 0} (D : Ghosts F) (tells : Type 0) (bytes : S → List ℕ) (held : V → Holding) (vault_faults : V → ℕ) (eye_faults : E → ℕ) (sound : Bool) (h : BasedList) (log : LogView F) (tools : ToolsView V E S) (open_now : log.is_closed ≡ false) where
  -- ---- a merge was open

  open_begun : (b : Begun) → (fold_of (index_in log) h).begun ≡ Some b → begun (index_in log) h ≡ h
  open_begun b is = ap (λ (o : Option Begun). begun_by o h) is

  open_is : (b : Begun) (new : LogView F) → (fold_of (index_in log) h).begun ≡ Some b → new ≡ log → IsBegun D (index_in log) h log new
  open_is b new is same = subst (λ (o : Option Begun). IsBegunBy D (index_in log) h log o new) (sym is) same

  -- the job that was given back
  pub started_again : (j : JournalView F S) (stock : StockView V E S) (view : IndexView S) (job : JobView V E S) → (l : j.log ≡ log) → IsIndexOf D tells bytes held sound h h (kept_of j stock view) → AreToolsFor D tells bytes held sound log h (GivenBack job) → tools ≡ GivenBack job
      → (stock' : StockView V E S) → stock'.tools ≡ Out → IsLedgerOf D tells bytes held sound h j stock'
      → HasStarted D tells bytes held vault_faults eye_faults sound h log tools (kept_of j stock' view) job
  started_again j stock view job l all on given stock' out ledger =
      let same : begun (index_in log) h ≡ h = open_begun on.of_begin.begun on.of_begin.open_now in
      record {
        open_now = ap (λ (x : LogView F). x.is_closed) l ∙ open_now;
        begun_is = open_is on.of_begin.begun j.log on.of_begin.open_now l;
        under_way = subst (λ (g : BasedList). IsUnderWay D tells bytes held vault_faults eye_faults sound g (kept_of j stock' view) job) (sym same)
            (record {
              follows = all.follows;
              ledger = ledger;
              out = out;
              job_is = subst (λ (x : LogView F). IsJobOn D tells bytes held sound x h job) (sym l) on;
            });
        parts = ap (λ (t : ToolsView V E S). parts_in t) given;
      }

  -- ---- a merge is open now, and all is shown

  pub record IsOpen (kept : KeptView F V E S) : Type 0 where
    pub begun_is : IsBegun D (index_in log) h log kept.journal.log
    pub open_merge : IsSome (fold_of (index_in kept.journal.log) (begun (index_in log) h)).begun
    pub index : IsIndexOf D tells bytes held sound (begun (index_in log) h) (begun (index_in log) h) kept
    pub still_open : kept.journal.log.is_closed ≡ false

  module _ (kept : KeptView F V E S) where
    by_begun : (o : Option Begun) → (fold_of (index_in log) h).begun ≡ o → IsSome o → kept.journal.log ≡ log → IsIndexOf D tells bytes held sound h h kept → IsOpen kept
    by_begun None is some same index = absurd (false≢true some)
    by_begun (Some b) is some same index =
        let whole : begun (index_in log) h ≡ h = open_begun b is in
        record {
          begun_is = open_is b kept.journal.log is same;
          open_merge = subst (λ (g : BasedList). IsSome (fold_of (index_in kept.journal.log) g).begun) (sym whole)
              (subst (λ (x : LogView F). IsSome (fold_of (index_in x) h).begun) (sym same) (subst (λ (o : Option Begun). IsSome o) (sym is) refl));
          index = subst (λ (g : BasedList). IsIndexOf D tells bytes held sound g g kept) (sym whole) index;
          still_open = ap (λ (x : LogView F). x.is_closed) same ∙ open_now;
        }

    begun_some : (index : Index) → IsSome (fold_of index (with_entry h (Begin 0))).begun
    begun_some index = subst (λ (s : State). IsSome s.begun) (sym (fold_push index h (Begin 0))) refl

    pub open_of : (b : Bool) → IsOpened D tells bytes held vault_faults eye_faults sound h log tools kept (Ok b) → IsOpen kept
    open_of false w = by_begun (fold_of (index_in log) h).begun refl w.open_merge w.same_log w.index
    open_of true w = record {
      begun_is = subst (λ (o : Option Begun). IsBegunBy D (index_in log) h log o kept.journal.log) (sym w.begun_is.may.none) w.begun_is;
      open_merge = subst (λ (g : BasedList). IsSome (fold_of (index_in kept.journal.log) g).begun) (sym (ap (λ (o : Option Begun). begun_by o h) w.begun_is.may.none)) (begun_some (index_in kept.journal.log));
      index = w.index;
      still_open = w.open_now;
    }

    -- what opening it has logged
    pub opened_begun : (b : Bool) → IsOpened D tells bytes held vault_faults eye_faults sound h log tools kept (Ok b) → b ≡ true → HasBegun D (index_in log) h log kept.journal.log
    opened_begun false w is = absurd (false≢true is)
    opened_begun true w is = w.begun_is

    pub opened_still : (b : Bool) → IsOpened D tells bytes held vault_faults eye_faults sound h log tools kept (Ok b) → b ≡ false → kept.journal.log ≡ log
    opened_still false w is = w.same_log
    opened_still true w is = absurd (false≢true (sym is))

    begun_begins : (o : Option Begun) → BeginsWith (begun_by o h) h
    begun_begins None = begins_with h (Begin 0 ∷ [])
    begun_begins (Some b) = begins_self h

    -- there was no memory for its job
    pub untaken : (b : Bool) → IsOpened D tells bytes held vault_faults eye_faults sound h log tools kept (Ok b) → b ≡ false → IsRefused D tells bytes held vault_faults eye_faults sound h h log tools kept Memory
    untaken false w is = record { open_now = open_now; left = inl (w.same_log, record { later = h; index = w.index; on = begins_self h }) }
    untaken true w is = absurd (false≢true (sym is))

    pub untaken_logged : (receipt : Receipt) (b : Bool) → IsOpened D tells bytes held vault_faults eye_faults sound h log tools kept (Ok b) → b ≡ true → receipt.at ≡ kept.journal.account.at → IsRefused D tells bytes held vault_faults eye_faults sound h h log tools kept (MemoryLogged receipt)
    untaken_logged receipt false w is at = absurd (false≢true is)
    untaken_logged receipt true w is at = (
      open_now,
      inl (record {
        logged = w.begun_is;
        place = at ∙ w.index.follows.journal_is.account_is.at;
        index = record { later = begun (index_in log) h; index = w.index; on = begun_begins (fold_of (index_in log) h).begun };
      }),
    )

  -- its job is taken
  pub started : (j : JournalView F S) (stock stock' : StockView V E S) (view : IndexView S) (job : JobView V E S) → IsOpen (kept_of j stock view) → IsJobOn D tells bytes held sound j.log (begun (index_in log) h) job → IsTaken stock stock' job → tools ≡ stock.tools → IsLedgerOf D tells bytes held sound (begun (index_in log) h) j stock' → HasStarted D tells bytes held vault_faults eye_faults sound h log tools (kept_of j stock' view) job
  started j stock stock' view job o on taken same l = record {
    open_now = o.still_open;
    begun_is = o.begun_is;
    under_way = record { follows = o.index.follows; ledger = l; out = ap (λ (s : StockView V E S). s.tools) taken.out; job_is = on };
    parts = ap (λ (t : ToolsView V E S). parts_in t) (same ∙ taken.tools);
  }
