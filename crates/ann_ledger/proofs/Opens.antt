-- A merge begins: what the account and the view know of its list.
use Rattle.std.proofs.Common.{◌≡◌, ◌⊎◌, ◌+◌, ◌*◌, ◌-◌, ◌<◌, ◌^◌, ℕ, Bool, true, false, not, List, [], ◌∷◌, ◌&&◌, refl, sym, ap, ap₂, subst, ◌∙◌, arith}
use Rattle.std.specs.List.{list_all}
use Rattle.std.specs.Prelude.{IsSome, IsTrue, Option, Some, None, is_none, is_some, MatchOption}
use Rattle.std.proofs.lemmas.Bool.{and_from, false≢true}
use Rattle.std.specs.Option.{option_map}
use Rattle.ann_types.specs.Fold.{Begun, State, fold_of}
use Rattle.ann_types.specs.Index.{Index}
use Rattle.ann_types.specs.Legal.{IsLegal, has_work, is_legal, may_follow}
use Rattle.ann_types.specs.Lists.{BasedList, length_of, with_entries, with_entry}
use Rattle.ann_types.specs.declared.entry.Entry.TheVariants.{Begin}
use Rattle.ann_types.proofs.Folds.{legal_push}
use Rattle.ann_types.proofs.Options.{none_some, some_is}
use Rattle.ann_laws.proofs.Newer.{open_within}
use Rattle.ann_laws.specs.Replays.{is_end}
use Rattle.ann_disk.specs.declared.file.LogFile.{Ghosts}
use Rattle.ann_segment.specs.Segment.{SegmentView}
use Rattle.ann_account.specs.Account.{AccountView}
use Rattle.ann_mbegin.specs.Begun.{IsNumberedBelow}
use Rattle.ann_mbegin.specs.Taken.{OpensAt}
use Rattle.ann_mbegin.proofs.Lasts.{numbered_below}
use Rattle.ann_journal.specs.Journal.{JournalView, IsJournalOf, index_in}
use Rattle.ann_journal.specs.Logged.{CanLogAll}
use Rattle.ann_journal.proofs.Frames.{idle_log}
use Rattle.ann_log.specs.LogView.{LogView, files_of, held_of, IsBeforeOrAfter}
use Rattle.ann_log.specs.Pairs.{EachPair, LeavePairs}
use Rattle.ann_log.specs.Text.{StandsFor}
use Rattle.ann_types.specs.declared.entry.Entry.{Entry}
use Rattle.ann_stock.specs.Stock.{StockView, Out}
use Rattle.ann_vault.specs.Held.{Holding}
use Rattle.ann_ledger.specs.Ledger.{IsLedgerOf}
use Rattle.ann_showing.specs.Showing.{Shows}
use Rattle.ann_showing.proofs.Stepping.{view_index}
use Rattle.ann_view.specs.Stands.{lti_of}
use Rattle.ann_view.specs.View.{IndexView, index_of, whole}
use Rattle.ann_ledger.specs.Merging.{IsIdle, IsRunning, MayOpen}

abbrev place_of : Begun → ℕ
place_of b = b.position

none_from : (o : Option ℕ) → is_some o ≡ false → o ≡ None
none_from None is = refl
none_from (Some n) is = absurd (false≢true (sym is))

-- an account in which no open Begin was seen has none
pub none_begun : {S : Type 0} (seen account : AccountView S) (begun : Option ℕ) (some : Bool) → seen ≡ account → begun ≡ seen.begun → some ≡ is_some begun → some ≡ false → account.begun ≡ None
none_begun seen account begun some same is told none =
    ap (λ (a : AccountView _). a.begun) (sym same) ∙ sym is ∙ none_from begun (sym told ∙ none)

-- an open log to which nothing was done
pub idle_open : {F : Type 0} (D : Ghosts F) (log seen : LogView F) (es : List Entry) (closed : Bool) → seen ≡ log → closed ≡ seen.is_closed → log.is_closed ≡ false → (D.tells → closed ≡ false → EachPair D.unsynced (StandsFor (held_of seen)) (files_of seen)) → D.tells → LeavePairs D.past D.unsynced (files_of log) (files_of log) (IsBeforeOrAfter (held_of log) es)
idle_open D log seen es closed same is going images told =
    idle_log D log es
    (subst (λ (l : LogView _). EachPair D.unsynced (StandsFor (held_of l)) (files_of l)) same
    (images told (is ∙ ap (λ (l : LogView _). l.is_closed) same ∙ going)))

-- ---- what the account knows of the open Begin

no_place : (o : Option Begun) → None ≡ option_map place_of o → o ≡ None
no_place None is = refl
no_place (Some b) is = absurd (none_some (place_of b) is)

a_place : (o : Option Begun) (position : ℕ) → Some position ≡ option_map place_of o → (b : Begun) × (o ≡ Some b) × (b.position ≡ position)
a_place None position is = absurd (none_some position (sym is))
a_place (Some b) position is = (b, refl, sym (some_is position (place_of b) is))

module _ {F S : Type 0} (D : Ghosts F) (h : BasedList) (j : JournalView F S) (is : IsJournalOf D h j) where
  abbrev index : Index
  index = index_in j.log

  pub none_open : j.account.begun ≡ None → (fold_of index h).begun ≡ None
  none_open none = no_place (fold_of index h).begun (sym none ∙ is.account_is.begun)

  pub one_open : (position : ℕ) → j.account.begun ≡ Some position → (b : Begun) × ((fold_of index h).begun ≡ Some b) × (b.position ≡ position)
  one_open position some = a_place (fold_of index h).begun position (sym some ∙ is.account_is.begun)

  pub some_open : (position : ℕ) → j.account.begun ≡ Some position → IsSome (fold_of index h).begun
  some_open position some = ap (λ (o : Option Begun). is_some o) (one_open position some).1

  pub any_open : IsSome j.account.begun → IsSome (fold_of index h).begun
  any_open some = by_place j.account.begun refl some
    where
      by_place : (o : Option ℕ) → j.account.begun ≡ o → IsSome o → IsSome (fold_of index h).begun
      by_place None same some = absurd (false≢true some)
      by_place (Some position) same some = some_open position same

  pub never_none : IsSome (fold_of index h).begun → j.account.begun ≡ None → ⊥
  never_none some none = false≢true (sym (ap (λ (o : Option Begun). is_some o) (none_open none)) ∙ some)

  pub is_running : (since at : ℕ) → j.account.begun ≡ Some since → at ≡ j.account.at → (b : Begun) × ((fold_of index h).begun ≡ Some b) × (since ≡ b.position) × (at ≡ length_of h)
  is_running since at some place =
      let one = one_open since some in
      (one.0, one.1, sym one.2, place ∙ is.account_is.at)

-- ---- what a view knows that shows the list

module _ {F S : Type 0} (D : Ghosts F) (bytes : S → List ℕ) (sound : Bool) (h : BasedList) (j : JournalView F S) (view : IndexView S) (is : IsJournalOf D h j) (shows : Shows bytes sound j.log h view) where
  abbrev here : Index
  here = index_in j.log

  pub same_index : index_of view ≡ here
  same_index = view_index j.log view shows.index

  pub state_is : fold_of here h ≡ whole view (lti_of view h)
  state_is = subst (λ (i : Index). fold_of i h ≡ whole view (lti_of view h)) same_index shows.stands.state

  pub begun_is : (fold_of here h).begun ≡ view.memory.begun
  begun_is = ap (λ (s : State). s.begun) state_is

  pub work_is : has_work (fold_of here h) ≡ has_work view.memory
  work_is = ap has_work state_is

  -- where none is open, the view may begin exactly where there is work
  pub may_is : j.account.begun ≡ None → (is_none view.memory.begun && has_work view.memory) ≡ has_work (fold_of here h)
  may_is none = ap (λ (o : Option Begun). is_none o && has_work view.memory) (sym begun_is ∙ none_open D h j is none) ∙ sym work_is

  pub can_log : (by : ℕ) → j.log.is_closed ≡ false → j.account.begun ≡ None → (is_none view.memory.begun && has_work view.memory) ≡ true → CanLogAll D h (Begin by ∷ []) j
  can_log by going none may = record {
    frame = record {
      journal_is = is;
      legal = record {
        base = is.legal.base;
        entries =
            legal_push here h (Begin by)
            ∙ and_from (is_legal here h) (may_follow here.params h (fold_of here h) (Begin by)) is.legal.entries
            (and_from (is_none (fold_of here h).begun) (has_work (fold_of here h)) (ap (λ (o : Option Begun). is_none o) (none_open D h j is none)) (sym (may_is none) ∙ may));
      };
      open_now = going;
      some = omega arith;
      few = omega arith;
    };
    no_end = refl;
  }

  pub may_open : (by : ℕ) (new : JournalView F S) → j.account.begun ≡ None → (is_none view.memory.begun && has_work view.memory) ≡ true → MayOpen D h by j new
  may_open by new none may = record { none = none_open D h j is none; work = sym (may_is none) ∙ may }

  pub is_idle : (by at : ℕ) → j.account.begun ≡ None → (is_none view.memory.begun && has_work view.memory) ≡ false → at ≡ j.account.at → IsIdle D h by j j at
  is_idle by at none may place = record {
    none = none_open D h j is none;
    no_work = sym (may_is none) ∙ may;
    place = place ∙ is.account_is.at;
    same = refl;
  }

  -- ---- the merge of the open Begin

  pub opens_at : (position : ℕ) → j.account.begun ≡ Some position → OpensAt view position
  opens_at position some =
      let one = one_open D h j is position some in
      subst (λ (o : Option Begun). MatchOption o ⊥ (λ b. b.position ≡ position)) (sym one.1 ∙ begun_is) one.2

  pub below : (position : ℕ) → j.account.begun ≡ Some position → h.base.segment < 2 * h.base.position + 1 → IsNumberedBelow (2 * position + 1) view.segment
  below position some older =
      let one = one_open D h j is position some in
      subst (λ (n : ℕ). IsNumberedBelow (2 * n + 1) view.segment) one.2
      (numbered_below here h one.0 view.segment is.legal older one.1 shows.current.named)

  pub small_number : (position count : ℕ) → j.account.begun ≡ Some position → count ≡ j.log.base.position + j.log.count → count < 2 ^ 63 - 1 → 2 * position + 1 < 2 ^ 64
  small_number position count some counted bound =
      let one = one_open D h j is position some in
      let within = open_within here h one.0 one.1 in
      let place = one.2 in
      let base = ap (λ b. b.position) is.list.base in
      let size = is.list.count in
      omega (arith, within, place, base, size, counted, bound)

-- the vault and the eyes are out
pub ledger_taken : {F V E S : Type 0} (D : Ghosts F) (tells : Type 0) (bytes : S → List ℕ) (held : V → Holding) (sound : Bool) (h : BasedList) (j : JournalView F S) (old new : StockView V E S) → IsLedgerOf D tells bytes held sound h j old → IsSome (fold_of (index_in j.log) h).begun → new ≡ record old { tools = Out } → IsLedgerOf D tells bytes held sound h j new
ledger_taken D tells bytes held sound h j old new is begun out =
    subst (λ (s : StockView _ _ _). IsLedgerOf D tells bytes held sound h j s) (sym out)
    (record { told = is.told; journal_is = is.journal_is; older = is.older; tools = begun; retired = is.retired })
