-- A log that was just opened, and what is to be made of its list.
use Rattle.std.proofs.Common.{◌≡◌, ◌<◌, ◌+◌, ◌^◌, ℕ, List, length, refl, sym, ap, subst, inl, inr}
use Rattle.std.specs.Prelude.{Option, Some, None}
use Rattle.ann_types.specs.declared.entry.Entry.{Entry}
use Rattle.ann_types.specs.declared.params.Params.{Params}
use Rattle.ann_disk.specs.declared.file.LogFile.{Ghosts}
use Rattle.ann_frame.specs.Frames.{HaveComponents}
use Rattle.ann_log.specs.LogView.{LogView, files_of, held_of}
use Rattle.ann_log.specs.Opened.{IsOpened}
use Rattle.ann_log.specs.Renewed.{renewed}
use Rattle.ann_log.specs.Text.{Held, StandsAt, StandsFor}
use Rattle.ann_log.specs.Told.{LeaveFiles}
use Rattle.ann_log.specs.declared.files.Files.{Files}
use Rattle.ann_log.proofs.Pairs.{weaker_pairs}
use Rattle.ann_pq.specs.Codebook.{CodebookView}
use Rattle.ann_preamble.specs.declared.base.Base.{Base}
use Rattle.ann_vault.specs.Held.{Holding}
use Rattle.ann_state.specs.List.{list_on}
use Rattle.ann_state.specs.State.{index_with}
use Rattle.ann_recover.specs.Causes.{IsOfStore}
use Rattle.ann_recover.specs.Fresh.{IsFresh, held_with}
use Rattle.ann_recover.specs.Loaded.{IsLoaded, IsLoadRefused}
use Rattle.ann_recover.specs.Recovered.{HaveStood, AreOfList}
use Rattle.ann_recover.specs.Renewal.{renewal_of, IsAtRest, IsOldOrRenewed}
use Rattle.ann_recover.specs.declared.load.Loaded.{Loaded}
use Rattle.ann_recover.specs.declared.refused.RecoverWhy.{RecoverWhy}
use Rattle.ann_recover.specs.declared.refused.RecoverWhy.TheVariants.{NoIndex, BadLog, BadSegment, Disk, Memory}
use Rattle.ann_recover.proofs.Tails.{left_components, left_numbered}
use Rattle.ann_recover.proofs.Renewals.{still_pairs}

-- what was read of a log by its own calls was read of the log
pub loaded_of : {S : Type 0} (tells : Type 0) (bytes : S → List ℕ) (held : Holding) (params params' : Params) (book book' : CodebookView) (base base' : Base) (entries entries' : List Entry) (loaded : Loaded S) → params' ≡ params → book' ≡ book → base' ≡ base → entries' ≡ entries → IsLoaded tells bytes held params' book' base' entries' loaded → IsLoaded tells bytes held params book base entries loaded
loaded_of tells bytes held params params' book book' base base' entries entries' loaded p k b e is =
    subst (λ (x : Params). IsLoaded tells bytes held x book base entries loaded) p
    (subst (λ (x : CodebookView). IsLoaded tells bytes held params' x base entries loaded) k
    (subst (λ (x : Base). IsLoaded tells bytes held params' book' x entries loaded) b
    (subst (λ (x : List Entry). IsLoaded tells bytes held params' book' base' x loaded) e is)))

pub refused_of : {S : Type 0} (tells : Type 0) (bytes : S → List ℕ) (held : Holding) (params params' : Params) (base base' : Base) (entries entries' : List Entry) (why : RecoverWhy) → params' ≡ params → base' ≡ base → entries' ≡ entries → IsLoadRefused tells bytes held params' base' entries' why → IsLoadRefused tells bytes held params base entries why
refused_of tells bytes held params params' base base' entries entries' why p b e is =
    subst (λ (x : Params). IsLoadRefused tells bytes held x base entries why) p
    (subst (λ (x : Base). IsLoadRefused tells bytes held params' x entries why) b
    (subst (λ (x : List Entry). IsLoadRefused tells bytes held params' base' x why) e is))

module _ {F S : Type 0} (D : Ghosts F) (tells : Type 0) (bytes : S → List ℕ) (held : Holding) (log : LogView F) (entries : List Entry) (fresh : IsFresh D log entries) where
  pub same_held : D.tells → held_of log ≡ held_with log entries
  same_held told = ap (λ (t : List Entry). held_with log t) (fresh.listed told)

  -- nothing was done yet
  pub fresh_during : LeaveFiles D (files_of log) (files_of log) (AreOfList tells bytes held (held_with log entries) log.generation)
  fresh_during told =
      still_pairs D (files_of log) (AreOfList tells bytes held (held_with log entries) log.generation)
      (λ one is_one two is_two. inl (subst (λ (h : Held). StandsFor h one two) (same_held told) (fresh.leaves told one is_one two is_two)))

  module _ (loaded : Loaded S) (is : IsLoaded tells bytes held log.params log.book log.base entries loaded) where
    pub at_rest : log.base.position + length entries < 2 ^ 63 → IsAtRest D log loaded.merge loaded.tail.items
    at_rest room = record {
      open_now = fresh.open_now;
      components =
          subst (HaveComponents log.params.d) (sym is.tail_is)
          (left_components log.params.d (index_with log.params log.book.book) (list_on log.base is.list.graph entries) loaded.merge is.list.left is.list.is_left fresh.components);
      numbered = left_numbered (index_with log.params log.book.book) (list_on log.base is.list.graph entries) loaded.merge is.list.left is.list.is_left is.list.legal room;
      after = fresh.leaves;
    }

    by_base : (o : Option Base) → renewal_of log.base log.generation loaded.merge ≡ o → D.tells → (one two : List ℕ) → IsOldOrRenewed (held_of log) o loaded.tail.items one two → AreOfList tells bytes held (held_with log entries) log.generation one two
    by_base None must told one two w = inl (subst (λ (h : Held). StandsFor h one two) (same_held told) w)
    by_base (Some base) must told one two (inl w) = inl (subst (λ (h : Held). StandsFor h one two) (same_held told) w)
    by_base (Some base) must told one two (inr w) = inr (record {
      merge = loaded.merge;
      replayed = is.list;
      base = base;
      must = must;
      stands =
          subst (λ (t : List Entry). StandsFor (renewed (held_with log entries) base t) one two) is.tail_is
          (subst (λ (h : Held). StandsFor (renewed h base loaded.tail.items) one two) (same_held told) w);
    })

    pub settled_during : (new : Files F) → LeaveFiles D (files_of log) new (IsOldOrRenewed (held_of log) (renewal_of log.base log.generation loaded.merge) loaded.tail.items) → LeaveFiles D (files_of log) new (AreOfList tells bytes held (held_with log entries) log.generation)
    settled_during new during told =
        weaker_pairs D.past D.unsynced (files_of log) new (IsOldOrRenewed (held_of log) (renewal_of log.base log.generation loaded.merge) loaded.tail.items) (AreOfList tells bytes held (held_with log entries) log.generation)
        (by_base (renewal_of log.base log.generation loaded.merge) refl told) (during told)

-- ---- the list for which the files stood

module _ {F S : Type 0} (D : Ghosts F) (tells : Type 0) (bytes : S → List ℕ) (held : Holding) (files : Files F) (log : LogView F) (entries : List Entry) (opened : IsOpened D files log entries) where
  pub has_stood : HaveStood D files (held_with log entries) log.generation
  has_stood = record {
    stood = λ told.
        subst (λ (t : List Entry). StandsAt log.generation (held_with log t) (D.seen files.first) (D.seen files.second)) (sym (opened.entries told)) (opened.held told);
  }

-- a refusal of a device is none of the list
pub store_refused : {S : Type 0} (tells : Type 0) (bytes : S → List ℕ) (held : Holding) (params : Params) (base : Base) (entries : List Entry) (why : RecoverWhy) → IsOfStore why → IsLoadRefused tells bytes held params base entries why
store_refused tells bytes held params base entries NoIndex is = is
store_refused tells bytes held params base entries (BadLog entry) is = absurd is
store_refused tells bytes held params base entries (BadSegment block) is = absurd is
store_refused tells bytes held params base entries Disk is = is
store_refused tells bytes held params base entries Memory is = is
