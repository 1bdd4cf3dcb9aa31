-- A sound place stays sound: each image stands for a list of which the vault holds what it names.
use Rattle.std.proofs.Common.{◌≡◌, ℕ, List, inl, inr, refl, sym, ap, subst, ◌∙◌}
use Rattle.std.specs.Prelude.{Option, Some, None}
use Rattle.std.specs.FinMap.{retain_keys}
use Rattle.ann_types.specs.Index.{Index}
use Rattle.ann_types.specs.Legal.{IsLegal}
use Rattle.ann_types.specs.Lists.{BasedList, ListBase}
use Rattle.ann_types.specs.declared.entry.Entry.{Entry}
use Rattle.ann_disk.specs.declared.file.LogFile.{Ghosts}
use Rattle.ann_log.specs.LogView.{LogView, files_of, held_of}
use Rattle.ann_log.specs.Pairs.{EachPair}
use Rattle.ann_log.specs.Renewed.{renewed}
use Rattle.ann_log.specs.Text.{Held, StandsFor}
use Rattle.ann_log.specs.Told.{LeaveFiles}
use Rattle.ann_log.proofs.Pairs.{last_pair}
use Rattle.ann_preamble.specs.declared.base.Base.{Base}
use Rattle.ann_vault.specs.Held.{Holding}
use Rattle.ann_reopen.specs.declared.judged.Merge.{Merge}
use Rattle.ann_resume.specs.Removed.{is_named, MayLack}
use Rattle.ann_state.specs.List.{base_on, list_on}
use Rattle.ann_state.specs.State.{index_with, AreKept}
use Rattle.ann_recover.specs.Fresh.{IsFresh, held_with}
use Rattle.ann_recover.specs.Loaded.{IsReplayed, IsLoaded}
use Rattle.ann_recover.specs.Places.{IsKeptList, StandKept}
use Rattle.ann_recover.specs.Recovered.{AreOfList}
use Rattle.ann_recover.specs.Renewal.{renewal_of, number_of, IsOldOrRenewed, IsRenewed}
use Rattle.ann_recover.specs.Settled.{IsSettled, IsUnsettled}
use Rattle.ann_recover.specs.declared.load.Loaded.{Loaded}
use Rattle.ann_recover.proofs.Ends.{last_named, left_unended}
use Rattle.ann_recover.proofs.Keeping.{retained, kept_named, left_kept, sole_graph}
use Rattle.ann_recover.proofs.Opening.{same_held}
use Rattle.ann_recover.proofs.Reviving.{renewed_base}

-- ---- a list that was read, and that list on its last merge

module _ {S : Type 0} (tells : Type 0) (bytes : S → List ℕ) (held : Holding) (was : Held) (merge : Option Merge) (rep : IsReplayed tells bytes held was.params was.book was.base was.entries merge) where
  abbrev index : Index
  index = index_with was.params was.book.book

  abbrev whole : BasedList
  whole = list_on was.base rep.graph was.entries

  pub kept_whole : tells → IsKeptList held was → AreKept held was.params was.book.book whole
  kept_whole seals is =
      subst (λ g. AreKept held was.params was.book.book (list_on was.base g was.entries))
      (sym (sole_graph tells bytes held was.params was.book.book was.base was.entries rep.graph rep.segment rep.ground seals is.graph is.legal.base is.kept)) is.kept

  pub kept_left : tells → IsKeptList held was → AreKept held was.params was.book.book rep.left
  kept_left seals is = left_kept was.params was.book.book held whole merge rep.left rep.legal rep.is_left (kept_whole seals is)

  stand_whole : (vault : Holding) → AreKept vault was.params was.book.book whole → (one two : List ℕ) → StandsFor was one two → StandKept vault was.params was.book one two
  stand_whole vault kept one two stands = record {
    was = was;
    stands = stands;
    index = (refl, refl);
    list = record { graph = rep.graph; legal = rep.legal; kept = kept };
  }

  module _ (generation : ℕ) (base : Base) (must : renewal_of was.base generation merge ≡ Some base) where
    left_base_is : rep.left.base ≡ base_on base rep.left.base.graph
    left_base_is = renewed_base index was.base whole generation merge rep.left base rep.is_left refl must

    left_is : rep.left ≡ list_on base rep.left.base.graph rep.left.entries
    left_is = ap (λ (b : ListBase). let h : BasedList = record { base = b; entries = rep.left.entries } in h) left_base_is

    stand_left : (vault : Holding) → AreKept vault was.params was.book.book rep.left → (one two : List ℕ) → StandsFor (renewed was base rep.left.entries) one two → StandKept vault was.params was.book one two
    stand_left vault kept one two stands = record {
      was = renewed was base rep.left.entries;
      stands = stands;
      index = (refl, refl);
      list = record {
        graph = rep.left.base.graph;
        legal = subst (λ (h : BasedList). IsLegal index h) left_is rep.stands.legal;
        kept = subst (λ (h : BasedList). AreKept vault was.params was.book.book h) left_is kept;
      };
    }

-- what a crash inside leaves, with all that the vault held
pub stand_inside : {S : Type 0} (tells : Type 0) (bytes : S → List ℕ) (held : Holding) (was : Held) (generation : ℕ) → tells → IsKeptList held was → (one two : List ℕ) → AreOfList tells bytes held was generation one two → StandKept held was.params was.book one two
stand_inside tells bytes held was generation seals kept one two (inl stands) = record { was = was; stands = stands; index = (refl, refl); list = kept }
stand_inside tells bytes held was generation seals kept one two (inr w) =
    stand_left tells bytes held was w.merge w.replayed generation w.base w.must held (kept_left tells bytes held was w.merge w.replayed seals kept) one two w.stands

-- ---- a log that was put in order

module _ {F S : Type 0} (D : Ghosts F) (tells : Type 0) (bytes : S → List ℕ) (held : Holding) (log : LogView F) (entries : List Entry) (fresh : IsFresh D log entries) (told : D.tells) (seals : tells) (kept : IsKeptList held (held_with log entries)) where
  abbrev was : Held
  was = held_with log entries

  of_log : (one two : List ℕ) → StandsFor (held_of log) one two → StandsFor was one two
  of_log one two = subst (λ (h : Held). StandsFor h one two) (same_held D tells bytes held log entries fresh told)

  -- nothing was done
  pub fresh_sound : (after : Holding) → after ≡ held → EachPair D.unsynced (StandKept after log.params log.book) (files_of log)
  fresh_sound after same one is_one two is_two = record {
    was = was;
    stands = of_log one two (fresh.leaves told one is_one two is_two);
    index = (refl, refl);
    list = subst (λ (v : Holding). IsKeptList v was) (sym same) kept;
  }

  module _ (loaded : Loaded S) (is : IsLoaded tells bytes held log.params log.book log.base entries loaded) where
    abbrev left : BasedList
    left = is.list.left

    abbrev all_kept : AreKept held log.params log.book.book (list_on log.base is.list.graph entries)
    all_kept = kept_whole tells bytes held was loaded.merge is.list seals kept

    abbrev left_all_kept : AreKept held log.params log.book.book left
    left_all_kept = kept_left tells bytes held was loaded.merge is.list seals kept

    of_tail : (base : Base) (one two : List ℕ) → StandsFor (renewed (held_of log) base loaded.tail.items) one two → StandsFor (renewed was base left.entries) one two
    of_tail base one two w =
        subst (λ (t : List Entry). StandsFor (renewed was base t) one two) is.tail_is
        (subst (λ (h : Held). StandsFor (renewed h base loaded.tail.items) one two) (same_held D tells bytes held log entries fresh told) w)

    by_base : (o : Option Base) → renewal_of log.base log.generation loaded.merge ≡ o → (one two : List ℕ) → IsOldOrRenewed (held_of log) o loaded.tail.items one two → StandKept held log.params log.book one two
    by_base None must one two w = stand_whole tells bytes held was loaded.merge is.list held all_kept one two (of_log one two w)
    by_base (Some base) must one two (inl w) = stand_whole tells bytes held was loaded.merge is.list held all_kept one two (of_log one two w)
    by_base (Some base) must one two (inr w) = stand_left tells bytes held was loaded.merge is.list log.generation base must held left_all_kept one two (of_tail base one two w)

    -- the log wasn't written anew
    unturned_sound : (new : LogView F) → LeaveFiles D (files_of log) (files_of new) (IsOldOrRenewed (held_of log) (renewal_of log.base log.generation loaded.merge) loaded.tail.items) → (after : Holding) → after ≡ held → EachPair D.unsynced (StandKept after log.params log.book) (files_of new)
    unturned_sound new during after same one is_one two is_two =
        subst (λ (v : Holding). StandKept v log.params log.book one two) (sym same)
        (by_base (renewal_of log.base log.generation loaded.merge) refl one two
        (last_pair D.past D.unsynced (files_of log) (files_of new) (IsOldOrRenewed (held_of log) (renewal_of log.base log.generation loaded.merge) loaded.tail.items) (during told) one is_one two is_two))

    -- it was, where it must
    turned_sound : (new : LogView F) (after : Holding) → MayLack (is_named new.base.segment (number_of loaded.merge)) held after → (o : Option Base) → renewal_of log.base log.generation loaded.merge ≡ o → IsRenewed D log o loaded.tail.items new → EachPair D.unsynced (StandKept after log.params log.book) (files_of new)
    turned_sound new after lacks None must same =
        subst (λ (v : LogView F). EachPair D.unsynced (StandKept after log.params log.book) (files_of v)) (sym same)
        (λ one is_one two is_two.
        stand_whole tells bytes held was loaded.merge is.list after
        (kept_named new.base.segment (number_of loaded.merge) held after lacks log.params log.book.book (list_on log.base is.list.graph entries) (ap (λ (v : LogView F). v.base.segment) (sym same)) (last_named (index_with log.params log.book.book) (list_on log.base is.list.graph entries) loaded.merge left is.list.is_left) all_kept)
        one two (of_log one two (fresh.leaves told one is_one two is_two)))
    turned_sound new after lacks (Some base) must w = λ one is_one two is_two.
        stand_left tells bytes held was loaded.merge is.list log.generation base must after
        (kept_named new.base.segment (number_of loaded.merge) held after lacks log.params log.book.book left
        (ap (λ (b : ListBase). b.segment) (left_base_is tells bytes held was loaded.merge is.list log.generation base must) ∙ sym (ap (λ (b : Base). b.segment) w.turned.behind))
        (λ m. absurd (left_unended (index_with log.params log.book.book) (list_on log.base is.list.graph entries) loaded.merge left is.list.is_left m)) left_all_kept)
        one two (of_tail base one two (subst (λ (h : Held). StandsFor h one two) (w.renewed told) (w.after told one is_one two is_two)))

    module _ (new : LogView F) (middle after : Holding) (same : middle ≡ held) where
      pub settled_sound : IsSettled D tells log loaded.merge loaded.tail.items middle new after → EachPair D.unsynced (StandKept after log.params log.book) (files_of new)
      settled_sound w =
          turned_sound new after
          (retained (is_named new.base.segment (number_of loaded.merge)) held after (w.removed seals ∙ ap (λ (v : Holding). retain_keys v (is_named new.base.segment (number_of loaded.merge))) same))
          (renewal_of log.base log.generation loaded.merge) refl w.renewed

      pub unsettled_sound : LeaveFiles D (files_of log) (files_of new) (IsOldOrRenewed (held_of log) (renewal_of log.base log.generation loaded.merge) loaded.tail.items) → IsUnsettled D tells log loaded.merge loaded.tail.items middle new after → EachPair D.unsynced (StandKept after log.params log.book) (files_of new)
      unsettled_sound during (inl w) = unturned_sound new during after (w.kept seals ∙ same)
      unsettled_sound during (inr w) =
          turned_sound new after (subst (λ (v : Holding). MayLack (is_named new.base.segment (number_of loaded.merge)) v after) same (w.lacks seals))
          (renewal_of log.base log.generation loaded.merge) refl w.renewed
