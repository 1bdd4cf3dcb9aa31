-- What a vault holds for a list, it holds for the list with further entries that are no Ends.
use Rattle.std.proofs.Common.{◌≡◌, ℕ, ◌+◌, true, false, not, ◌&&◌, ◌||◌, List, [], ◌∷◌, refl, sym, ap, subst, ◌∙◌, arith}
use Rattle.std.specs.List.{list_all, list_any}
use Rattle.std.proofs.lemmas.Bool.{false≢true}
use Rattle.ann_types.specs.Codes.{Book}
use Rattle.ann_types.specs.Fold.{State, fold_of}
use Rattle.ann_types.specs.Graph.{Graph}
use Rattle.ann_types.specs.Index.{Index}
use Rattle.ann_types.specs.Legal.{IsLegal}
use Rattle.ann_types.specs.Lists.{BasedList, with_entries}
use Rattle.ann_types.specs.declared.params.Params.{Params}
use Rattle.ann_types.specs.declared.entry.Entry.{Entry}
use Rattle.ann_types.proofs.Folds.{fold_entries}
use Rattle.ann_laws.specs.Replays.{is_end, LastMerge}
use Rattle.ann_laws.proofs.Replayed.{fold_lti}
use Rattle.ann_laws.proofs.Ended.{last_merge}
use Rattle.ann_named.specs.Named.{named_from}
use Rattle.ann_named.proofs.Entries.{last_named, named_then, none_named}
use Rattle.ann_base.specs.Front.{IsSealedAs}
use Rattle.ann_state.specs.State.{index_with, AreKept}
use Rattle.ann_vault.specs.Held.{Holding}

-- ---- the last merge

none_ends : (es : List Entry) → list_any is_end es ≡ false → list_all (λ e. not (is_end e)) es ≡ true
none_ends [] none = refl
none_ends (e ∷ es) none =
    elim (is_end e) as (λ t. is_end e ≡ t → (t || list_any is_end es) ≡ false → (not t && list_all (λ x. not (is_end x)) es) ≡ true) [
      | true ↦ λ _ k. absurd (false≢true (sym k))
      | false ↦ λ _ k. none_ends es k
    ] refl none

apart : (n : ℕ) → n + 1 ≡ n → ⊥
apart n same = absurd (omega (arith, same))

-- a list with a merge has it before further entries that are no Ends
merge_before : (h : BasedList) (es : List Entry) → list_all (λ e. not (is_end e)) es ≡ true → LastMerge (with_entries h es) → list_any is_end h.entries ≡ true
merge_before h es none m =
    elim (list_any is_end h.entries) as (λ t. list_any is_end h.entries ≡ t → t ≡ true) [
      | true ↦ λ _. refl
      | false ↦ λ all. absurd (apart m.segment (
          sym (none_named (m.segment + 1) h.entries (none_ends h.entries all))
          ∙ sym (none_named (named_from (m.segment + 1) h.entries) es none)
          ∙ sym (named_then (m.segment + 1) h.entries es)
          ∙ last_named (m.segment + 1) (with_entries h es) m))
    ] refl

-- ---- what is kept

pub kept_more : (held : Holding) (params : Params) (book : Book) (h : BasedList) (es : List Entry) → IsLegal (index_with params book) h → list_all (λ e. not (is_end e)) es ≡ true → AreKept held params book h → AreKept held params book (with_entries h es)
kept_more held params book h es legal none kept = record {
  base = kept.base;
  merged = λ m.
      let index : Index = index_with params book in
      let there : LastMerge h = last_merge index h legal.entries (merge_before h es none m) in
      let segment : there.segment ≡ m.segment =
      sym (last_named 0 h there) ∙ sym (none_named (named_from 0 h.entries) es none) ∙ sym (named_then 0 h.entries es) ∙ last_named 0 (with_entries h es) m in
      let lti : (fold_of index h).lti ≡ (fold_of index (with_entries h es)).lti =
      sym (fold_lti index h (fold_of index h) es none) ∙ ap (λ (s : State). s.lti) (sym (fold_entries index h es)) in
      subst (λ (n : ℕ). IsSealedAs held params n book (fold_of index (with_entries h es)).lti) segment
      (subst (λ (g : Graph). IsSealedAs held params there.segment book g) lti (kept.merged there));
}
