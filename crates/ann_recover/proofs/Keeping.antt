-- What a vault holds of a list, where segments that nobody names are removed.
use Rattle.std.proofs.Common.{◌≡◌, ◌⊎◌, ℕ, Bool, true, false, cond, not, eqb-true, ◌&&◌, ◌||◌, ◌==◌, List, inl, inr, refl, sym, ap, subst, ◌∙◌, arith}
use Rattle.std.specs.Prelude.{Option, Some, None}
use Rattle.std.specs.FinMap.{get, retain_keys, get-retain_keys, nat_cmp-IsAntisymmetric}
use Rattle.std.proofs.lemmas.Bool.{false≢true, eq-eqb}
use Rattle.ann_types.specs.Codes.{Book}
use Rattle.ann_types.specs.Fold.{fold_of}
use Rattle.ann_types.specs.Graph.{Graph}
use Rattle.ann_types.specs.Legal.{IsLegal}
use Rattle.ann_types.specs.Lists.{BasedList, IsBaseOf}
use Rattle.ann_types.specs.declared.entry.Entry.{Entry}
use Rattle.ann_types.specs.declared.params.Params.{Params}
use Rattle.ann_laws.specs.Replays.{LastMerge}
use Rattle.ann_laws.proofs.Replayed.{merge_number}
use Rattle.ann_preamble.specs.declared.base.Base.{Base}
use Rattle.ann_vault.specs.Held.{Holding}
use Rattle.ann_segment.specs.Segment.{SegmentView}
use Rattle.ann_reopen.specs.declared.judged.Merge.{Merge}
use Rattle.ann_resume.specs.Removed.{is_named, MayLack}
use Rattle.ann_base.specs.Front.{IsSealedAs}
use Rattle.ann_state.specs.List.{base_on, list_on, IsGround}
use Rattle.ann_state.specs.State.{index_with, AreKept, IsLeftOf}
use Rattle.ann_recover.proofs.Ends.{left_unended}

-- ---- removing all that isn't named is removing some of it

pub retained : (kept : ℕ → Bool) (old new : Holding) → new ≡ retain_keys old kept → MayLack kept old new
retained kept old new is n =
    by_kept (kept n) refl (ap (λ (m : Holding). get m n) is ∙ get-retain_keys old kept n (λ x e. ap kept (sym (nat_cmp-IsAntisymmetric n x e))))
  where
    by_kept : (b : Bool) → kept n ≡ b → get new n ≡ cond (kept n) (get old n) None → (get new n ≡ get old n) ⊎ ((kept n ≡ false) × (get new n ≡ None))
    by_kept true e at = inl (at ∙ ap (λ t. cond t (get old n) None) e)
    by_kept false e at = inr (e, at ∙ ap (λ t. cond t (get old n) None) e)

-- ---- numbers that are named

not_eq : (n : ℕ) (b : Bool) → (n == 0) ≡ b → (n ≡ 0 → ⊥) → not b ≡ true
not_eq n true e some = absurd (some (eqb-true n 0 e))
not_eq n false e some = refl

not_zero : (n : ℕ) → (n ≡ 0 → ⊥) → not (n == 0) ≡ true
not_zero n some = not_eq n (n == 0) refl some

same_eqb : (n : ℕ) → (n == n) ≡ true
same_eqb n = eq-eqb n n refl

or_right : (a : Bool) → (a || true) ≡ true
or_right true = refl
or_right false = refl

named_first : (first second : ℕ) → (first ≡ 0 → ⊥) → is_named first second first ≡ true
named_first first second some =
    ap (λ t. t && ((first == first) || (first == second))) (not_zero first some)
    ∙ ap (λ t. t || (first == second)) (same_eqb first)

named_second : (first second : ℕ) → (second ≡ 0 → ⊥) → is_named first second second ≡ true
named_second first second some =
    ap (λ t. t && ((second == first) || (second == second))) (not_zero second some)
    ∙ ap (λ t. (second == first) || t) (same_eqb second)
    ∙ or_right (second == first)

module _ (first second : ℕ) (old new : Holding) (lacks : MayLack (is_named first second) old new) where
  still_there : (n : ℕ) → is_named first second n ≡ true → get new n ≡ get old n
  still_there n named = elim (lacks n) [
    | inl same ↦ same
    | inr gone ↦ absurd (false≢true (sym gone.0 ∙ named))
  ]

  sealed_still : (params : Params) (n : ℕ) (book : Book) (graph : Graph) → is_named first second n ≡ true → IsSealedAs old params n book graph → IsSealedAs new params n book graph
  sealed_still params n book graph named is = record { fits = is.fits; text = still_there n named ∙ is.text }

  -- ---- a list whose segments are named stays kept

  pub kept_named : (params : Params) (book : Book) (h : BasedList) → h.base.segment ≡ first → ((m : LastMerge h) → m.segment ≡ second) → AreKept old params book h → AreKept new params book h
  kept_named params book h base merged kept = record {
    base = λ some.
        sealed_still params h.base.segment book h.base.graph (subst (λ (n : ℕ). is_named n second h.base.segment ≡ true) base (named_first h.base.segment second some)) (kept.base some);
    merged = λ m.
        let number = m.number in
        sealed_still params m.segment book (fold_of (index_with params book) h).lti
        (subst (λ (n : ℕ). is_named first n m.segment ≡ true) (merged m) (named_second first m.segment (λ none. absurd (omega (arith, number, none))))) (kept.merged m);
  }

-- ---- a list on its last merge is kept where the list is

left_sealed : (params : Params) (book : Book) (held : Holding) (h : BasedList) (merge : Option Merge) (left : BasedList) → IsLegal (index_with params book) h → IsLeftOf (index_with params book) h merge left → AreKept held params book h → (left.base.segment ≡ 0 → ⊥) → IsSealedAs held params left.base.segment book left.base.graph
left_sealed params book held h None left legal is kept some =
    subst (λ (g : BasedList). IsSealedAs held params g.base.segment book g.base.graph) (sym is.1) (kept.base (λ none. some (ap (λ (g : BasedList). g.base.segment) is.1 ∙ none)))
left_sealed params book held h (Some merge) left legal is kept some =
    let last = is.0 in
    subst (λ (g : BasedList). IsSealedAs held params g.base.segment book g.base.graph) (sym is.1)
    (kept.merged (record {
      before = last.before;
      inside = last.inside;
      segment = merge.segment;
      behind = last.behind;
      merge = last.merge;
      number = merge_number (index_with params book) h last.before last.inside merge.segment last.behind legal last.merge;
    }))

pub left_kept : (params : Params) (book : Book) (held : Holding) (h : BasedList) (merge : Option Merge) (left : BasedList) → IsLegal (index_with params book) h → IsLeftOf (index_with params book) h merge left → AreKept held params book h → AreKept held params book left
left_kept params book held h merge left legal is kept = record {
  base = left_sealed params book held h merge left legal is kept;
  merged = λ m. absurd (left_unended (index_with params book) h merge left is m);
}

-- ---- what is sealed under the base's number gives the graph of the base

pub sole_graph : {S : Type 0} (tells : Type 0) (bytes : S → List ℕ) (held : Holding) (params : Params) (book : Book) (base : Base) (entries : List Entry) (graph : Graph) (segment : Option (SegmentView S)) → IsGround tells bytes held params base graph segment → tells → (other : Graph) → IsBaseOf params (base_on base other) → AreKept held params book (list_on base other entries) → graph ≡ other
sole_graph tells bytes held params book base entries graph None g told other based kept = g.based.none g.sealed ∙ sym (based.none g.sealed)
sole_graph tells bytes held params book base entries graph (Some segment) g told other based kept = g.sealed.sealed told book other (kept.base g.sealed.named)
