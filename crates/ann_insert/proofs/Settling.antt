-- What a prune keeps is settled: none of the kept candidates leaves out a later one.
use Rattle.std.proofs.Common.{◌≡◌, ℕ, ◌*◌, true, false, cond, leb, List, [], ◌∷◌, ◌++◌, ◌⊎◌, refl, sym, ap, ◌∙◌, inl, inr, eqb-true, eq-eqb}
use Rattle.std.proofs.lemmas.Bool.{false≢true, and_parts, or_cases}
use Rattle.ann_types.specs.Order.{has, before, in_order}
use Rattle.ann_types.specs.Kept.{Rule, covered, takes, keep, kept}
use Rattle.ann_types.proofs.Ordered.{IsRising, before-irreflexive, before-asymmetric, after_has, has_append, has_cases, has_later, has_here, rising_in_order}
use Rattle.ann_types.proofs.Sets.{has_ascending}
use Rattle.ann_prune.specs.Newer.{leaves_out, AreSettled}
use Rattle.ann_types.proofs.Booleans.{not_true}
use Rattle.ann_types.proofs.Merges.{none_any}

module _ (rule : Rule) (apart : ℕ → ℕ → ℕ) (p : ℕ) where
  -- none of these leaves out a later one
  abbrev AreFree : List ℕ → Type 0
  AreFree ks = (k c : ℕ) → has ks k ≡ true → has ks c ≡ true → before (apart p) k c ≡ true → leaves_out rule apart p k c ≡ false

  -- these stand before those
  abbrev Lead : List ℕ → List ℕ → Type 0
  Lead ks cs = (k c : ℕ) → has ks k ≡ true → has cs c ≡ true → before (apart p) k c ≡ true

  has_push : (ks : List ℕ) (c x : ℕ) → has (ks ++ c ∷ []) x ≡ true → (has ks x ≡ true) ⊎ (x ≡ c)
  has_push ks c x h = elim (or_cases (has ks x) (has (c ∷ []) x) (sym (has_append ks (c ∷ []) x) ∙ h)) [
    | inl there ↦ inl there
    | inr last ↦ elim (has_cases c x [] last) [ inl e ↦ inr (eqb-true x c e) | inr none ↦ absurd (false≢true none) ]
  ]

  free_push : (ks : List ℕ) (c : ℕ) → AreFree ks → ((k : ℕ) → has ks k ≡ true → before (apart p) k c ≡ true) → covered rule apart p ks c ≡ false → AreFree (ks ++ c ∷ [])
  free_push ks c free lead uncovered k x h m b =
      elim (has_push ks c k h) [
        | inl k_there ↦ elim (has_push ks c x m) [
          | inl x_there ↦ free k x k_there x_there b
          | inr x_is ↦ ap (leaves_out rule apart p k) x_is ∙ none_any (λ z. leb (rule.a * rule.a * apart z c) (rule.b * rule.b * apart p c)) ks k uncovered k_there
        ]
        | inr k_is ↦ elim (has_push ks c x m) [
          | inl x_there ↦ absurd (false≢true (sym (before-asymmetric (apart p) x c (lead x x_there)) ∙ ap (λ z. before (apart p) z x) (sym k_is) ∙ b))
          | inr x_is ↦ absurd (false≢true (sym (before-irreflexive (apart p) c) ∙ ap (λ z. before (apart p) z c) (sym k_is) ∙ ap (before (apart p) k) (sym x_is) ∙ b))
        ]
      ]

  keep_free : (ks cs : List ℕ) → IsRising (apart p) cs → Lead ks cs → AreFree ks → AreFree (keep rule apart p ks cs)
  keep_free ks [] rising lead free = free
  keep_free ks (c ∷ cs) (after, rising) lead free =
      elim (takes rule apart p ks c) as (λ t. takes rule apart p ks c ≡ t → AreFree (keep rule apart p (cond t (ks ++ c ∷ []) ks) cs)) [
        | true ↦ λ e. keep_free (ks ++ c ∷ []) cs rising
            (λ k x h m. elim (has_push ks c k h) [
              | inl there ↦ lead k x there (has_later c x cs m)
              | inr is ↦ ap (λ z. before (apart p) z x) is ∙ after_has (apart p) c x cs after m
            ])
            (free_push ks c free (λ k h. lead k c h (has_here c c cs (eq-eqb c c refl))) (not_true (covered rule apart p ks c) (and_parts _ _ e).1))
        | false ↦ λ e. keep_free ks cs rising (λ k x h m. lead k x h (has_later c x cs m)) free
      ] refl

  -- What p keeps is settled, whatever rows it has.
  pub kept_settled : (newer : ℕ) (cs : List ℕ) → AreSettled rule apart p newer (kept rule apart p cs)
  kept_settled newer cs = record {
    settled = λ k c h m l n b.
        keep_free [] (in_order (apart p) cs) (rising_in_order (apart p) cs) (λ z x i j. absurd (false≢true i)) (λ z x i j s. absurd (false≢true i)) k c
        (sym (has_ascending k (keep rule apart p [] (in_order (apart p) cs))) ∙ h)
        (sym (has_ascending c (keep rule apart p [] (in_order (apart p) cs))) ∙ m) b;
  }
