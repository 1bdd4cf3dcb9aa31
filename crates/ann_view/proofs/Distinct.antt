-- Points that differ.
use Rattle.std.proofs.Common.{◌≡◌, ℕ, Bool, true, false, cond, eqb, List, [], ◌∷◌, ◌++◌, ◌||◌, refl, sym, ap, ◌∙◌, subst, arith, filter, inl, inr, eq-eqb}
use Rattle.std.specs.Prelude.{Option, Some, None}
use Rattle.std.specs.List.{AllByRecursion, IsDistinct}
use Rattle.std.proofs.lemmas.Bool.{false≢true, eqb-true}
use Rattle.ann_types.specs.Order.{has}
use Rattle.ann_types.specs.Walk.{near, met}
use Rattle.ann_types.specs.Graph.{Point, Graph, ground, near_from, near_to, visited_from}
use Rattle.ann_types.proofs.Ordered.{IsRising, rising_top, not_in_rest, has_append, has_cases, has_here, has_later}
use Rattle.ann_types.proofs.Sets.{Rises, has_filter, not_among, none_from_above}
use Rattle.ann_beam.proofs.Rankings.{AreNew}

-- no number stands twice
abbrev pub Distinct : List ℕ → Type 0
Distinct [] = Unit {0}
Distinct (x ∷ xs) = (has xs x ≡ false) × Distinct xs

-- no number stands in both
abbrev pub Apart : List ℕ → List ℕ → Type 0
Apart xs ys = (p : ℕ) → has xs p ≡ true → has ys p ≡ true → ⊥

pub distinct_append : (xs ys : List ℕ) → Distinct xs → Distinct ys → Apart xs ys → Distinct (xs ++ ys)
distinct_append [] ys d e apart = e
distinct_append (x ∷ xs) ys (n, d) e apart = (
  has_append xs ys x ∙ ap (λ t. t || has ys x) n ∙ not_among ys x (λ h. apart x (has_here x x xs (eq-eqb x x refl)) h),
  distinct_append xs ys d e (λ p h k. apart p (has_later x p xs h) k),
)

pub distinct_filter : (q : ℕ → Bool) (xs : List ℕ) → Distinct xs → Distinct (filter q xs)
distinct_filter q [] d = tt
distinct_filter q (x ∷ xs) (n, d) =
    elim (q x) as (λ t. Distinct (cond t (x ∷ filter q xs) (filter q xs))) [
      | true ↦ (not_among (filter q xs) x (λ h. false≢true (sym n ∙ (has_filter q xs x h).0)), distinct_filter q xs d)
      | false ↦ distinct_filter q xs d
    ]

distinct_rising : (far : ℕ → ℕ) (xs : List ℕ) → IsRising far xs → Distinct xs
distinct_rising far [] r = tt
distinct_rising far (x ∷ xs) (a, r) = (not_among xs x (not_in_rest far x xs a), distinct_rising far xs r)

pub distinct_rises : (xs : List ℕ) → Rises xs → Distinct xs
distinct_rises [] r = tt
distinct_rises (x ∷ xs) (a, r) = (none_from_above x x xs a (omega arith), distinct_rises xs r)

near_differ : (points : List Point) (query : List ℕ) (width : ℕ) (entry : Option ℕ) → Distinct (near_from points query width entry)
near_differ points query width None = tt
near_differ points query width (Some e) =
    let g = ground points query e in
    distinct_rising g.far (near g width (visited_from points query width (Some e))) (rising_top g.far width (met g (visited_from points query width (Some e))))

-- The points near a query differ.
pub near_distinct : (graph : Graph) (query : List ℕ) (width : ℕ) → Distinct (near_to graph query width)
near_distinct graph query width = near_differ graph.points query width graph.entry

-- ---- points that differ, and aren't among others, are new

pub new_from : (there xs : List ℕ) → Distinct xs → Apart xs there → AreNew there xs
new_from there [] d apart = tt
new_from there (x ∷ xs) (n, d) apart = (
  not_among there x (λ h. apart x (has_here x x xs (eq-eqb x x refl)) h),
  new_from (x ∷ there) xs d (λ p h k. elim (has_cases x p there k) [
    | inl e ↦ false≢true (sym n ∙ subst (λ (t : ℕ). has xs t ≡ true) (eqb-true p x e) h)
    | inr later ↦ apart p (has_later x p xs h) later
  ]),
)

pub distinct_from_each : (xs : List ℕ) → IsDistinct eqb xs → Distinct xs
unfolding IsDistinct
distinct_from_each [] d = tt
distinct_from_each (x ∷ xs) (a, d) = (lacks x xs a, distinct_from_each xs d)
  where
    lacks : (x : ℕ) (xs : List ℕ) → AllByRecursion (λ y. eqb x y ≡ false) xs → has xs x ≡ false
    lacks x [] a = refl
    lacks x (y ∷ xs) (h, a) = ap (λ t. t || has xs x) h ∙ lacks x xs a
