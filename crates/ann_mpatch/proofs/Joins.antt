-- Two sets that share nothing, joined in ascending order.
use Rattle.std.proofs.Common.{◌≡◌, ℕ, ◌+◌, ◌≤◌, ◌<◌, true, false, cond, eqb, ltb, List, [], ◌∷◌, ◌++◌, refl, sym, ap, ◌∙◌, arith, length, get_or, lt-ltb, le-ltb}
use Rattle.std.specs.Prelude.{All}
use Rattle.std.specs.List.{AllByRecursion, IsDistinct}
use Rattle.std.specs.List.Sorted.{IsPermutation, IsStrictlyIncreasing}
use Rattle.std.proofs.lemmas.Bool.{ne_eqb, or_from, or_parts, cond-true, cond-false}
use Rattle.std.proofs.lemmas.List.Elements.{recursion_from_All, All-from_recursion}
use Rattle.std.proofs.lemmas.List.{length-append}
use Rattle.ann_types.specs.Order.{before, has, placed, all_placed, ascending}
use Rattle.ann_types.specs.Kept.{Rule, keep, kept, within}
use Rattle.ann_types.proofs.Booleans.{eqb_sym}
use Rattle.ann_types.proofs.Ordered.{has_placed, in_order_same}
use Rattle.ann_types.proofs.Sets.{Rises, all_append, all_right as right_of, has_ascending, none_from_below, rises_from_increasing}
use Rattle.ann_prune.proofs.Prunes.{ascending_sorted}
use Rattle.ann_mpatch.specs.Joined.{ShareNothing}

-- ---- the members differ

differ : (x : ℕ) (xs : List ℕ) → AllByRecursion (λ y. x < y) xs → AllByRecursion (λ y. eqb x y ≡ false) xs
differ x [] a = tt
differ x (y ∷ ys) (h, a) = (ne_eqb x y (λ e. omega arith), differ x ys a)

distinct_rises : (xs : List ℕ) → Rises xs → IsDistinct eqb xs
unfolding IsDistinct
distinct_rises [] r = tt
distinct_rises (x ∷ xs) (a, r) = (differ x xs a, distinct_rises xs r)

not_first : (x : ℕ) (xs ys : List ℕ) → AllByRecursion (λ y. has (x ∷ xs) y ≡ false) ys → AllByRecursion (λ y. eqb x y ≡ false) ys
not_first x xs [] a = tt
not_first x xs (y ∷ ys) (h, a) = (eqb_sym x y ∙ (or_parts (eqb y x) (has xs y) h).0, not_first x xs ys a)

not_rest : (x : ℕ) (xs ys : List ℕ) → AllByRecursion (λ y. has (x ∷ xs) y ≡ false) ys → AllByRecursion (λ y. has xs y ≡ false) ys
not_rest x xs [] a = tt
not_rest x xs (y ∷ ys) (h, a) = ((or_parts (eqb y x) (has xs y) h).1, not_rest x xs ys a)

distinct_join : (xs ys : List ℕ) → Rises xs → Rises ys → AllByRecursion (λ y. has xs y ≡ false) ys → IsDistinct eqb (xs ++ ys)
unfolding IsDistinct
distinct_join [] ys r q a = distinct_rises ys q
distinct_join (x ∷ xs) ys (above, r) q a =
    (all_append (λ y. eqb x y ≡ false) xs ys (differ x xs above) (not_first x xs ys a), distinct_join xs ys r q (not_rest x xs ys a))

pub joined_distinct : (xs ys : List ℕ) → IsStrictlyIncreasing xs → IsStrictlyIncreasing ys → ShareNothing xs ys → IsDistinct eqb (xs ++ ys)
joined_distinct xs ys r q a = distinct_join xs ys (rises_from_increasing xs r) (rises_from_increasing ys q) (recursion_from_All (λ y. has xs y ≡ false) ys a)

-- sorted, they are the set
pub joined_sorted : (xs ys sorted : List ℕ) → IsStrictlyIncreasing xs → IsStrictlyIncreasing ys → ShareNothing xs ys → IsPermutation (xs ++ ys) sorted → ((i j d : ℕ) → i ≤ j → j < length sorted → get_or sorted i d ≤ get_or sorted j d) → sorted ≡ ascending (xs ++ ys)
joined_sorted xs ys sorted r q a moved up = ascending_sorted (xs ++ ys) sorted moved (joined_distinct xs ys r q a) up

-- ---- so the set has as many members as both

length_placed_new : (far : ℕ → ℕ) (x : ℕ) (s : List ℕ) → has s x ≡ false → length (placed far x s) ≡ length s + 1
length_placed_new far x [] new = omega arith
length_placed_new far x (y ∷ s) new =
    let parts = or_parts (eqb x y) (has s x) new in
    elim (before far x y) as (λ t. length (cond t (x ∷ y ∷ s) (cond (eqb x y) (y ∷ s) (y ∷ placed far x s))) ≡ length (y ∷ s) + 1) [
      | true ↦ omega arith
      | false ↦ ap length (cond-false (eqb x y) (y ∷ s) (y ∷ placed far x s) parts.0) ∙ (let more = length_placed_new far x s parts.1 in omega arith)
    ]

still_new : (far : ℕ → ℕ) (x : ℕ) (s xs : List ℕ) → AllByRecursion (λ y. eqb x y ≡ false) xs → AllByRecursion (λ y. has s y ≡ false) xs → AllByRecursion (λ y. has (placed far x s) y ≡ false) xs
still_new far x s [] a b = tt
still_new far x s (y ∷ xs) (h, a) (k, b) = (has_placed far x y s ∙ or_from (eqb y x) (has s y) (eqb_sym y x ∙ h) k, still_new far x s xs a b)

length_all_new : (far : ℕ → ℕ) (xs s : List ℕ) → IsDistinct eqb xs → AllByRecursion (λ x. has s x ≡ false) xs → length (all_placed far s xs) ≡ length s + length xs
unfolding IsDistinct
length_all_new far [] s d a = omega arith
length_all_new far (x ∷ xs) s (others, d) (h, a) =
    let one = length_placed_new far x s h in
    let more = length_all_new far xs (placed far x s) d (still_new far x s xs others a) in omega arith

none_there : (xs : List ℕ) → AllByRecursion (λ x. has [] x ≡ false) xs
none_there [] = tt
none_there (x ∷ xs) = (refl, none_there xs)

length_joined : (xs ys : List ℕ) → IsStrictlyIncreasing xs → IsStrictlyIncreasing ys → ShareNothing xs ys → length (ascending (xs ++ ys)) ≡ length xs + length ys
length_joined xs ys r q a =
    let all = length_all_new (λ _. 0) (xs ++ ys) [] (joined_distinct xs ys r q a) (none_there (xs ++ ys)) in
    let both = length-append xs ys in omega arith

-- ---- what a row may have of them

within_small : (rule : Rule) (apart : ℕ → ℕ → ℕ) (p : ℕ) (set : List ℕ) → length set ≤ rule.r → within rule apart p set ≡ set
within_small rule apart p set few = cond-false (ltb rule.r (length set)) (kept rule apart p set) set (le-ltb rule.r (length set) few)

within_large : (rule : Rule) (apart : ℕ → ℕ → ℕ) (p : ℕ) (set : List ℕ) → rule.r < length set → within rule apart p set ≡ kept rule apart p set
within_large rule apart p set many = cond-true (ltb rule.r (length set)) (kept rule apart p set) set (lt-ltb rule.r (length set) many)

pub joined_few : (rule : Rule) (apart : ℕ → ℕ → ℕ) (p : ℕ) (xs ys out : List ℕ) → IsStrictlyIncreasing xs → IsStrictlyIncreasing ys → ShareNothing xs ys → length xs + length ys ≤ rule.r → out ≡ ascending (xs ++ ys) → out ≡ within rule apart p (ascending (xs ++ ys))
joined_few rule apart p xs ys out r q a few is =
    let size = length_joined xs ys r q a in
    is ∙ sym (within_small rule apart p (ascending (xs ++ ys)) (omega arith))

-- a prune goes by the members alone
pub joined_many : (rule : Rule) (apart : ℕ → ℕ → ℕ) (p : ℕ) (xs ys rows out : List ℕ) → IsStrictlyIncreasing xs → IsStrictlyIncreasing ys → ShareNothing xs ys → rule.r < length xs + length ys → rows ≡ xs ++ ys → out ≡ kept rule apart p rows → out ≡ within rule apart p (ascending (xs ++ ys))
joined_many rule apart p xs ys rows out r q a many are is =
    let size = length_joined xs ys r q a in
    is
    ∙ ap (kept rule apart p) are
    ∙ ap (λ (cs : List ℕ). ascending (keep rule apart p [] cs)) (in_order_same (apart p) (xs ++ ys) (ascending (xs ++ ys)) (λ z. sym (has_ascending z (xs ++ ys))))
    ∙ sym (within_large rule apart p (ascending (xs ++ ys)) (omega arith))

-- ---- rows below a bound, and later ones

pub share_nothing : (n high : ℕ) (xs ys : List ℕ) → All (λ row. (0 ≤ row) × (row < n)) xs → All (λ row. (n ≤ row) × (row < high)) ys → ShareNothing xs ys
share_nothing n high xs ys a b =
    All-from_recursion (λ y. has xs y ≡ false) ys (later ys (recursion_from_All (λ row. (n ≤ row) × (row < high)) ys b))
  where
    below : (xs : List ℕ) → AllByRecursion (λ row. (0 ≤ row) × (row < n)) xs → AllByRecursion (λ row. row < n) xs
    below [] t = tt
    below (x ∷ xs) (h, t) = (h.1, below xs t)

    later : (ys : List ℕ) → AllByRecursion (λ row. (n ≤ row) × (row < high)) ys → AllByRecursion (λ y. has xs y ≡ false) ys
    later [] t = tt
    later (y ∷ ys) (h, t) = (none_from_below n y xs (below xs (recursion_from_All (λ row. (0 ≤ row) × (row < n)) xs a)) h.0, later ys t)

-- what holds of both holds of the second
pub all_right : (P : ℕ → Type 0) (xs ys : List ℕ) → All P (xs ++ ys) → All P ys
all_right P xs ys a = All-from_recursion P ys (right_of P xs ys (recursion_from_All P (xs ++ ys) a))
