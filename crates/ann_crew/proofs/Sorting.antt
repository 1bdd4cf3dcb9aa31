-- Results in order of their numbers.
use Rattle.std.proofs.Common.{◌≡◌, ◌≢◌, ℕ, zero, suc, ◌+◌, ◌<◌, ◌≤◌, List, [], ◌∷◌, length, map, get_or, cond, eqb, refl, sym, ◌∙◌, subst, arith}
use mathlib.Core.Logic.{dite}
use native.Mathlib.Decide.{ℕ_discrete}
use Rattle.std.specs.List.{range_with_len, sum_by}
use Rattle.std.specs.List.Sorted.{IsPermutation, IsNonDecreasingBy}
use Rattle.std.proofs.lemmas.List.Sorted.{sum_by-IsPermutation, IsNonDecreasingBy-drop}
use Rattle.std.proofs.lemmas.List.Sums.{sum_by-append}
use Rattle.std.proofs.lemmas.Bool.Decides.{nat_tests}
use Rattle.ann_claim.specs.Claims.{times, once_below, IsEachOnce}

record Fills (a n : ℕ) (xs : List ℕ) : Type 0 where
  all : (x : ℕ) → a ≤ x → x < a + n → times x xs ≡ 1
  only : (x : ℕ) → 0 < times x xs → (a ≤ x) × (x < a + n)

here : (y : ℕ) (ys : List ℕ) → times y (y ∷ ys) ≡ 1 + times y ys
here y ys = grind (arith, nat_tests)

apart_from : (x y : ℕ) (ys : List ℕ) → y ≢ x → times x (y ∷ ys) ≡ times x ys
apart_from x y ys ne = grind (arith, nat_tests)

below : (x n : ℕ) → x < n → once_below x n ≡ 1
below x n h = grind (arith, nat_tests)

is_below : (x n : ℕ) → 0 < once_below x n → x < n
is_below x n h = grind (arith, nat_tests)

module _ {X : Type 0} where
  abbrev number : ℕ × X → ℕ
  number p = p.0

  place : (k : ℕ) (rs : List (ℕ × X)) → 0 < times k (map number rs) → (j : ℕ) × (j < length rs) × ((d : ℕ × X) → number (get_or rs j d) ≡ k)
  place k [] h = absurd (omega arith)
  place k (r ∷ rs) h =
      dite (ℕ_discrete (number r) k)
      (λ same. (0, omega arith, λ d. same))
      (λ apart. let f = place k rs (grind (arith, nat_tests)) in (suc f.0, omega arith, λ d. f.2 d))

  in_turn : (a n : ℕ) (rs : List (ℕ × X)) → IsNonDecreasingBy number rs → Fills a n (map number rs) → map number rs ≡ range_with_len a n
  in_turn a zero [] rises fills = refl
  in_turn a (suc n) [] rises fills = let one = fills.all a (omega arith) (omega arith) in absurd (omega arith)
  in_turn a zero (r ∷ rs) rises fills = let first = here (number r) (map number rs) in let in_it = fills.only (number r) (omega arith) in absurd (omega arith)
  in_turn a (suc n) (r ∷ rs) rises fills =
      let y = number r in
      let ys = map number rs in
      let head = here y ys in
      let low = fills.only y (omega arith) in
      let one = fills.all a (omega arith) (omega arith) in
      let at = place a (r ∷ rs) (omega arith) in
      let most = rises 0 at.0 r (omega arith) at.1 in
      let is_a = at.2 r in
      let same : y ≡ a = omega arith in
      let gone : times a ys ≡ 0 = (let e : times a (y ∷ ys) ≡ 1 + times a ys = subst (λ (k : ℕ). times k (y ∷ ys) ≡ 1 + times k ys) same head in omega arith) in
      let next = in_turn (a + 1) n rs (IsNonDecreasingBy-drop number 1 (r ∷ rs) rises) (record {
        all = λ x from below. sym (apart_from x y ys (λ e. omega arith)) ∙ fills.all x (omega arith) (omega arith);
        only = λ x some_there.
            let not_a : x ≢ a = (λ e. let z : times x ys ≡ 0 = subst (λ (k : ℕ). times k ys ≡ 0) (sym e) gone in omega arith) in
            let was = fills.only x (subst (λ (k : ℕ). 0 < k) (sym (apart_from x y ys (λ e. not_a (sym e ∙ same)))) some_there) in
            (omega arith, omega arith);
      }) in
      (λ i. same i ∷ next i)

  times_is : (x : ℕ) (rs : List (ℕ × X)) → times x (map number rs) ≡ sum_by (λ p. cond {A = ℕ} (eqb (number p) x) 1 0) rs
  times_is x [] = refl
  times_is x (r ∷ rs) = let f : ℕ × X → ℕ = λ p. cond {A = ℕ} (eqb (number p) x) 1 0 in let sum = sum_by-append f (r ∷ []) rs in let rest = times_is x rs in omega arith

  -- results of all numbers below n, sorted by number, have the numbers in order
  pub in_order : (n : ℕ) (rs ss : List (ℕ × X)) → IsEachOnce n (map number rs) → IsPermutation rs ss → IsNonDecreasingBy number ss → map number ss ≡ range_with_len 0 n
  in_order n rs ss once same rises =
      let moved : (x : ℕ) → times x (map number ss) ≡ once_below x n =
      λ x. times_is x ss ∙ sum_by-IsPermutation (λ p. cond {A = ℕ} (eqb (number p) x) 1 0) rs ss same ∙ sym (times_is x rs) ∙ once x in
      in_turn 0 n ss rises (record {
        all = λ x _ less. moved x ∙ below x n (omega arith);
        only = λ x some_there. (omega arith, (let m = moved x in let b = is_below x n (omega arith) in omega arith));
      })
