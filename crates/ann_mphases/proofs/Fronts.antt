-- The first so many of some, or all of fewer.
use Rattle.std.proofs.Common.{◌≡◌, ℕ, List, sym, ap, ◌∙◌, arith, take, drop, length, min, inl, inr}
use Rattle.std.proofs.lemmas.Bool.{cases_lt}
use Rattle.std.proofs.lemmas.List.{drop_all, take_all}

pub first_of : {A : Type 0} (n : ℕ) (xs : List A) → take (min (length xs) n) xs ≡ take n xs
first_of n xs = elim (cases_lt (length xs) n) as (λ _. take (min (length xs) n) xs ≡ take n xs) [
  | inl l ↦ take_all (min (length xs) n) xs (omega arith) ∙ sym (take_all n xs (omega arith))
  | inr l ↦ ap (λ (k : ℕ). take k xs) (let e : min (length xs) n ≡ n = omega arith in e)
]

pub rest_of : {A : Type 0} (n : ℕ) (xs : List A) → drop (min (length xs) n) xs ≡ drop n xs
rest_of n xs = elim (cases_lt (length xs) n) as (λ _. drop (min (length xs) n) xs ≡ drop n xs) [
  | inl l ↦ drop_all (min (length xs) n) xs (omega arith) ∙ sym (drop_all n xs (omega arith))
  | inr l ↦ ap (λ (k : ℕ). drop k xs) (let e : min (length xs) n ≡ n = omega arith in e)
]
