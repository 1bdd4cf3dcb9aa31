-- How many rows there may be: no more than Pids.
use Rattle.std.proofs.Common.{ℕ, ◌+◌, ◌≤◌, ◌<◌, List, [], ◌∷◌, ◌++◌, arith, map, length, length-append}
use Rattle.std.specs.Prelude.{All}
use Rattle.std.specs.List.{AllByRecursion}
use Rattle.std.specs.List.Sorted.{IsStrictlyIncreasing}
use Rattle.std.proofs.lemmas.List.{length-map}
use Rattle.std.proofs.lemmas.List.Elements.{recursion_from_All}
use Rattle.ann_types.proofs.Sets.{Rises, all_append, all_map, rises_from_increasing}

from_above : (x : ℕ) (xs : List ℕ) → AllByRecursion (λ y. x < y) xs → AllByRecursion (λ y. x + 1 ≤ y) xs
from_above x [] a = tt
from_above x (y ∷ xs) (h, a) = (omega arith, from_above x xs a)

from_none : (xs : List ℕ) → AllByRecursion (λ y. 0 ≤ y) xs
from_none [] = tt
from_none (x ∷ xs) = (omega arith, from_none xs)

rises_few : (m n : ℕ) (xs : List ℕ) → m ≤ n → AllByRecursion (λ x. m ≤ x) xs → Rises xs → AllByRecursion (λ x. x < n) xs → m + length xs ≤ n
rises_few m n [] h a r b = omega arith
rises_few m n (x ∷ xs) h (l, a) (up, r) (k, b) = let rest = rises_few (x + 1) n xs (omega arith) (from_above x xs up) r b in omega arith

-- Pids of two kinds, all below a limit, that ascend through both are no more than the limit
pub few_rows : {A B : Type 0} (f : A → ℕ) (g : B → ℕ) (xs : List A) (ys : List B) (n : ℕ) → IsStrictlyIncreasing (map f xs ++ map g ys) → All (λ x. f x < n) xs → All (λ y. g y < n) ys → length xs + length ys ≤ n
few_rows f g xs ys n rising small new =
    let all : List ℕ = map f xs ++ map g ys in
    let below : AllByRecursion (λ p. p < n) all =
    all_append (λ p. p < n) (map f xs) (map g ys)
    (all_map (λ p. p < n) f xs (recursion_from_All (λ x. f x < n) xs small))
    (all_map (λ p. p < n) g ys (recursion_from_All (λ y. g y < n) ys new)) in
    let few = rises_few 0 n all (omega arith) (from_none all) (rises_from_increasing all rising) below in
    let both = length-append (map f xs) (map g ys) in
    let first = length-map xs f in
    let second = length-map ys g in
    omega arith
