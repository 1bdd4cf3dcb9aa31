-- Lists of numbers that were drawn.
use Rattle.std.proofs.Common.{◌≡◌, ℕ, ◌+◌, ◌<◌, ◌≤◌, max, List, [], ◌∷◌, ◌++◌, arith}
use Rattle.std.proofs.lemmas.Bool.Decides.{nat_tests}
use Rattle.ann_claim.specs.Claims.{least_above, times}

pub times_append : (x : ℕ) (xs ys : List ℕ) → times x (xs ++ ys) ≡ times x xs + times x ys
times_append x [] ys = omega arith
times_append x (y ∷ xs) ys = let r = times_append x xs ys in omega arith

-- where each number in the list is below k, k is above them all
pub least_above_le : (k : ℕ) (xs : List ℕ) → ((x : ℕ) → 0 < times x xs → x < k) → least_above xs ≤ k
least_above_le k [] h = omega arith
least_above_le k (y ∷ ys) h =
    let here : 0 < times y (y ∷ ys) = grind (arith, nat_tests) in
    let first = h y here in
    let r = least_above_le k ys (λ x some_there. h x (omega arith)) in
    omega arith

-- one number more, so that a loop over draws has a measure
pub least_above_last : (xs : List ℕ) (x : ℕ) → least_above (xs ++ x ∷ []) ≡ max (least_above xs) (x + 1)
least_above_last [] x = omega arith
least_above_last (y ∷ xs) x = let r = least_above_last xs x in omega arith
