-- What a binary search finds in an ascending list.
use Rattle.std.proofs.Common.{◌≡◌, ◌≢◌, ℕ, zero, suc, ◌<◌, ◌≤◌, true, false, List, [], ◌∷◌, length, get_or, refl, sym, ap, ◌∙◌, arith, is_ok}
use Rattle.std.specs.Prelude.{◌==◌, ◌||◌, Result, Ok, Err}
use Rattle.std.specs.Ordering.{nat_cmp}
use Rattle.std.specs.List.Sorted.{IsBinarySearchResult}
use Rattle.std.proofs.lemmas.List.Sorted.{searched}
use Rattle.std.proofs.Math.Bool.{or-true}
use mathlib.Core.Logic.{dite}
use Rattle.std.proofs.Math.Decide.{dec_lt}
use Rattle.ann_types.specs.Order.{has}
use Rattle.ann_types.proofs.Booleans.{not_same, same_true}
use Rattle.ann_dead.specs.Pids.{AreAbove, IsAscending}

above_at : (p : ℕ) (xs : List ℕ) (k : ℕ) → AreAbove p xs → k < length xs → p < get_or xs k 0
above_at p [] k h less = absurd (omega arith)
above_at p (x ∷ xs) zero h less = h.0
above_at p (x ∷ xs) (suc k) h less = above_at p xs k h.1 (omega arith)

ascending_at : (xs : List ℕ) (i j : ℕ) → IsAscending xs → i ≤ j → j < length xs → get_or xs i 0 ≤ get_or xs j 0
ascending_at [] i j h le less = absurd (omega arith)
ascending_at (x ∷ xs) zero zero h le less = omega arith
ascending_at (x ∷ xs) zero (suc j) h le less = let a = above_at x xs j h.0 (omega arith) in omega arith
ascending_at (x ∷ xs) (suc i) zero h le less = absurd (omega arith)
ascending_at (x ∷ xs) (suc i) (suc j) h le less = ascending_at xs i j h.1 (omega arith) (omega arith)

has_at : (xs : List ℕ) (p k : ℕ) → k < length xs → get_or xs k 0 ≡ p → has xs p ≡ true
has_at [] p k less is = absurd (omega arith)
has_at (x ∷ xs) p zero less is = ap (λ b. b || has xs p) (same_true p x (sym is))
has_at (x ∷ xs) p (suc k) less is = ap (λ b. (p == x) || b) (has_at xs p k (omega arith) is) ∙ or-true (p == x)

has_nowhere : (xs : List ℕ) (p : ℕ) → ((k : ℕ) → k < length xs → get_or xs k 0 ≢ p) → has xs p ≡ false
has_nowhere [] p h = refl
has_nowhere (x ∷ xs) p h = ap (λ b. b || has xs p) (not_same p x (λ e. h zero (omega arith) (sym e))) ∙ has_nowhere xs p (λ k less. h (suc k) (omega arith))

pub found : (xs : List ℕ) (p : ℕ) (r : Result ℕ ℕ) → IsAscending xs → IsBinarySearchResult (λ y. nat_cmp y p) xs r → is_ok r ≡ has xs p
found xs p (Ok i) up h = let s = searched xs p (Ok i) h (λ a b. ascending_at xs a b up) in sym (has_at xs p i s.0 s.1)
found xs p (Err i) up h =
    let s = searched xs p (Err i) h (λ a b. ascending_at xs a b up) in
    let low = s.1 in
    let high = s.2 in
    sym (has_nowhere xs p (λ k less is. absurd (dite (dec_lt k i) (λ before. let a = low k before in omega arith) (λ not_before. let a = high k (omega arith) less in omega arith))))
