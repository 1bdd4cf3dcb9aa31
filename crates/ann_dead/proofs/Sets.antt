-- Sets of Pids as ascending lists.
use Rattle.std.proofs.Common.{◌≡◌, ℕ, ◌+◌, ◌<◌, ◌≤◌, Bool, true, false, List, [], ◌∷◌, length, refl, sym, ap, ◌∙◌, subst, filter, arith}
use Rattle.std.specs.Prelude.{◌==◌, ◌||◌, if◌then◌else◌}
use Rattle.std.proofs.lemmas.Bool.Decides.{nat_tests}
use Rattle.std.proofs.Math.Decide.{dec_lt}
use mathlib.Core.Logic.{dite}
use native.Mathlib.Decide.{ℕ_discrete}
use Rattle.ann_types.specs.Order.{has}
use Rattle.ann_types.proofs.Booleans.{not_same, or_assoc, or_swap, or_twice, same_true}
use Rattle.ann_dead.specs.Pids.{with_pid, union, union_of, AreAbove, AreBelow, IsAscending}
use Rattle.ann_dead.specs.Dead.{total}

-- The three cases of a Pid that comes in

pub with_less : (p x : ℕ) (xs : List ℕ) → p < x → with_pid p (x ∷ xs) ≡ p ∷ x ∷ xs
with_less p x xs h = grind (arith, nat_tests)

pub with_same : (p x : ℕ) (xs : List ℕ) → p ≡ x → with_pid p (x ∷ xs) ≡ x ∷ xs
with_same p x xs h = grind (arith, nat_tests)

pub with_more : (p x : ℕ) (xs : List ℕ) → x < p → with_pid p (x ∷ xs) ≡ x ∷ with_pid p xs
with_more p x xs h = grind (arith, nat_tests)

module _ {ℓ} {P : Type ℓ} where
  pub order_cases : (p x : ℕ) → (p < x → P) → (p ≡ x → P) → (x < p → P) → P
  order_cases p x less same more = dite (dec_lt p x) less (λ not_less. dite (ℕ_discrete p x) same (λ apart. more (omega arith)))

-- Members

pub has_with : (p : ℕ) (xs : List ℕ) (q : ℕ) → has (with_pid p xs) q ≡ ((q == p) || has xs q)
has_with p [] q = refl
has_with p (x ∷ xs) q =
    order_cases p x
    (λ less. ap (λ l. has l q) (with_less p x xs less))
    (λ same. ap (λ l. has l q) (with_same p x xs same) ∙ sym (or_twice (q == x) (has xs q)) ∙ ap (λ y. (q == y) || ((q == x) || has xs q)) (sym same))
    (λ more. ap (λ l. has l q) (with_more p x xs more) ∙ ap (λ b. (q == x) || b) (has_with p xs q) ∙ or_swap (q == x) (q == p) (has xs q))

pub has_union : (xs ys : List ℕ) (q : ℕ) → has (union xs ys) q ≡ (has xs q || has ys q)
has_union [] ys q = refl
has_union (x ∷ xs) ys q = has_with x (union xs ys) q ∙ ap (λ b. (q == x) || b) (has_union xs ys q) ∙ or_assoc (q == x) (has xs q) (has ys q)

-- Order

pub above_trans : (p q : ℕ) (xs : List ℕ) → p < q → AreAbove q xs → AreAbove p xs
above_trans p q [] less h = tt
above_trans p q (x ∷ xs) less h = (omega arith, above_trans p q xs less h.1)

above_with : (p q : ℕ) (xs : List ℕ) → p < q → AreAbove p xs → AreAbove p (with_pid q xs)
above_with p q [] less h = (less, tt)
above_with p q (x ∷ xs) less h =
    order_cases q x
    (λ l. subst (AreAbove p) (sym (with_less q x xs l)) (less, h))
    (λ s. subst (AreAbove p) (sym (with_same q x xs s)) h)
    (λ m. subst (AreAbove p) (sym (with_more q x xs m)) (h.0, above_with p q xs less h.1))

pub above_union : (p : ℕ) (xs ys : List ℕ) → AreAbove p xs → AreAbove p ys → AreAbove p (union xs ys)
above_union p [] ys a b = b
above_union p (x ∷ xs) ys a b = above_with p x (union xs ys) a.0 (above_union p xs ys a.1 b)

pub ascending_with : (p : ℕ) (xs : List ℕ) → IsAscending xs → IsAscending (with_pid p xs)
ascending_with p [] h = (tt, tt)
ascending_with p (x ∷ xs) h =
    order_cases p x
    (λ l. subst IsAscending (sym (with_less p x xs l)) ((l, above_trans p x xs l h.0), h))
    (λ s. subst IsAscending (sym (with_same p x xs s)) h)
    (λ m. subst IsAscending (sym (with_more p x xs m)) (above_with x p xs m h.0, ascending_with p xs h.1))

pub ascending_union : (xs ys : List ℕ) → IsAscending ys → IsAscending (union xs ys)
ascending_union [] ys h = h
ascending_union (x ∷ xs) ys h = ascending_with x (union xs ys) (ascending_union xs ys h)

pub ascending_union_of : (sets : List (List ℕ)) → IsAscending (union_of sets)
ascending_union_of [] = tt
ascending_union_of (s ∷ sets) = ascending_union s (union_of sets) (ascending_union_of sets)

-- nothing at or below p is among what is above it
pub above_lacks : (p q : ℕ) (xs : List ℕ) → q ≤ p → AreAbove p xs → has xs q ≡ false
above_lacks p q [] le h = refl
above_lacks p q (x ∷ xs) le h = let apart = not_same q x (λ e. omega arith) in ap (λ b. b || has xs q) apart ∙ above_lacks p q xs le h.1

-- Two ascending lists with the same members are one

first_same : (x y : ℕ) (xs ys : List ℕ) → AreAbove x xs → AreAbove y ys → ((q : ℕ) → has (x ∷ xs) q ≡ has (y ∷ ys) q) → x ≡ y
first_same x y xs ys a b same =
    order_cases x y
    (λ less. let no : has (y ∷ ys) x ≡ false = ap (λ t. t || has ys x) (not_same x y (λ e. omega arith)) ∙ above_lacks y x ys (omega arith) b in
    let yes : has (x ∷ xs) x ≡ true = ap (λ t. t || has xs x) (same_true x x refl) in cc (same x))
    (λ e. e)
    (λ more. let no : has (x ∷ xs) y ≡ false = ap (λ t. t || has xs y) (not_same y x (λ e. omega arith)) ∙ above_lacks x y xs (omega arith) a in
    let yes : has (y ∷ ys) y ≡ true = ap (λ t. t || has ys y) (same_true y y refl) in cc (same y))

rest_same : (x : ℕ) (xs ys : List ℕ) → AreAbove x xs → AreAbove x ys → ((q : ℕ) → has (x ∷ xs) q ≡ has (x ∷ ys) q) → (q : ℕ) → has xs q ≡ has ys q
rest_same x xs ys a b same q =
    dite (ℕ_discrete x q)
    (λ e. above_lacks x q xs (omega arith) a ∙ sym (above_lacks x q ys (omega arith) b))
    (λ apart. let no = not_same q x (λ e. apart (sym e)) in sym (ap (λ t. t || has xs q) no) ∙ same q ∙ ap (λ t. t || has ys q) no)

pub same_set : (xs ys : List ℕ) → IsAscending xs → IsAscending ys → ((q : ℕ) → has xs q ≡ has ys q) → xs ≡ ys
same_set [] [] a b same = refl
same_set [] (y ∷ ys) a b same = let yes : has (y ∷ ys) y ≡ true = ap (λ t. t || has ys y) (same_true y y refl) in cc (same y)
same_set (x ∷ xs) [] a b same = let yes : has (x ∷ xs) x ≡ true = ap (λ t. t || has xs x) (same_true x x refl) in cc (same x)
same_set (x ∷ xs) (y ∷ ys) a b same =
    let first = first_same x y xs ys a.0 b.0 same in
    let b' : AreAbove x ys = subst (λ (n : ℕ). AreAbove n ys) (sym first) b.0 in
    let same' : (q : ℕ) → has (x ∷ xs) q ≡ has (x ∷ ys) q = λ q. same q ∙ ap (λ (n : ℕ). has (n ∷ ys) q) (sym first) in
    ap (λ l. x ∷ l) (same_set xs ys a.1 b.1 (rest_same x xs ys a.0 b' same')) ∙ ap (λ (n : ℕ). n ∷ ys) first

-- Sizes

pub length_with_le : (p : ℕ) (xs : List ℕ) → length (with_pid p xs) ≤ length xs + 1
length_with_le p [] = omega arith
length_with_le p (x ∷ xs) =
    order_cases p x
    (λ l. let e = ap length (with_less p x xs l) in omega arith)
    (λ s. let e = ap length (with_same p x xs s) in omega arith)
    (λ m. let e = ap length (with_more p x xs m) in let r = length_with_le p xs in omega arith)

pub length_with_new : (p : ℕ) (xs : List ℕ) → has xs p ≡ false → length (with_pid p xs) ≡ length xs + 1
length_with_new p [] h = omega arith
length_with_new p (x ∷ xs) h =
    order_cases p x
    (λ l. let e = ap length (with_less p x xs l) in omega arith)
    (λ s. let yes = ap (λ t. t || has xs p) (same_true p x s) in cc)
    (λ m. let no = ap (λ t. t || has xs p) (not_same p x (λ e. omega arith)) in let e = ap length (with_more p x xs m) in let r = length_with_new p xs (sym no ∙ h) in omega arith)

pub length_union_le : (xs ys : List ℕ) → length (union xs ys) ≤ length xs + length ys
length_union_le [] ys = omega arith
length_union_le (x ∷ xs) ys = let a = length_with_le x (union xs ys) in let r = length_union_le xs ys in omega arith

pub length_union_of_le : (sets : List (List ℕ)) → length (union_of sets) ≤ total sets
length_union_of_le [] = omega arith
length_union_of_le (s ∷ sets) = let a = length_union_le s (union_of sets) in let r = length_union_of_le sets in omega arith

-- ascending numbers above a and below b are fewer than b - a
pub length_ascending : (a b : ℕ) (xs : List ℕ) → a < b → AreAbove a xs → AreBelow b xs → IsAscending xs → length xs + a + 1 ≤ b
length_ascending a b [] less above below h = omega arith
length_ascending a b (x ∷ xs) less above below h = let r = length_ascending x b xs below.0 h.0 below.1 h.1 in let first = above.0 in omega arith

-- Merging

pub with_front : (p : ℕ) (xs : List ℕ) → AreAbove p xs → with_pid p xs ≡ p ∷ xs
with_front p [] h = refl
with_front p (x ∷ xs) h = with_less p x xs h.0

pub union_left : (x : ℕ) (xs ys : List ℕ) → AreAbove x xs → AreAbove x ys → union (x ∷ xs) ys ≡ x ∷ union xs ys
union_left x xs ys a b = with_front x (union xs ys) (above_union x xs ys a b)

pub union_right : (xs : List ℕ) (y : ℕ) (ys : List ℕ) → AreAbove y xs → union xs (y ∷ ys) ≡ y ∷ union xs ys
union_right [] y ys h = refl
union_right (x ∷ xs) y ys h = ap (with_pid x) (union_right xs y ys h.1) ∙ with_more x y (union xs ys) h.0

pub union_both : (x : ℕ) (xs ys : List ℕ) → AreAbove x xs → union (x ∷ xs) (x ∷ ys) ≡ x ∷ union xs ys
union_both x xs ys h = ap (with_pid x) (union_right xs x ys h) ∙ with_same x x (union xs ys) refl

pub union_nothing : (xs : List ℕ) → IsAscending xs → union xs [] ≡ xs
union_nothing [] h = refl
union_nothing (x ∷ xs) h = ap (with_pid x) (union_nothing xs h.1) ∙ with_front x xs h.0

-- What is there already

pub with_present : (p : ℕ) (xs : List ℕ) → has xs p ≡ true → IsAscending xs → with_pid p xs ≡ xs
with_present p [] there h = cc
with_present p (x ∷ xs) there h =
    order_cases p x
    (λ less. let no : has (x ∷ xs) p ≡ false = above_lacks p p (x ∷ xs) (omega arith) (less, above_trans p x xs less h.0) in cc)
    (λ same. with_same p x xs same)
    (λ more. let no = ap (λ t. t || has xs p) (not_same p x (λ e. omega arith)) in with_more p x xs more ∙ ap (λ l. x ∷ l) (with_present p xs (sym no ∙ there) h.1))

-- Removing

above_by : (p x : ℕ) (ys : List ℕ) (b : Bool) → p < x → AreAbove p ys → AreAbove p (if b then x ∷ ys else ys)
above_by p x ys true less h = (less, h)
above_by p x ys false less h = h

above_filter : (p : ℕ) (test : ℕ → Bool) (xs : List ℕ) → AreAbove p xs → AreAbove p (filter test xs)
above_filter p test [] h = tt
above_filter p test (x ∷ xs) h = above_by p x (filter test xs) (test x) h.0 (above_filter p test xs h.1)

ascending_by : (x : ℕ) (ys : List ℕ) (b : Bool) → AreAbove x ys → IsAscending ys → IsAscending (if b then x ∷ ys else ys)
ascending_by x ys true above h = (above, h)
ascending_by x ys false above h = h

pub ascending_filter : (test : ℕ → Bool) (xs : List ℕ) → IsAscending xs → IsAscending (filter test xs)
ascending_filter test [] h = tt
ascending_filter test (x ∷ xs) h = ascending_by x (filter test xs) (test x) (above_filter x test xs h.0) (ascending_filter test xs h.1)
