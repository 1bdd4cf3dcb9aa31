-- Lemmas on points in order.
use Rattle.std.proofs.Common.{◌⊎◌, inl, inr, ltb-true, eqb-true, lt-ltb, eq-eqb, ◌≡◌, ℕ, zero, suc, ◌≤◌, ◌<◌, true, false, cond, eqb, List, [], ◌∷◌, ◌++◌, ◌||◌, refl, sym, ap, subst, ◌∙◌, arith, take, append_assoc, append-nil}
use Rattle.std.proofs.lemmas.List.{take-take}
use Rattle.std.proofs.lemmas.Bool.{false≢true, cond-true, cond-false, eqb-false, or_cases, and_parts, or_left, or_right, and_from, false_from_ne_true, both_ways, ne_eqb}
use Rattle.ann_types.specs.Order.{before, placed, all_placed, in_order, top, has}
use Rattle.ann_types.proofs.Booleans.{or_false, or_assoc, or_swap, or_twice}

cut_cons : (n y : ℕ) (s : List ℕ) → take n (y ∷ take n s) ≡ take n (y ∷ s)
cut_cons zero y s = refl
cut_cons (suc n) y s = ap (λ t. y ∷ t) (take-take n (suc n) s (omega arith))

-- What place a point takes among the n least depends on the n least alone.
pub cut_placed : (far : ℕ → ℕ) (n x : ℕ) (s : List ℕ) → take n (placed far x (take n s)) ≡ take n (placed far x s)
cut_placed far zero x s = refl
cut_placed far (suc n) x [] = refl
cut_placed far (suc n) x (y ∷ s) =
    elim (before far x y) as (λ b. take (suc n) (cond b (x ∷ y ∷ take n s) (cond (eqb x y) (y ∷ take n s) (y ∷ placed far x (take n s)))) ≡ take (suc n) (cond b (x ∷ y ∷ s) (cond (eqb x y) (y ∷ s) (y ∷ placed far x s)))) [
      | true ↦ ap (λ t. x ∷ t) (cut_cons n y s)
      | false ↦ elim (eqb x y) as (λ b. take (suc n) (cond b (y ∷ take n s) (y ∷ placed far x (take n s))) ≡ take (suc n) (cond b (y ∷ s) (y ∷ placed far x s))) [
        | true ↦ ap (λ t. y ∷ t) (take-take n n s (omega arith))
        | false ↦ ap (λ t. y ∷ t) (cut_placed far n x s)
      ]
    ]

-- A point that has left the n least never returns: all that is placed later can be placed among them.
pub cut_all_placed : (far : ℕ → ℕ) (n : ℕ) (s xs : List ℕ) → take n (all_placed far (take n s) xs) ≡ take n (all_placed far s xs)
cut_all_placed far n s [] = take-take n n s (omega arith)
cut_all_placed far n s (x ∷ xs) =
    sym (cut_all_placed far n (placed far x (take n s)) xs)
    ∙ ap (λ t. take n (all_placed far t xs)) (cut_placed far n x s)
    ∙ cut_all_placed far n (placed far x s) xs

pub all_placed-append : (far : ℕ → ℕ) (s xs ys : List ℕ) → all_placed far s (xs ++ ys) ≡ all_placed far (all_placed far s xs) ys
all_placed-append far s [] ys = refl
all_placed-append far s (x ∷ xs) ys = all_placed-append far (placed far x s) xs ys

-- the points rise in order
abbrev pub IsAfter : (ℕ → ℕ) → ℕ → List ℕ → Type 0
IsAfter far x [] = Unit {0}
IsAfter far x (y ∷ ys) = (before far x y ≡ true) × IsAfter far x ys

abbrev pub IsRising : (ℕ → ℕ) → List ℕ → Type 0
IsRising far [] = Unit {0}
IsRising far (x ∷ xs) = IsAfter far x xs × IsRising far xs

-- x stands before y
abbrev pub IsBefore : (ℕ → ℕ) → ℕ → ℕ → Type 0
IsBefore far x y = (far x < far y) ⊎ ((far x ≡ far y) × (x < y))

pub before_tells : (far : ℕ → ℕ) (x y : ℕ) → before far x y ≡ true → IsBefore far x y
before_tells far x y h =
    elim (or_cases _ _ h) [
      | inl l ↦ inl (ltb-true (far x) (far y) l)
      | inr r ↦ let p = and_parts _ _ r in inr (eqb-true (far x) (far y) p.0, ltb-true x y p.1)
    ]

pub before_from : (far : ℕ → ℕ) (x y : ℕ) → IsBefore far x y → before far x y ≡ true
before_from far x y (inl l) = or_left _ _ (lt-ltb (far x) (far y) l)
before_from far x y (inr (e, l)) = or_right _ _ (and_from _ _ (eq-eqb (far x) (far y) e) (lt-ltb x y l))

pub not_before : (far : ℕ → ℕ) (x y : ℕ) → (IsBefore far x y → ⊥) → before far x y ≡ false
not_before far x y h = false_from_ne_true _ (λ e. h (before_tells far x y e))

pub before-irreflexive : (far : ℕ → ℕ) (x : ℕ) → before far x x ≡ false
before-irreflexive far x = not_before far x x (λ h. omega arith)

pub before-asymmetric : (far : ℕ → ℕ) (x y : ℕ) → before far x y ≡ true → before far y x ≡ false
before-asymmetric far x y h = let a = before_tells far x y h in not_before far y x (λ b. omega arith)

pub before-trans : (far : ℕ → ℕ) (x y z : ℕ) → before far x y ≡ true → before far y z ≡ true → before far x z ≡ true
before-trans far x y z h k =
    let a = before_tells far x y h in
    let b = before_tells far y z k in
    let c : IsBefore far x z = grind arith in before_from far x z c

pub before-total : (far : ℕ → ℕ) (x y : ℕ) → before far x y ≡ false → eqb x y ≡ false → before far y x ≡ true
before-total far x y h k =
    let ne = eqb-false x y k in
    let no : IsBefore far x y → ⊥ = λ b. both_ways _ h (before_from far x y b) in
    let c : IsBefore far y x = grind arith in before_from far y x c

pub after-trans : (far : ℕ → ℕ) (x y : ℕ) (s : List ℕ) → before far x y ≡ true → IsAfter far y s → IsAfter far x s
after-trans far x y [] h a = tt
after-trans far x y (z ∷ s) h (b, a) = (before-trans far x y z h b, after-trans far x y s h a)

pub after_placed : (far : ℕ → ℕ) (z x : ℕ) (s : List ℕ) → before far z x ≡ true → IsAfter far z s → IsAfter far z (placed far x s)
after_placed far z x [] h a = (h, tt)
after_placed far z x (y ∷ s) h (b, a) =
    elim (before far x y) as (λ t. IsAfter far z (cond t (x ∷ y ∷ s) (cond (eqb x y) (y ∷ s) (y ∷ placed far x s)))) [
      | true ↦ (h, (b, a))
      | false ↦ elim (eqb x y) as (λ t. IsAfter far z (cond t (y ∷ s) (y ∷ placed far x s))) [
        | true ↦ (b, a)
        | false ↦ (b, after_placed far z x s h a)
      ]
    ]

pub rising_placed : (far : ℕ → ℕ) (x : ℕ) (s : List ℕ) → IsRising far s → IsRising far (placed far x s)
rising_placed far x [] r = (tt, tt)
rising_placed far x (y ∷ s) (a, r) =
    elim (before far x y) as (λ t. before far x y ≡ t → IsRising far (cond t (x ∷ y ∷ s) (cond (eqb x y) (y ∷ s) (y ∷ placed far x s)))) [
      | true ↦ λ h. ((h, after-trans far x y s h a), (a, r))
      | false ↦ λ h. elim (eqb x y) as (λ t. eqb x y ≡ t → IsRising far (cond t (y ∷ s) (y ∷ placed far x s))) [
        | true ↦ λ e. (a, r)
        | false ↦ λ e. (after_placed far y x s (before-total far x y h e) a, rising_placed far x s r)
      ] refl
    ] refl

pub rising_all : (far : ℕ → ℕ) (xs s : List ℕ) → IsRising far s → IsRising far (all_placed far s xs)
rising_all far [] s r = r
rising_all far (x ∷ xs) s r = rising_all far xs (placed far x s) (rising_placed far x s r)

pub has_here : (y z : ℕ) (s : List ℕ) → eqb z y ≡ true → has (y ∷ s) z ≡ true
has_here y z s h = or_left (eqb z y) (has s z) h

pub has_later : (y z : ℕ) (s : List ℕ) → has s z ≡ true → has (y ∷ s) z ≡ true
has_later y z s h = or_right (eqb z y) (has s z) h

pub has_cases : (y z : ℕ) (s : List ℕ) → has (y ∷ s) z ≡ true → (eqb z y ≡ true) ⊎ (has s z ≡ true)
has_cases y z s h = or_cases (eqb z y) (has s z) h

-- A list has a point that is placed, and those that it had.
pub has_placed : (far : ℕ → ℕ) (x z : ℕ) (s : List ℕ) → has (placed far x s) z ≡ (eqb z x || has s z)
has_placed far x z [] = refl
has_placed far x z (y ∷ s) =
    elim (before far x y) as (λ t. has (cond t (x ∷ y ∷ s) (cond (eqb x y) (y ∷ s) (y ∷ placed far x s))) z ≡ (eqb z x || (eqb z y || has s z))) [
      | true ↦ refl
      | false ↦ elim (eqb x y) as (λ t. eqb x y ≡ t → has (cond t (y ∷ s) (y ∷ placed far x s)) z ≡ (eqb z x || (eqb z y || has s z))) [
        | true ↦ λ e. sym (or_twice (eqb z y) (has s z)) ∙ ap (λ t. eqb z t || (eqb z y || has s z)) (sym (eqb-true x y e))
        | false ↦ λ e. ap (λ t. eqb z y || t) (has_placed far x z s) ∙ or_swap (eqb z y) (eqb z x) (has s z)
      ] refl
    ]

pub has_all_placed : (far : ℕ → ℕ) (z : ℕ) (xs s : List ℕ) → has (all_placed far s xs) z ≡ (has xs z || has s z)
has_all_placed far z [] s = refl
has_all_placed far z (x ∷ xs) s =
    has_all_placed far z xs (placed far x s)
    ∙ ap (λ t. has xs z || t) (has_placed far x z s)
    ∙ or_swap (has xs z) (eqb z x) (has s z)
    ∙ or_assoc (eqb z x) (has xs z) (has s z)

pub has_append : (xs ys : List ℕ) (z : ℕ) → has (xs ++ ys) z ≡ (has xs z || has ys z)
has_append [] ys z = refl
has_append (x ∷ xs) ys z = ap (λ t. eqb z x || t) (has_append xs ys z) ∙ or_assoc (eqb z x) (has xs z) (has ys z)

-- Putting points in order changes none of them.
pub has_in_order : (far : ℕ → ℕ) (z : ℕ) (xs : List ℕ) → has (in_order far xs) z ≡ has xs z
has_in_order far z xs = has_all_placed far z xs [] ∙ or_false (has xs z)

pub after_has : (far : ℕ → ℕ) (y x : ℕ) (s : List ℕ) → IsAfter far y s → has s x ≡ true → before far y x ≡ true
after_has far y x [] a h = absurd (false≢true h)
after_has far y x (z ∷ s) (b, a) h =
    elim (has_cases z x s h) [ inl e ↦ subst (λ (t : ℕ). before far y t ≡ true) (sym (eqb-true x z e)) b | inr k ↦ after_has far y x s a k ]

-- A point that is there changes nothing.
pub placed_there : (far : ℕ → ℕ) (x : ℕ) (s : List ℕ) → IsRising far s → has s x ≡ true → placed far x s ≡ s
placed_there far x [] r h = absurd (false≢true h)
placed_there far x (y ∷ s) (a, r) h =
    let not_first : before far x y ≡ false =
    elim (has_cases y x s h) [
      | inl e ↦ subst (λ (t : ℕ). before far x t ≡ false) (eqb-true x y e) (before-irreflexive far x)
      | inr k ↦ before-asymmetric far y x (after_has far y x s a k)
    ] in
    cond-false _ _ _ not_first
    ∙ elim (has_cases y x s h) as (λ _. cond (eqb x y) (y ∷ s) (y ∷ placed far x s) ≡ y ∷ s) [
      | inl e ↦ cond-true _ _ _ e
      | inr k ↦ elim (eqb x y) as (λ t. cond t (y ∷ s) (y ∷ placed far x s) ≡ y ∷ s) [ true ↦ refl | false ↦ ap (λ t. y ∷ t) (placed_there far x s r k) ]
    ]

-- Points that rise in order are in order already.
abbrev pub IsBelow : (ℕ → ℕ) → List ℕ → ℕ → Type 0
IsBelow far [] x = Unit {0}
IsBelow far (y ∷ s) x = (before far y x ≡ true) × IsBelow far s x

placed_last : (far : ℕ → ℕ) (x : ℕ) (s : List ℕ) → IsBelow far s x → placed far x s ≡ s ++ x ∷ []
placed_last far x [] b = refl
placed_last far x (y ∷ s) (h, b) =
    cond-false _ _ _ (before-asymmetric far y x h)
    ∙ cond-false _ _ _ (ne_eqb x y (λ e. both_ways _ (before-irreflexive far y) (subst (λ (t : ℕ). before far y t ≡ true) e h)))
    ∙ ap (λ t. y ∷ t) (placed_last far x s b)

after_middle : (far : ℕ → ℕ) (y x : ℕ) (s xs : List ℕ) → IsAfter far y (s ++ x ∷ xs) → before far y x ≡ true
after_middle far y x [] xs (h, a) = h
after_middle far y x (z ∷ s) xs (h, a) = after_middle far y x s xs a

below_middle : (far : ℕ → ℕ) (x : ℕ) (s xs : List ℕ) → IsRising far (s ++ x ∷ xs) → IsBelow far s x
below_middle far x [] xs r = tt
below_middle far x (y ∷ s) xs (a, r) = (after_middle far y x s xs a, below_middle far x s xs r)

all_placed_rising : (far : ℕ → ℕ) (s xs : List ℕ) → IsRising far (s ++ xs) → all_placed far s xs ≡ s ++ xs
all_placed_rising far s [] r = sym (append-nil s)
all_placed_rising far s (x ∷ xs) r =
    ap (λ t. all_placed far t xs) (placed_last far x s (below_middle far x s xs r))
    ∙ all_placed_rising far (s ++ x ∷ []) xs (subst (IsRising far) (sym (append_assoc s (x ∷ []) xs)) r)
    ∙ append_assoc s (x ∷ []) xs

pub in_order_rising : (far : ℕ → ℕ) (s : List ℕ) → IsRising far s → in_order far s ≡ s
in_order_rising far s r = all_placed_rising far [] s r

pub rising_in_order : (far : ℕ → ℕ) (xs : List ℕ) → IsRising far (in_order far xs)
rising_in_order far xs = rising_all far xs [] tt

after_take : (far : ℕ → ℕ) (n x : ℕ) (s : List ℕ) → IsAfter far x s → IsAfter far x (take n s)
after_take far zero x s a = tt
after_take far (suc n) x [] a = tt
after_take far (suc n) x (y ∷ s) (h, a) = (h, after_take far n x s a)

pub rising_take : (far : ℕ → ℕ) (n : ℕ) (s : List ℕ) → IsRising far s → IsRising far (take n s)
rising_take far zero s r = tt
rising_take far (suc n) [] r = tt
rising_take far (suc n) (x ∷ s) (a, r) = (after_take far n x s a, rising_take far n s r)

pub rising_top : (far : ℕ → ℕ) (n : ℕ) (xs : List ℕ) → IsRising far (top far n xs)
rising_top far n xs = rising_take far n (in_order far xs) (rising_in_order far xs)

-- ---- Two lists that rise and have the same members are the same

head_least : (far : ℕ → ℕ) (x y : ℕ) (xs ys : List ℕ) → IsRising far (x ∷ xs) → IsRising far (y ∷ ys) → has (y ∷ ys) x ≡ true → has (x ∷ xs) y ≡ true → x ≡ y
head_least far x y xs ys r q h k =
    elim (has_cases y x ys h) [
      | inl e ↦ eqb-true x y e
      | inr m ↦ elim (has_cases x y xs k) [
        | inl e ↦ sym (eqb-true y x e)
        | inr n ↦ absurd (false≢true (sym (before-asymmetric far x y (after_has far x y xs r.0 n)) ∙ after_has far y x ys q.0 m))
      ]
    ]

pub not_in_rest : (far : ℕ → ℕ) (x : ℕ) (xs : List ℕ) → IsAfter far x xs → has xs x ≡ true → ⊥
not_in_rest far x xs a h = false≢true (sym (before-irreflexive far x) ∙ after_has far x x xs a h)

in_rest : (far : ℕ → ℕ) (x z : ℕ) (xs ys : List ℕ) → IsAfter far x xs → ((z : ℕ) → has (x ∷ xs) z ≡ true → has (x ∷ ys) z ≡ true) → has xs z ≡ true → has ys z ≡ true
in_rest far x z xs ys a same h =
    elim (has_cases x z ys (same z (has_later x z xs h))) [
      | inl e ↦ absurd (not_in_rest far x xs a (subst (λ (t : ℕ). has xs t ≡ true) (eqb-true z x e) h))
      | inr k ↦ k
    ]

pub rising_unique : (far : ℕ → ℕ) (xs ys : List ℕ) → IsRising far xs → IsRising far ys → ((z : ℕ) → has xs z ≡ true → has ys z ≡ true) → ((z : ℕ) → has ys z ≡ true → has xs z ≡ true) → xs ≡ ys
rising_unique far [] [] r q to from = refl
rising_unique far [] (y ∷ ys) r q to from = absurd (false≢true (from y (has_here y y ys (eq-eqb y y refl))))
rising_unique far (x ∷ xs) [] r q to from = absurd (false≢true (to x (has_here x x xs (eq-eqb x x refl))))
rising_unique far (x ∷ xs) (y ∷ ys) r q to from =
    let same : x ≡ y = head_least far x y xs ys r q (to x (has_here x x xs (eq-eqb x x refl))) (from y (has_here y y ys (eq-eqb y y refl))) in
    let q' : IsAfter far x ys = subst (λ (t : ℕ). IsAfter far t ys) (sym same) q.0 in
    let to' : (z : ℕ) → has (x ∷ xs) z ≡ true → has (x ∷ ys) z ≡ true = λ z h. subst (λ (t : ℕ). has (t ∷ ys) z ≡ true) (sym same) (to z h) in
    let from' : (z : ℕ) → has (x ∷ ys) z ≡ true → has (x ∷ xs) z ≡ true = λ z h. from z (subst (λ (t : ℕ). has (t ∷ ys) z ≡ true) same h) in
    ap (λ t. x ∷ t) (rising_unique far xs ys r.1 q.1 (λ z h. in_rest far x z xs ys r.0 to' h) (λ z h. in_rest far x z ys xs q' from' h)) ∙ ap (λ n. n ∷ ys) same

-- Points in order depend on the members of a list alone: not on their places, nor on how often each stands there.
pub in_order_same : (far : ℕ → ℕ) (xs ys : List ℕ) → ((z : ℕ) → has xs z ≡ has ys z) → in_order far xs ≡ in_order far ys
in_order_same far xs ys same =
    rising_unique far (in_order far xs) (in_order far ys) (rising_in_order far xs) (rising_in_order far ys)
    (λ z h. has_in_order far z ys ∙ sym (same z) ∙ sym (has_in_order far z xs) ∙ h)
    (λ z h. has_in_order far z xs ∙ same z ∙ sym (has_in_order far z ys) ∙ h)

-- ---- The laws of `top`

-- The n least depend on the members alone.
pub top_same : (far : ℕ → ℕ) (n : ℕ) (xs ys : List ℕ) → ((z : ℕ) → has xs z ≡ has ys z) → top far n xs ≡ top far n ys
top_same far n xs ys same = ap (take n) (in_order_same far xs ys same)

-- The n least of the n least are these.
pub top_idempotent : (far : ℕ → ℕ) (n : ℕ) (xs : List ℕ) → top far n (top far n xs) ≡ top far n xs
top_idempotent far n xs = ap (take n) (in_order_rising far (top far n xs) (rising_top far n xs)) ∙ take-take n n (in_order far xs) (omega arith)

-- Points that are added compete with the n least alone.
pub top_cut : (far : ℕ → ℕ) (n : ℕ) (xs ys : List ℕ) → top far n (top far n xs ++ ys) ≡ top far n (xs ++ ys)
top_cut far n xs ys =
    ap (take n) (all_placed-append far [] (top far n xs) ys ∙ ap (λ t. all_placed far t ys) (in_order_rising far (top far n xs) (rising_top far n xs)))
    ∙ cut_all_placed far n (in_order far xs) ys
    ∙ sym (ap (take n) (all_placed-append far [] xs ys))

pub has_take : (n m p : ℕ) (s : List ℕ) → n ≤ m → has (take n s) p ≡ true → has (take m s) p ≡ true
has_take zero m p s l h = absurd (false≢true h)
has_take (suc n) m p [] l h = absurd (false≢true h)
has_take (suc n) zero p (y ∷ s) l h = absurd (omega arith)
has_take (suc n) (suc m) p (y ∷ s) l h = elim (has_cases y p (take n s) h) [ inl e ↦ has_here y p (take m s) e | inr k ↦ has_later y p (take m s) (has_take n m p s (omega arith) k) ]

pub has_from_take : (n p : ℕ) (s : List ℕ) → has (take n s) p ≡ true → has s p ≡ true
has_from_take zero p s h = absurd (false≢true h)
has_from_take (suc n) p [] h = absurd (false≢true h)
has_from_take (suc n) p (y ∷ s) h = elim (has_cases y p (take n s) h) [ inl e ↦ has_here y p s e | inr k ↦ has_later y p s (has_from_take n p s k) ]

-- The n least are points of the list, and among any more.
pub top_inside : (far : ℕ → ℕ) (n p : ℕ) (xs : List ℕ) → has (top far n xs) p ≡ true → has xs p ≡ true
top_inside far n p xs h = sym (has_in_order far p xs) ∙ has_from_take n p (in_order far xs) h

pub top_monotone : (far : ℕ → ℕ) (n m p : ℕ) (xs : List ℕ) → n ≤ m → has (top far n xs) p ≡ true → has (top far m xs) p ≡ true
top_monotone far n m p xs l h = has_take n m p (in_order far xs) l h

-- A point that stands among the n least once another was placed stood among them before.
stood_before : (far : ℕ → ℕ) (n y p : ℕ) (s : List ℕ) → eqb p y ≡ false → has (take n (placed far y s)) p ≡ true → has (take n s) p ≡ true
stood_before far zero y p s ne h = absurd (false≢true h)
stood_before far (suc n) y p [] ne h = absurd (both_ways _ ne (alone n h))
  where
    alone : (n : ℕ) → has (take (suc n) (y ∷ [])) p ≡ true → eqb p y ≡ true
    alone zero h = elim (has_cases y p [] h) [ inl e ↦ e | inr k ↦ absurd (false≢true k) ]
    alone (suc n) h = elim (has_cases y p [] h) [ inl e ↦ e | inr k ↦ absurd (false≢true k) ]
stood_before far (suc n) y p (z ∷ s) ne h =
    let cases : has (take (suc n) (placed far y (z ∷ s))) p ≡ true → has (take (suc n) (z ∷ s)) p ≡ true =
    elim (before far y z) as (λ t. has (take (suc n) (cond t (y ∷ z ∷ s) (cond (eqb y z) (z ∷ s) (z ∷ placed far y s)))) p ≡ true → has (take (suc n) (z ∷ s)) p ≡ true) [
      | true ↦ λ k. elim (has_cases y p (take n (z ∷ s)) k) [ inl e ↦ absurd (both_ways _ ne e) | inr m ↦ has_take n (suc n) p (z ∷ s) (omega arith) m ]
      | false ↦ elim (eqb y z) as (λ t. has (take (suc n) (cond t (z ∷ s) (z ∷ placed far y s))) p ≡ true → has (take (suc n) (z ∷ s)) p ≡ true) [
        | true ↦ λ k. k
        | false ↦ λ k. elim (has_cases z p (take n (placed far y s)) k) [ inl e ↦ has_here z p (take n s) e | inr m ↦ has_later z p (take n s) (stood_before far n y p s ne m) ]
      ]
    ] in
    cases h

stood_placed : (far : ℕ → ℕ) (n y p : ℕ) (s : List ℕ) → IsRising far s → has s p ≡ true → has (take n (placed far y s)) p ≡ true → has (take n s) p ≡ true
stood_placed far n y p s r there h =
    elim (eqb p y) as (λ t. eqb p y ≡ t → has (take n s) p ≡ true) [
      | true ↦ λ e. subst (λ (t : List ℕ). has (take n t) p ≡ true) (placed_there far y s r (subst (λ (t : ℕ). has s t ≡ true) (eqb-true p y e) there)) h
      | false ↦ λ e. stood_before far n y p s e h
    ] refl

stood_all : (far : ℕ → ℕ) (n p : ℕ) (ys s : List ℕ) → IsRising far s → has s p ≡ true → has (take n (all_placed far s ys)) p ≡ true → has (take n s) p ≡ true
stood_all far n p [] s r there h = h
stood_all far n p (y ∷ ys) s r there h =
    stood_placed far n y p s r there (stood_all far n p ys (placed far y s) (rising_placed far y s r) (has_placed far y p s ∙ or_right (eqb p y) (has s p) there) h)

-- A point of a list that isn't among its n least never is once further points are there: what has left
-- doesn't return.
pub top_stays : (far : ℕ → ℕ) (n p : ℕ) (xs ys : List ℕ) → has xs p ≡ true → has (top far n (xs ++ ys)) p ≡ true → has (top far n xs) p ≡ true
top_stays far n p xs ys there h =
    stood_all far n p ys (in_order far xs) (rising_in_order far xs) (has_in_order far p xs ∙ there) (subst (λ (t : List ℕ). has (take n t) p ≡ true) (all_placed-append far [] xs ys) h)
