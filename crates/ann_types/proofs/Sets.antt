-- Lemmas on sets of numbers as ascending lists.
use Rattle.std.proofs.Common.{◌≡◌, ℕ, zero, suc, ◌+◌, ◌≤◌, ◌<◌, Bool, true, false, cond, eqb, List, [], ◌∷◌, ◌++◌, refl, sym, subst, arith, length, get_or, inl, inr, eqb-true, eq-eqb, ltb-true, lt-ltb, map, filter}
use Rattle.std.specs.List.{AllByRecursion}
use Rattle.std.specs.List.Sorted.{IsStrictlyIncreasing}
use Rattle.std.proofs.lemmas.Bool.{false≢true, both_ways}
use Rattle.ann_types.specs.Order.{before, placed, all_placed, in_order, has, ascending}
use Rattle.ann_types.proofs.Ordered.{IsAfter, IsRising, has_in_order, has_here, has_later, has_cases, rising_in_order, in_order_rising}

-- each number is below those behind it
abbrev pub Rises : List ℕ → Type 0
Rises [] = Unit {0}
Rises (x ∷ xs) = AllByRecursion (λ y. x < y) xs × Rises xs

above_after : (x : ℕ) (xs : List ℕ) → IsAfter (λ _. 0) x xs → AllByRecursion (λ y. x < y) xs
above_after x [] a = tt
above_after x (y ∷ xs) (h, a) = (ltb-true x y h, above_after x xs a)

after_above : (x : ℕ) (xs : List ℕ) → AllByRecursion (λ y. x < y) xs → IsAfter (λ _. 0) x xs
after_above x [] a = tt
after_above x (y ∷ xs) (h, a) = (lt-ltb x y h, after_above x xs a)

rises_rising : (xs : List ℕ) → IsRising (λ _. 0) xs → Rises xs
rises_rising [] r = tt
rises_rising (x ∷ xs) (a, r) = (above_after x xs a, rises_rising xs r)

rising_rises : (xs : List ℕ) → Rises xs → IsRising (λ _. 0) xs
rising_rises [] r = tt
rising_rises (x ∷ xs) (a, r) = (after_above x xs a, rising_rises xs r)

-- the same by index
pub increasing_from_rises : (xs : List ℕ) → Rises xs → IsStrictlyIncreasing xs
increasing_from_rises [] r k l = absurd (omega arith)
increasing_from_rises (x ∷ []) r k l = absurd (omega arith)
increasing_from_rises (x ∷ y ∷ xs) ((h, a), r) zero l = h
increasing_from_rises (x ∷ y ∷ xs) (a, r) (suc k) l =
    let next : suc (k + 1) ≡ suc k + 1 = omega arith in
    subst (λ (i : ℕ). get_or (y ∷ xs) k 0 < get_or (x ∷ y ∷ xs) i 0) next (increasing_from_rises (y ∷ xs) r k (omega arith))

increasing_tail : (x : ℕ) (xs : List ℕ) → IsStrictlyIncreasing (x ∷ xs) → IsStrictlyIncreasing xs
increasing_tail x xs f k l =
    let next : suc k + 1 ≡ suc (k + 1) = omega arith in
    subst (λ (i : ℕ). get_or xs k 0 < get_or (x ∷ xs) i 0) next (f (suc k) (omega arith))

pub above_weaker : (x y : ℕ) (xs : List ℕ) → x ≤ y → AllByRecursion (λ z. y < z) xs → AllByRecursion (λ z. x < z) xs
above_weaker x y [] l a = tt
above_weaker x y (z ∷ xs) l (h, a) = (omega arith, above_weaker x y xs l a)

pub rises_from_increasing : (xs : List ℕ) → IsStrictlyIncreasing xs → Rises xs
rises_from_increasing [] f = tt
rises_from_increasing (x ∷ []) f = (tt, tt)
rises_from_increasing (x ∷ y ∷ xs) f =
    let h : x < y = f 0 (omega arith) in
    let r : Rises (y ∷ xs) = rises_from_increasing (y ∷ xs) (increasing_tail x (y ∷ xs) f) in
    ((h, above_weaker x y xs (omega arith) r.0), r)

-- A set in ascending order has its members, each once.
pub has_ascending : (z : ℕ) (xs : List ℕ) → has (ascending xs) z ≡ has xs z
has_ascending z xs = has_in_order (λ _. 0) z xs

pub rises_ascending : (xs : List ℕ) → Rises (ascending xs)
rises_ascending xs = rises_rising (ascending xs) (rising_in_order (λ _. 0) xs)

pub ascending_rises : (xs : List ℕ) → Rises xs → ascending xs ≡ xs
ascending_rises xs r = in_order_rising (λ _. 0) xs (rising_rises xs r)

length_placed : (far : ℕ → ℕ) (x : ℕ) (s : List ℕ) → length (placed far x s) ≤ length s + 1
length_placed far x [] = omega arith
length_placed far x (y ∷ s) =
    elim (before far x y) as (λ t. length (cond t (x ∷ y ∷ s) (cond (eqb x y) (y ∷ s) (y ∷ placed far x s))) ≤ length (y ∷ s) + 1) [
      | true ↦ omega arith
      | false ↦ elim (eqb x y) as (λ t. length (cond t (y ∷ s) (y ∷ placed far x s)) ≤ length (y ∷ s) + 1) [
        | true ↦ omega arith
        | false ↦ let short = length_placed far x s in omega arith
      ]
    ]

length_all_placed : (far : ℕ → ℕ) (xs s : List ℕ) → length (all_placed far s xs) ≤ length s + length xs
length_all_placed far [] s = omega arith
length_all_placed far (x ∷ xs) s = let one = length_placed far x s in let more = length_all_placed far xs (placed far x s) in omega arith

pub length_in_order : (far : ℕ → ℕ) (xs : List ℕ) → length (in_order far xs) ≤ length xs
length_in_order far xs = let all = length_all_placed far xs [] in omega arith

pub length_ascending : (xs : List ℕ) → length (ascending xs) ≤ length xs
length_ascending xs = length_in_order (λ _. 0) xs

-- ---- every number above or below another

pub has_above : (n p : ℕ) (xs : List ℕ) → AllByRecursion (λ x. n < x) xs → has xs p ≡ true → n < p
has_above n p [] a h = absurd (false≢true h)
has_above n p (x ∷ xs) (k, a) h = elim (has_cases x p xs h) [ inl e ↦ (let same = eqb-true p x e in omega arith) | inr m ↦ has_above n p xs a m ]

pub has_below : (n p : ℕ) (xs : List ℕ) → AllByRecursion (λ x. x < n) xs → has xs p ≡ true → p < n
has_below n p [] a h = absurd (false≢true h)
has_below n p (x ∷ xs) (k, a) h = elim (has_cases x p xs h) [ inl e ↦ (let same = eqb-true p x e in omega arith) | inr m ↦ has_below n p xs a m ]

pub above_from_has : (n : ℕ) (xs : List ℕ) → ((p : ℕ) → has xs p ≡ true → n < p) → AllByRecursion (λ x. n < x) xs
above_from_has n [] f = tt
above_from_has n (x ∷ xs) f = (f x (has_here x x xs (eq-eqb x x refl)), above_from_has n xs (λ p h. f p (has_later x p xs h)))

pub below_from_has : (n : ℕ) (xs : List ℕ) → ((p : ℕ) → has xs p ≡ true → p < n) → AllByRecursion (λ x. x < n) xs
below_from_has n [] f = tt
below_from_has n (x ∷ xs) f = (f x (has_here x x xs (eq-eqb x x refl)), below_from_has n xs (λ p h. f p (has_later x p xs h)))

-- A number that isn't below n isn't among numbers below n, nor one that isn't above n among those above.
pub not_among : (xs : List ℕ) (p : ℕ) → (has xs p ≡ true → ⊥) → has xs p ≡ false
not_among xs p f = elim (has xs p) as (λ t. has xs p ≡ t → t ≡ false) [ true ↦ λ e. absurd (f e) | false ↦ λ e. refl ] refl

pub none_from_below : (n p : ℕ) (xs : List ℕ) → AllByRecursion (λ x. x < n) xs → n ≤ p → has xs p ≡ false
none_from_below n p xs a l = not_among xs p (λ h. let b = has_below n p xs a h in absurd (omega arith))

pub none_from_above : (n p : ℕ) (xs : List ℕ) → AllByRecursion (λ x. n < x) xs → p ≤ n → has xs p ≡ false
none_from_above n p xs a l = not_among xs p (λ h. let b = has_above n p xs a h in absurd (omega arith))

-- ---- lists joined and cut

pub all_append : {A : Type 0} (P : A → Type 0) (xs ys : List A) → AllByRecursion P xs → AllByRecursion P ys → AllByRecursion P (xs ++ ys)
all_append P [] ys a b = b
all_append P (x ∷ xs) ys (h, a) b = (h, all_append P xs ys a b)

pub all_left : {A : Type 0} (P : A → Type 0) (xs ys : List A) → AllByRecursion P (xs ++ ys) → AllByRecursion P xs
all_left P [] ys a = tt
all_left P (x ∷ xs) ys (h, a) = (h, all_left P xs ys a)

pub all_right : {A : Type 0} (P : A → Type 0) (xs ys : List A) → AllByRecursion P (xs ++ ys) → AllByRecursion P ys
all_right P [] ys a = a
all_right P (x ∷ xs) ys (h, a) = all_right P xs ys a

pub all_weaker : {A : Type 0} (P Q : A → Type 0) (xs : List A) → ((x : A) → P x → Q x) → AllByRecursion P xs → AllByRecursion Q xs
all_weaker P Q [] f a = tt
all_weaker P Q (x ∷ xs) f (h, a) = (f x h, all_weaker P Q xs f a)

pub all_filter : {A : Type 0} (P : A → Type 0) (p : A → Bool) (xs : List A) → AllByRecursion P xs → AllByRecursion P (filter p xs)
all_filter P p [] a = tt
all_filter P p (x ∷ xs) (b, a) = elim (p x) as (λ t. AllByRecursion P (cond t (x ∷ filter p xs) (filter p xs))) [ true ↦ (b, all_filter P p xs a) | false ↦ all_filter P p xs a ]

pub all_map : {A B : Type 0} (P : B → Type 0) (f : A → B) (xs : List A) → AllByRecursion (λ x. P (f x)) xs → AllByRecursion P (map f xs)
all_map P f [] a = tt
all_map P f (x ∷ xs) (h, a) = (h, all_map P f xs a)

pub all_of_map : {A B : Type 0} (P : B → Type 0) (f : A → B) (xs : List A) → AllByRecursion P (map f xs) → AllByRecursion (λ x. P (f x)) xs
all_of_map P f [] a = tt
all_of_map P f (x ∷ xs) (h, a) = (h, all_of_map P f xs a)

pub rises_join : (n : ℕ) (xs ys : List ℕ) → Rises xs → Rises ys → AllByRecursion (λ x. x < n) xs → AllByRecursion (λ y. n ≤ y) ys → Rises (xs ++ ys)
rises_join n [] ys r q a b = q
rises_join n (x ∷ xs) ys (h, r) q (l, a) b = (all_append (λ y. x < y) xs ys h (all_weaker (λ y. n ≤ y) (λ y. x < y) ys (λ y k. omega arith) b), rises_join n xs ys r q a b)

pub rises_push : (xs : List ℕ) (n : ℕ) → Rises xs → AllByRecursion (λ x. x < n) xs → Rises (xs ++ n ∷ [])
rises_push xs n r a = rises_join n xs (n ∷ []) r (tt, tt) a (omega arith, tt)

pub rises_left : (xs ys : List ℕ) → Rises (xs ++ ys) → Rises xs
rises_left [] ys r = tt
rises_left (x ∷ xs) ys (a, r) = (all_left (λ y. x < y) xs ys a, rises_left xs ys r)

pub rises_right : (xs ys : List ℕ) → Rises (xs ++ ys) → Rises ys
rises_right [] ys r = r
rises_right (x ∷ xs) ys (a, r) = rises_right xs ys r

-- a number of the first part is below one of the second
pub rises_across : (xs ys : List ℕ) (p q : ℕ) → Rises (xs ++ ys) → has xs p ≡ true → has ys q ≡ true → p < q
rises_across [] ys p q r h k = absurd (false≢true h)
rises_across (x ∷ xs) ys p q (a, r) h k = elim (has_cases x p xs h) [
  | inl e ↦ (let same = eqb-true p x e in let above = has_above x q ys (all_right (λ y. x < y) xs ys a) k in omega arith)
  | inr m ↦ rises_across xs ys p q r m k
]

pub rises_filter : (q : ℕ → Bool) (xs : List ℕ) → Rises xs → Rises (filter q xs)
rises_filter q [] r = tt
rises_filter q (x ∷ xs) (a, r) = elim (q x) as (λ t. Rises (cond t (x ∷ filter q xs) (filter q xs))) [ true ↦ (all_filter (λ y. x < y) q xs a, rises_filter q xs r) | false ↦ rises_filter q xs r ]

-- ---- members of a filter

pub has_filter : (q : ℕ → Bool) (xs : List ℕ) (p : ℕ) → has (filter q xs) p ≡ true → (has xs p ≡ true) × (q p ≡ true)
has_filter q [] p h = absurd (false≢true h)
has_filter q (x ∷ xs) p h =
    let cases : has (filter q (x ∷ xs)) p ≡ true → (has (x ∷ xs) p ≡ true) × (q p ≡ true) =
    elim (q x) as (λ t. q x ≡ t → has (cond t (x ∷ filter q xs) (filter q xs)) p ≡ true → (has (x ∷ xs) p ≡ true) × (q p ≡ true)) [
      | true ↦ λ e k. elim (has_cases x p (filter q xs) k) [
        | inl s ↦ (has_here x p xs s, subst (λ (t : ℕ). q t ≡ true) (sym (eqb-true p x s)) e)
        | inr m ↦ (has_later x p xs (has_filter q xs p m).0, (has_filter q xs p m).1)
      ]
      | false ↦ λ e k. (has_later x p xs (has_filter q xs p k).0, (has_filter q xs p k).1)
    ] refl in
    cases h

pub filter_has : (q : ℕ → Bool) (xs : List ℕ) (p : ℕ) → has xs p ≡ true → q p ≡ true → has (filter q xs) p ≡ true
filter_has q [] p h k = absurd (false≢true h)
filter_has q (x ∷ xs) p h k =
    elim (q x) as (λ t. q x ≡ t → has (cond t (x ∷ filter q xs) (filter q xs)) p ≡ true) [
      | true ↦ λ e. elim (has_cases x p xs h) [ inl s ↦ has_here x p (filter q xs) s | inr m ↦ has_later x p (filter q xs) (filter_has q xs p m k) ]
      | false ↦ λ e. elim (has_cases x p xs h) [ inl s ↦ absurd (both_ways (q x) e (subst (λ (t : ℕ). q t ≡ true) (eqb-true p x s) k)) | inr m ↦ filter_has q xs p m k ]
    ] refl
