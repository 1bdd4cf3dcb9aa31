-- Numbers in their places.
use Rattle.std.proofs.Common.{◌≡◌, ℕ, zero, suc, ◌+◌, ◌*◌, ◌/◌, ◌%◌, ◌<◌, ◌≤◌, Bool, true, false, cond, eqb, List, [], ◌∷◌, refl, sym, ap, ◌∙◌, subst, arith, length, set, get_or, ◌⊎◌, inl, inr, eqb-true, eq-eqb}
use Rattle.std.specs.Prelude.{replicate}
use Rattle.std.proofs.lemmas.Bool.{or_cases, or_left, or_right, ne_eqb}
use Rattle.ann_types.specs.Order.{has}
use Rattle.ann_pool.specs.Places.{tag_of, number_at, numbers_from, AreTagged}

-- ---- tags

-- a tag beyond all others has no number
pub numbers_none : (tag later place : ℕ) (places : List ℕ) → tag < later → AreTagged tag places → numbers_from later place places ≡ []
numbers_none tag later place [] l a = refl
numbers_none tag later place (x ∷ places) l (h, a) =
    ap (λ t. cond t (number_at place x ∷ numbers_from later (suc place) places) (numbers_from later (suc place) places)) (ne_eqb (tag_of x) later (λ e. absurd (omega arith)))
    ∙ numbers_none tag later (suc place) places l a

pub numbers_fresh : (place n : ℕ) → numbers_from 1 place (replicate n 0) ≡ []
numbers_fresh place zero = refl
numbers_fresh place (suc n) = numbers_fresh (suc place) n

pub tagged_later : (tag later : ℕ) (places : List ℕ) → tag ≤ later → AreTagged tag places → AreTagged later places
tagged_later tag later [] l a = tt
tagged_later tag later (x ∷ places) l (h, a) = (omega arith, tagged_later tag later places l a)

pub tagged_empty : (tag n : ℕ) → AreTagged tag (replicate n 0)
tagged_empty tag zero = tt
tagged_empty tag (suc n) = (omega arith, tagged_empty tag n)

pub tagged_set : (tag i v : ℕ) (places : List ℕ) → tag_of v ≤ tag → AreTagged tag places → AreTagged tag (set places i v)
tagged_set tag i v [] h a = tt
tagged_set tag zero v (x ∷ places) h (_, a) = (h, a)
tagged_set tag (suc i) v (x ∷ places) h (b, a) = (b, tagged_set tag i v places h a)

-- ---- numbers

has_first : (tag place v z : ℕ) (places : List ℕ) → has (numbers_from tag place (v ∷ places)) z ≡ true → (z ≡ number_at place v) ⊎ (has (numbers_from tag (suc place) places) z ≡ true)
has_first tag place v z places h =
    elim (eqb (tag_of v) tag) as (λ t. has (cond t (number_at place v ∷ numbers_from tag (suc place) places) (numbers_from tag (suc place) places)) z ≡ true → (z ≡ number_at place v) ⊎ (has (numbers_from tag (suc place) places) z ≡ true)) [
      | true ↦ λ k. elim (or_cases (eqb z (number_at place v)) (has (numbers_from tag (suc place) places) z) k) [ inl e ↦ inl (eqb-true z (number_at place v) e) | inr m ↦ inr m ]
      | false ↦ λ k. inr k
    ] h

has_more : (tag place v z : ℕ) (places : List ℕ) → has (numbers_from tag (suc place) places) z ≡ true → has (numbers_from tag place (v ∷ places)) z ≡ true
has_more tag place v z places h =
    elim (eqb (tag_of v) tag) as (λ t. has (cond t (number_at place v ∷ numbers_from tag (suc place) places) (numbers_from tag (suc place) places)) z ≡ true) [
      | true ↦ or_right (eqb z (number_at place v)) (has (numbers_from tag (suc place) places) z) h
      | false ↦ h
    ]

-- a number that is noted is the only new one
pub numbers_set : (tag place i v z : ℕ) (places : List ℕ) → has (numbers_from tag place (set places i v)) z ≡ true → (has (numbers_from tag place places) z ≡ true) ⊎ (z ≡ number_at (place + i) v)
numbers_set tag place i v z [] h = inl h
numbers_set tag place zero v z (x ∷ places) h = elim (has_first tag place v z places h) [
  | inl e ↦ inr (e ∙ ap (λ n. number_at n v) (let s : place ≡ place + 0 = omega arith in s))
  | inr k ↦ inl (has_more tag place x z places k)
]
numbers_set tag place (suc i) v z (x ∷ places) h =
    let later : has (numbers_from tag (suc place) (set places i v)) z ≡ true → (has (numbers_from tag (suc place) places) z ≡ true) ⊎ (z ≡ number_at (place + suc i) v) = (λ k. elim (numbers_set tag (suc place) i v z places k) [
      | inl m ↦ inl m
      | inr e ↦ inr (e ∙ ap (λ n. number_at n v) (let s : suc place + i ≡ place + suc i = omega arith in s))
    ]) in
    elim (has_first tag place x z (set places i v) h) [
      | inl e ↦ elim (eqb (tag_of x) tag) as (λ t. has (cond t (number_at place x ∷ numbers_from tag (suc place) (set places i v)) (numbers_from tag (suc place) (set places i v))) z ≡ true → (has (cond t (number_at place x ∷ numbers_from tag (suc place) places) (numbers_from tag (suc place) places)) z ≡ true) ⊎ (z ≡ number_at (place + suc i) v)) [
        | true ↦ λ k. inl (or_left (eqb z (number_at place x)) (has (numbers_from tag (suc place) places) z) (eq-eqb z (number_at place x) e))
        | false ↦ λ k. later k
      ] h
      | inr m ↦ elim (later m) [ inl k ↦ inl (has_more tag place x z places k) | inr e ↦ inr e ]
    ]

-- a number that stands in its place is there
pub has_at : (tag place i v d : ℕ) (places : List ℕ) → i < length places → get_or places i d ≡ v → tag_of v ≡ tag → has (numbers_from tag place places) (number_at (place + i) v) ≡ true
has_at tag place i v d [] within here tagged = absurd (omega arith)
has_at tag place zero v d (x ∷ places) within here tagged =
    subst (λ (y : ℕ). has (numbers_from tag place (y ∷ places)) (number_at (place + 0) v) ≡ true) (sym here)
    (subst (λ (t : Bool). has (cond t (number_at place v ∷ numbers_from tag (suc place) places) (numbers_from tag (suc place) places)) (number_at (place + 0) v) ≡ true) (sym (eq-eqb (tag_of v) tag tagged))
    (or_left (eqb (number_at (place + 0) v) (number_at place v)) (has (numbers_from tag (suc place) places) (number_at (place + 0) v)) (eq-eqb (number_at (place + 0) v) (number_at place v) (ap (λ n. number_at n v) (let s : place + 0 ≡ place = omega arith in s)))))
has_at tag place (suc i) v d (x ∷ places) within here tagged =
    has_more tag place x (number_at (place + suc i) v) places
    (subst (λ (n : ℕ). has (numbers_from tag (suc place) places) (number_at n v) ≡ true) (let s : suc place + i ≡ place + suc i = omega arith in s)
    (has_at tag (suc place) i v d places (omega arith) here tagged))

-- ---- what is noted of a number

pub noted_tag : (tag number : ℕ) → number < 4294967296 → tag_of (tag * 1048576 + number / 4096) ≡ tag
noted_tag tag number l = omega arith

pub noted_number : (tag number : ℕ) → number < 4294967296 → number_at (0 + number % 4096) (tag * 1048576 + number / 4096) ≡ number
noted_number tag number l = omega arith
