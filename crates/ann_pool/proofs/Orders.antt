-- Items in order.
use Rattle.std.proofs.Common.{◌≡◌, ℕ, zero, suc, ◌+◌, ◌-◌, ◌*◌, ◌<◌, ◌≤◌, true, false, cond, eqb, ltb, List, [], ◌∷◌, ◌++◌, refl, sym, ap, subst, ◌∙◌, arith, length, take, drop, get_or, set, ◌⊎◌, inl, inr, eqb-true, eq-eqb, ltb-true, ltb-false, lt-ltb}
use Rattle.std.specs.Prelude.{insert}
use Rattle.std.proofs.lemmas.List.{take-append-drop, take_all, take-append-le, get_or_default, set_split, drop_more}
use Rattle.std.specs.List.Sorted.{IsPartitionedBy}
use Rattle.std.proofs.lemmas.Bool.{eqb-false, or_cases, and_parts, or_left, or_right, and_from, false_from_ne_true, both_ways, cond-false, cond-true}
use Rattle.ann_pool.specs.declared.item.Item.{Item}
use Rattle.ann_pool.specs.Pool.{item_before, IsBehind, IsInOrder, IsSameWhereThere, IsPlaceOf, offered, pooled, marked}

-- x stands before y, as a fact on numbers
abbrev pub Precedes : Item → Item → Type 0
Precedes x y = (x.distance < y.distance) ⊎ ((x.distance ≡ y.distance) × (x.number < y.number))

pub before_tells : (x y : Item) → item_before x y ≡ true → Precedes x y
before_tells x y h =
    elim (or_cases _ _ h) [
      | inl l ↦ inl (ltb-true x.distance y.distance l)
      | inr r ↦ let p = and_parts _ _ r in inr (eqb-true x.distance y.distance p.0, ltb-true x.number y.number p.1)
    ]

pub before_from : (x y : Item) → Precedes x y → item_before x y ≡ true
before_from x y (inl l) = or_left _ _ (lt-ltb x.distance y.distance l)
before_from x y (inr (e, l)) = or_right _ _ (and_from _ _ (eq-eqb x.distance y.distance e) (lt-ltb x.number y.number l))

not_before : (x y : Item) → (Precedes x y → ⊥) → item_before x y ≡ false
not_before x y h = false_from_ne_true _ (λ e. h (before_tells x y e))

-- the same by one number for each item
pub key_before : (x y : Item) → x.number < 4294967296 → y.number < 4294967296 → ltb (x.distance * 4294967296 + x.number) (y.distance * 4294967296 + y.number) ≡ item_before x y
key_before x y few more =
    elim (ltb (x.distance * 4294967296 + x.number) (y.distance * 4294967296 + y.number)) as (λ t. ltb (x.distance * 4294967296 + x.number) (y.distance * 4294967296 + y.number) ≡ t → t ≡ item_before x y) [
      | true ↦ λ e.
          let less = ltb-true (x.distance * 4294967296 + x.number) (y.distance * 4294967296 + y.number) e in
          sym (before_from x y (elim (ltb x.distance y.distance) as (λ t. ltb x.distance y.distance ≡ t → Precedes x y) [
            | true ↦ λ l. inl (ltb-true x.distance y.distance l)
            | false ↦ λ l. let no = ltb-false x.distance y.distance l in inr (omega arith, omega arith)
          ] refl))
      | false ↦ λ e.
          let no = ltb-false (x.distance * 4294967296 + x.number) (y.distance * 4294967296 + y.number) e in
          sym (not_before x y (λ b. elim b [ inl l ↦ omega arith | inr s ↦ let same = s.0 in let less = s.1 in omega arith ]))
    ] refl

pub before-asymmetric : (x y : Item) → item_before x y ≡ true → item_before y x ≡ false
before-asymmetric x y h = let a = before_tells x y h in not_before y x (λ b. omega arith)

pub before-trans : (x y z : Item) → item_before x y ≡ true → item_before y z ≡ true → item_before x z ≡ true
before-trans x y z h k =
    let a = before_tells x y h in
    let b = before_tells y z k in
    let c : Precedes x z = grind arith in before_from x z c

pub before-total : (x y : Item) → item_before x y ≡ false → eqb x.number y.number ≡ false → item_before y x ≡ true
before-total x y h k =
    let ne = eqb-false x.number y.number k in
    let no : Precedes x y → ⊥ = λ b. both_ways _ h (before_from x y b) in
    let c : Precedes y x = grind arith in before_from y x c

behind-trans : (x y : Item) (s : List Item) → item_before x y ≡ true → IsBehind y s → IsBehind x s
behind-trans x y [] h a = tt
behind-trans x y (z ∷ s) h a = (before-trans x y z h a.0, behind-trans x y s h a.1)

behind_at : (x : Item) (s : List Item) (j : ℕ) (d : Item) → IsBehind x s → j < length s → item_before x (get_or s j d) ≡ true
behind_at x [] j d a within = absurd (omega arith)
behind_at x (y ∷ s) zero d a within = a.0
behind_at x (y ∷ s) (suc j) d a within = behind_at x s j d a.1 (omega arith)

-- each item stands before each later one
pub order_at : (s : List Item) (i j : ℕ) (d : Item) → IsInOrder s → i < j → j < length s → item_before (get_or s i d) (get_or s j d) ≡ true
order_at [] i j d o l within = absurd (omega arith)
order_at (x ∷ s) i zero d o l within = absurd (omega arith)
order_at (x ∷ s) zero (suc j) d o l within = behind_at x s j d o.0 (omega arith)
order_at (x ∷ s) (suc i) (suc j) d o l within = order_at s i j d o.1 (omega arith) (omega arith)

-- those that stand before x come first
pub parted : (x : Item) (s : List Item) → IsInOrder s → IsPartitionedBy (λ y. item_before y x) s
parted x s o i j d l within h =
    elim (ltb i j) as (λ t. ltb i j ≡ t → item_before (get_or s i d) x ≡ true) [
      | true ↦ λ e. before-trans (get_or s i d) (get_or s j d) x (order_at s i j d o (ltb-true i j e) within) h
      | false ↦ λ e. let same : j ≡ i = omega (arith, ltb-false i j e) in subst (λ (k : ℕ). item_before (get_or s k d) x ≡ true) same h
    ] refl

-- an item behind those that stand before it
pub offered_behind : (x : Item) (s : List Item) (i : ℕ) → i ≤ length s → ((k : ℕ) (d : Item) → k < i → item_before (get_or s k d) x ≡ true) → IsSameWhereThere x s → offered x s ≡ take i s ++ offered x (drop i s)
offered_behind x s zero within before same = refl
offered_behind x [] (suc i) within before same = absurd (omega arith)
offered_behind x (y ∷ s) (suc i) within before same =
    let first : item_before y x ≡ true = before zero y (omega arith) in
    let other : eqb x.number y.number ≡ false = false_from_ne_true _ (λ e.
    let number = eqb-true x.number y.number e in
    let distance = same.0 (sym number) in
    let p = before_tells y x first in absurd (omega arith)) in
    cond-false _ _ _ (before-asymmetric y x first) ∙ cond-false _ _ _ other ∙ ap (λ t. y ∷ t) (offered_behind x s i (omega arith) (λ k d l. before (suc k) d (omega arith)) same.1)

-- an item that stands in its place already
pub offered_there : (x : Item) (s : List Item) (i : ℕ) (d : Item) → i < length s → item_before (get_or s i d) x ≡ false → x.number ≡ (get_or s i d).number → IsSameWhereThere x s → offered x (drop i s) ≡ drop i s
offered_there x [] i d within after there same = absurd (omega arith)
offered_there x (y ∷ s) (suc i) d within after there same = offered_there x s i d (omega arith) after there same.1
offered_there x (y ∷ s) zero d within after there same =
    let distance = same.0 (sym there) in
    let no : Precedes x y → ⊥ = λ p. omega arith in
    cond-false _ _ _ (not_before x y no) ∙ cond-true _ _ _ (eq-eqb x.number y.number there)

-- a new item in its place
pub offered_new : (x : Item) (s : List Item) (i : ℕ) → i ≤ length s → ((d : Item) → i < length s → item_before (get_or s i d) x ≡ false) → ((d : Item) → i < length s → eqb (get_or s i d).number x.number ≡ false) → offered x (drop i s) ≡ x ∷ drop i s
offered_new x [] zero within after other = refl
offered_new x [] (suc i) within after other = absurd (omega arith)
offered_new x (y ∷ s) zero within after other = cond-true _ _ _ (before-total y x (after y (omega arith)) (other y (omega arith)))
offered_new x (y ∷ s) (suc i) within after other = offered_new x s i (omega arith) (λ d l. after d (omega arith)) (λ d l. other d (omega arith))

behind_offered : (z x : Item) (s : List Item) → item_before z x ≡ true → IsBehind z s → IsBehind z (offered x s)
behind_offered z x [] h a = (h, tt)
behind_offered z x (y ∷ s) h a =
    elim (item_before x y) as (λ t. IsBehind z (cond t (x ∷ y ∷ s) (cond (eqb x.number y.number) (y ∷ s) (y ∷ offered x s)))) [
      | true ↦ (h, a)
      | false ↦ elim (eqb x.number y.number) as (λ t. IsBehind z (cond t (y ∷ s) (y ∷ offered x s))) [
        | true ↦ a
        | false ↦ (a.0, behind_offered z x s h a.1)
      ]
    ]

-- order is kept by an offer
pub order_offered : (x : Item) (s : List Item) → IsInOrder s → IsInOrder (offered x s)
order_offered x [] o = (tt, tt)
order_offered x (y ∷ s) o =
    elim (item_before x y) as (λ t. item_before x y ≡ t → IsInOrder (cond t (x ∷ y ∷ s) (cond (eqb x.number y.number) (y ∷ s) (y ∷ offered x s)))) [
      | true ↦ λ h. ((h, behind-trans x y s h o.0), o)
      | false ↦ λ h. elim (eqb x.number y.number) as (λ t. eqb x.number y.number ≡ t → IsInOrder (cond t (y ∷ s) (y ∷ offered x s))) [
        | true ↦ λ e. o
        | false ↦ λ e. (behind_offered y x s (before-total x y h e) o.0, order_offered x s o.1)
      ] refl
    ] refl

behind_take : (x : Item) (n : ℕ) (s : List Item) → IsBehind x s → IsBehind x (take n s)
behind_take x zero s a = tt
behind_take x (suc n) [] a = tt
behind_take x (suc n) (y ∷ s) a = (a.0, behind_take x n s a.1)

-- and by a cut
pub order_take : (n : ℕ) (s : List Item) → IsInOrder s → IsInOrder (take n s)
order_take zero s o = tt
order_take (suc n) [] o = tt
order_take (suc n) (x ∷ s) o = (behind_take x n s o.0, order_take n s o.1)

behind_marked : (x : Item) (s : List Item) → IsBehind x s → IsBehind x (marked s)
behind_marked x [] a = tt
behind_marked x (y ∷ s) a =
    elim (y.visited) as (λ t. IsBehind x (cond t (y ∷ marked s) ((record y { visited = true }) ∷ s))) [
      | true ↦ (a.0, behind_marked x s a.1)
      | false ↦ a
    ]

-- and by a mark
pub order_marked : (s : List Item) → IsInOrder s → IsInOrder (marked s)
order_marked [] o = tt
order_marked (y ∷ s) o =
    elim (y.visited) as (λ t. IsInOrder (cond t (y ∷ marked s) ((record y { visited = true }) ∷ s))) [
      | true ↦ (behind_marked y s o.0, order_marked s o.1)
      | false ↦ o
    ]

-- an item that stands behind the last of a list stands behind all
pub last_place : (x : Item) (s : List Item) (n : ℕ) (d : Item) → IsInOrder s → length s ≡ n → 1 ≤ n → item_before (get_or s (n - 1) d) x ≡ true → IsPlaceOf x s n
last_place x s n d o long some before = record {
  inside = omega arith;
  parts = (
    λ k d' low within.
        let kept = get_or_default s (n - 1) d d' (omega arith) in
        let last : item_before (get_or s (n - 1) d') x ≡ true = subst (λ (y : Item). item_before y x ≡ true) kept before in
        parted x s o k (n - 1) d' (omega arith) (omega arith) last,
    λ k d' low within. absurd (omega arith),
  );
}

-- what is known of an item's place, for any default
pub place_before : (x : Item) (s : List Item) (i : ℕ) → IsPlaceOf x s i → (k : ℕ) (d : Item) → k < i → item_before (get_or s k d) x ≡ true
place_before x s i place k d l = place.parts.0 k d (omega arith) l

-- an offer of an item whose number stands at its place changes nothing
pub offer_there : (x : Item) (s : List Item) (i : ℕ) (d : Item) → IsPlaceOf x s i → IsSameWhereThere x s → i < length s → (get_or s i d).number ≡ x.number → offered x s ≡ s
offer_there x s i d place same within number =
    offered_behind x s i place.inside (place_before x s i place) same
    ∙ ap (λ t. take i s ++ t) (offered_there x s i d within (place.parts.1 i d (omega arith) within) (sym number) same)
    ∙ take-append-drop i s

-- and any other is inserted there
pub offer_new : (x : Item) (s : List Item) (i : ℕ) → IsPlaceOf x s i → IsSameWhereThere x s → ((d : Item) → i < length s → eqb (get_or s i d).number x.number ≡ false) → offered x s ≡ insert s i x
offer_new x s i place same other =
    offered_behind x s i place.inside (place_before x s i place) same
    ∙ ap (λ t. take i s ++ t) (offered_new x s i place.inside (λ d l. place.parts.1 i d (omega arith) l) other)

-- an offer past the end of a full list changes nothing
pub offer_past : (x : Item) (s : List Item) (n : ℕ) → length s ≡ n → IsPlaceOf x s n → IsSameWhereThere x s → s ≡ pooled n x s
offer_past x s n long place same =
    sym (ap (λ t. take n t) (offer_new x s n place same (λ d l. absurd (omega arith)))
    ∙ ap (λ t. take n (t ++ x ∷ drop n s)) (take_all n s (omega arith))
    ∙ take-append-le n s (x ∷ drop n s) (omega arith) ∙ take_all n s (omega arith))

-- a slice that was written back as a whole
pub written_back : (n : ℕ) (s t : List Item) → length s ≡ n → take n (s ++ t) ≡ s
written_back n s t long = take-append-le n s t (omega arith) ∙ take_all n s (omega arith)

marked_head : (x : Item) (s : List Item) (a : Item) → x.visited ≡ false → a ≡ record x { visited = true } → marked (x ∷ s) ≡ a ∷ s
marked_head x s a h e = cond-false x.visited (x ∷ marked s) ((record x { visited = true }) ∷ s) h ∙ ap (λ t. t ∷ s) (sym e)

-- marking the first unvisited item at its index
pub marked-set : (s : List Item) (i : ℕ) (d a : Item) → i < length s → (get_or s i d).visited ≡ false → a ≡ record (get_or s i d) { visited = true } → marked s ≡ take i s ++ marked (drop i s) → set s i a ≡ marked s
marked-set s i d a h v e m =
    set_split s i a h
    ∙ ap (λ t. take i s ++ t) (ap (λ k. a ∷ drop k s) (let k : suc i ≡ i + 1 = omega arith in k) ∙ sym (ap marked (drop_more s i d h) ∙ marked_head (get_or s i d) (drop (i + 1) s) a v e))
    ∙ sym m
