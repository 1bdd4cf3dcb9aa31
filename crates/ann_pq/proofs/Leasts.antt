-- The first place of the least of some numbers.
use Rattle.std.proofs.Common.{◌≡◌, ℕ, ◌+◌, Bool, ◌≤◌, ◌<◌, eqb, cond, false, not, List, [], ◌∷◌, length, get_or, map, refl, sym, ap, ◌∙◌, arith, eq-eqb, inl, inr}
use Rattle.std.specs.List.{position_or_len, prefix_len}
use Rattle.std.proofs.lemmas.Bool.{cases_lt}
use Rattle.std.proofs.lemmas.List.Sums.{position_or_len_is}
use Rattle.ann_types.specs.Distance.{distance}
use Rattle.ann_types.specs.Codes.{least, nearest}
use Rattle.ann_types.proofs.Coded.{least_is, least_le, le_least, first_least}

-- a lower bound that is greatest is the least
pub least_bound : (most lowest : ℕ) (ns : List ℕ) → 0 < length ns → get_or ns 0 0 ≤ most → ((k : ℕ) → k < length ns → lowest ≤ get_or ns k 0) → ((b : ℕ) → b ≤ most → ((k : ℕ) → k < length ns → b ≤ get_or ns k 0) → b ≤ lowest) → lowest ≡ least ns
least_bound most lowest ns some small below greatest =
    let low : lowest ≤ least ns = le_least lowest ns some below in
    let first : least ns ≤ get_or ns 0 0 = least_le ns 0 some in
    let high : least ns ≤ lowest = greatest (least ns) (omega arith) (λ k l. least_le ns k l) in
    omega arith

-- a place where the least stands
attained : (n : ℕ) (ns : List ℕ) → (k : ℕ) × (k < length (n ∷ ns)) × (least (n ∷ ns) ≡ get_or (n ∷ ns) k 0)
attained n ns =
    let best = first_least n ns in
    (best.place, best.there, least_is (n ∷ ns) best.place best.there best.least)

pub first_is : (ns : List ℕ) (i lowest : ℕ) → lowest ≡ least ns → i < length ns → ((k : ℕ) → k < i → eqb (get_or ns k 0) lowest ≡ false) → get_or ns i 0 ≡ lowest → i ≡ position_or_len (λ n. eqb n (least ns)) ns
first_is ns i lowest is l before here =
    sym (position_or_len_is (λ n. eqb n (least ns)) ns i 0 (omega arith)
    (λ k h. ap (eqb (get_or ns k 0)) (sym is) ∙ before k h)
    (λ h. eq-eqb (get_or ns i 0) (least ns) (here ∙ is)))

-- where none before the last is the least, the last is
pub last_is : (ns : List ℕ) (i lowest : ℕ) → lowest ≡ least ns → length ns ≡ i + 1 → ((k : ℕ) → k < i → eqb (get_or ns k 0) lowest ≡ false) → i ≡ position_or_len (λ n. eqb n (least ns)) ns
last_is [] i lowest is size before = absurd (omega arith)
last_is (n ∷ ns) i lowest is size before =
    let best = attained n ns in
    let there : best.0 < length (n ∷ ns) = best.1 in
    let stands : get_or (n ∷ ns) best.0 0 ≡ lowest = sym (is ∙ best.2) in
    elim (cases_lt best.0 i) [
      | inl low ↦ absurd (let yes = eq-eqb (get_or (n ∷ ns) best.0 0) lowest stands in let no = before best.0 low in cc)
      | inr high ↦ (let last : best.0 ≡ i = omega arith in first_is (n ∷ ns) i lowest is (omega arith) before (ap (λ k. get_or (n ∷ ns) k 0) (sym last) ∙ stands))
    ]

prefix_map : {X Y : Type 0} (p : Y → Bool) (f : X → Y) (xs : List X) → prefix_len p (map f xs) ≡ prefix_len (λ x. p (f x)) xs
prefix_map p f [] = refl
prefix_map p f (x ∷ xs) = ap (λ n. cond (p (f x)) (1 + n) 0) (prefix_map p f xs)

-- the nearest centroid is the first least distance
pub nearest_first : (centroids : List (List ℕ)) (part : List ℕ) → position_or_len (λ n. eqb n (least (map (distance part) centroids))) (map (distance part) centroids) ≡ nearest centroids part
nearest_first centroids part = prefix_map (λ n. not (eqb n (least (map (distance part) centroids)))) (distance part) centroids
