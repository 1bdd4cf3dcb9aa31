-- Vectors of one width side by side: a vector is read and added.
use Rattle.std.proofs.Common.{◌≡◌, ℕ, zero, suc, ◌+◌, ◌*◌, ◌≤◌, ◌<◌, List, [], ◌∷◌, ◌++◌, sym, ap, ◌∙◌, arith, take, drop, length, get_or, add-one, inl, inr, subst}
use Rattle.std.specs.Prelude.{All, ◌^◌}
use Rattle.std.proofs.lemmas.Bool.{cases_lt}
use Rattle.std.proofs.lemmas.List.Elements.{All-get_or}
use Rattle.std.proofs.Math.Nat.{zero-mul, suc-mul, mul-le-mul_right}
use Rattle.std.proofs.lemmas.List.{take-append-le, drop-append-le, drop_at, take_all, length-drop, length-take-le, get_or_past}
use Rattle.std.proofs.lemmas.List.FromFn.{length-map-range_with_len, get_or-map-range_with_len, map-range_with_len_more}
use Rattle.ann_bytes.proofs.Numbered.{take_bytes, drop_bytes}
use Rattle.ann_mdelete.specs.Decoded.{AreDecoded, width_of, vector_at, vectors_in}
use Rattle.ann_mdelete.proofs.Parts.{same_from}

pub place_ends : (i n w m : ℕ) → i < n → m ≡ n * w → i * w + w ≤ m
place_ends i n w m l e =
    let next : suc i * w ≡ i * w + w = suc-mul i w in
    let within : suc i * w ≤ n * w = mul-le-mul_right {m = suc i} {n = n} w (omega arith) in omega arith

pub more_places : (n w : ℕ) → (n + 1) * w ≡ n * w + w
more_places n w = ap (λ m. m * w) (add-one n) ∙ suc-mul n w

pub count_vectors : (w n : ℕ) (xs : List ℕ) (v : List (List ℕ)) → vectors_in w n xs ≡ v → length v ≡ n
count_vectors w n xs v is = ap length (sym is) ∙ length-map-range_with_len (vector_at w xs) 0 n

pub at_vectors : (w n : ℕ) (xs : List ℕ) (v : List (List ℕ)) (i : ℕ) → vectors_in w n xs ≡ v → i < length v → vector_at w xs i ≡ get_or v i []
at_vectors w n xs v i is h =
    let count = count_vectors w n xs v is in
    sym (get_or-map-range_with_len (vector_at w xs) 0 n i i [] (omega arith) (omega arith)) ∙ ap (λ t. get_or t i []) is

pub width_vectors : (w n : ℕ) (xs : List ℕ) (v : List (List ℕ)) (i : ℕ) → vectors_in w n xs ≡ v → length xs ≡ n * w → i < length v → length (get_or v i []) ≡ w
width_vectors w n xs v i is whole h =
    let count = count_vectors w n xs v is in
    let ends = place_ends i n w (length xs) (omega arith) whole in
    let rest = length-drop (i * w) xs in
    ap length (sym (at_vectors w n xs v i is h)) ∙ length-take-le w (drop (i * w) xs) (omega arith)

-- one more vector, of the width of those before
pub push_vectors : (w n : ℕ) (xs ys xs' : List ℕ) → length xs ≡ n * w → length ys ≡ w → xs' ≡ xs ++ ys → vectors_in w (n + 1) xs' ≡ vectors_in w n xs ++ ys ∷ []
push_vectors w n xs ys xs' whole wide is =
    let all : List ℕ = xs ++ ys in
    let before : (i : ℕ) → i < n → vector_at w all i ≡ vector_at w xs i =
    λ i h. let ends = place_ends i n w (length xs) h whole in
    let rest = length-drop (i * w) xs in
    ap (take w) (drop-append-le (i * w) xs ys (omega arith)) ∙ take-append-le w (drop (i * w) xs) ys (omega arith) in
    let last : vector_at w all n ≡ ys = ap (take w) (drop_at xs ys (n * w) whole) ∙ take_all w ys (omega arith) in
    ap (vectors_in w (n + 1)) is
    ∙ map-range_with_len_more (vector_at w all) 0 n n (omega arith)
    ∙ ap (λ t. t ++ vector_at w all n ∷ []) (same_from (vector_at w all) (vector_at w xs) n [] before)
    ∙ ap (λ t. vectors_in w n xs ++ t ∷ []) last

-- vectors of another width have that of the next one, or there are none
widths_agree : (w n : ℕ) (xs : List ℕ) (v : List (List ℕ)) (d : ℕ) → vectors_in w n xs ≡ v → length xs ≡ n * w → All (λ x. length x ≡ d) v → 0 < n → w ≡ d
widths_agree w n xs v d is whole all some =
    let count = count_vectors w n xs v is in
    sym (width_vectors w n xs v 0 is whole (omega arith)) ∙ All-get_or (λ x. length x ≡ d) v 0 [] (omega arith) all

pub same_size : (w n : ℕ) (xs : List ℕ) (v : List (List ℕ)) (d : ℕ) → vectors_in w n xs ≡ v → length xs ≡ n * w → All (λ x. length x ≡ d) v → length xs ≡ n * d
same_size w zero xs v d is whole all = whole ∙ zero-mul w ∙ sym (zero-mul d)
same_size w (suc n) xs v d is whole all = whole ∙ ap (λ k. suc n * k) (widths_agree w (suc n) xs v d is whole all (omega arith))

pub same_vectors : (w n : ℕ) (xs : List ℕ) (v : List (List ℕ)) (d : ℕ) → vectors_in w n xs ≡ v → length xs ≡ n * w → All (λ x. length x ≡ d) v → vectors_in d n xs ≡ v
same_vectors w zero xs v d is whole all = is
same_vectors w (suc n) xs v d is whole all = ap (λ k. vectors_in k (suc n) xs) (sym (widths_agree w (suc n) xs v d is whole all (omega arith))) ∙ is

-- so with one vector more of this width they are those before and this one
pub added_vector : (w n : ℕ) (xs ys xs' : List ℕ) (v : List (List ℕ)) (d : ℕ) → vectors_in w n xs ≡ v → length xs ≡ n * w → All (λ x. length x ≡ d) v → length ys ≡ d → xs' ≡ xs ++ ys → vectors_in d (n + 1) xs' ≡ v ++ ys ∷ []
added_vector w n xs ys xs' v d is whole all wide more =
    push_vectors d n xs ys xs' (same_size w n xs v d is whole all) wide more
    ∙ ap (λ t. t ++ ys ∷ []) (same_vectors w n xs v d is whole all)

pub added_size : (w n : ℕ) (xs ys xs' : List ℕ) (v : List (List ℕ)) (d : ℕ) → vectors_in w n xs ≡ v → length xs ≡ n * w → All (λ x. length x ≡ d) v → length xs' ≡ length xs + d → length xs' ≡ (n + 1) * d
added_size w n xs ys xs' v d is whole all long =
    let same = same_size w n xs v d is whole all in
    let more = more_places n d in omega arith

-- ---- what is true of all of them

component : (w n : ℕ) (xs : List ℕ) (v : List (List ℕ)) → vectors_in w n xs ≡ v → ((i : ℕ) → get_or xs i 0 < 256) → (row i : ℕ) → get_or (get_or v row []) i 0 < 256
component w n xs v is bytes row i = elim (cases_lt row (length v)) as (λ _. get_or (get_or v row []) i 0 < 256) [
  | inl h ↦ subst (λ (x : List ℕ). get_or x i 0 < 256) (at_vectors w n xs v row is h) (take_bytes w (drop (row * w) xs) (drop_bytes (row * w) xs bytes) i)
  | inr h ↦ subst (λ (x : List ℕ). get_or x i 0 < 256) (sym (get_or_past v row [] h)) (let none : 0 < 256 = omega arith in none)
]

width_short : (w n : ℕ) (xs : List ℕ) (v : List (List ℕ)) → vectors_in w n xs ≡ v → length xs ≡ n * w → w ≤ 1024 → width_of v ≤ 1024
width_short w n xs v is whole short = elim (cases_lt 0 (length v)) as (λ _. width_of v ≤ 1024) [
  | inl h ↦ let wide = width_vectors w n xs v 0 is whole h in omega arith
  | inr h ↦ let none = ap length (get_or_past v 0 [] h) in omega arith
]

pub are_decoded : (w n : ℕ) (xs : List ℕ) (v : List (List ℕ)) → vectors_in w n xs ≡ v → length xs ≡ n * w → w ≤ 1024 → n < 2 ^ 32 → ((i : ℕ) → get_or xs i 0 < 256) → AreDecoded v
are_decoded w n xs v is whole short few bytes = record {
  same = λ row h. width_vectors w n xs v row is whole h ∙ sym (width_vectors w n xs v 0 is whole (omega arith));
  short = width_short w n xs v is whole short;
  few = subst (λ (k : ℕ). k < 2 ^ 32) (sym (count_vectors w n xs v is)) few;
  components = component w n xs v is bytes;
}
