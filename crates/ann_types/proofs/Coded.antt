-- Lemmas on codes: which number is the nearest centroid's, and how long codes and decoded vectors are.
use Rattle.std.proofs.Common.{◌≡◌, ℕ, zero, suc, ◌*◌, ◌/◌, ◌≤◌, ◌<◌, eqb, List, [], ◌∷◌, refl, sym, ap, subst, ◌∙◌, arith, map, length, get_or, take, drop, eq-eqb, inl, inr}
use Rattle.std.specs.List.{AllByRecursion, position_or_len}
use Rattle.std.proofs.lemmas.Bool.{ne_eqb, cases_lt}
use Rattle.std.proofs.lemmas.List.{length-map, length-append, get_or-map}
use Rattle.std.proofs.lemmas.List.Sums.{position_or_len_is}
use Rattle.std.proofs.Math.Nat.{min-le_left, min-le_right, le-min}
use Rattle.ann_types.specs.Distance.{distance}
use Rattle.ann_types.specs.Codes.{Book, least, nearest, code_of_parts, code, decode}

-- ---- the least of some numbers

pub least_le : (ns : List ℕ) (k : ℕ) → k < length ns → least ns ≤ get_or ns k 0
least_le [] k l = absurd (omega arith)
least_le (n ∷ []) zero l = omega arith
least_le (n ∷ []) (suc k) l = absurd (omega arith)
least_le (n ∷ m ∷ ns) zero l = min-le_left n (least (m ∷ ns))
least_le (n ∷ m ∷ ns) (suc k) l = let first = min-le_right n (least (m ∷ ns)) in let rest = least_le (m ∷ ns) k (omega arith) in omega arith

pub le_least : (b : ℕ) (ns : List ℕ) → 0 < length ns → ((k : ℕ) → k < length ns → b ≤ get_or ns k 0) → b ≤ least ns
le_least b [] l f = absurd (omega arith)
le_least b (n ∷ []) l f = f 0 (omega arith)
le_least b (n ∷ m ∷ ns) l f = le-min (f 0 (omega arith)) (le_least b (m ∷ ns) (omega arith) (λ k h. f (suc k) (omega arith)))

pub least_is : (ns : List ℕ) (i : ℕ) → i < length ns → ((k : ℕ) → k < length ns → get_or ns i 0 ≤ get_or ns k 0) → least ns ≡ get_or ns i 0
least_is ns i l f = let below = least_le ns i l in let above = le_least (get_or ns i 0) ns (omega arith) f in omega arith

-- ---- the nearest centroid

-- It is the first one that no other is nearer than.
pub nearest_is : (centroids : List (List ℕ)) (part : List ℕ) (i : ℕ) → i < length centroids → ((k : ℕ) → k < length centroids → distance part (get_or centroids i []) ≤ distance part (get_or centroids k [])) → ((k : ℕ) → k < i → distance part (get_or centroids i []) < distance part (get_or centroids k [])) → nearest centroids part ≡ i
nearest_is centroids part i l all before =
    let ns : List ℕ = map (distance part) centroids in
    let size : length ns ≡ length centroids = length-map centroids (distance part) in
    let at : (k : ℕ) → k < length centroids → get_or ns k 0 ≡ distance part (get_or centroids k []) = λ k h. get_or-map (distance part) centroids k [] 0 h in
    let lowest : least ns ≡ distance part (get_or centroids i []) =
    least_is ns i (omega arith) (λ k h. let here = at i l in let there = at k (omega arith) in let bound = all k (omega arith) in omega arith) ∙ at i l in
    ap (λ n. position_or_len (λ c. eqb (distance part c) n) centroids) lowest
    ∙ position_or_len_is (λ c. eqb (distance part c) (distance part (get_or centroids i []))) centroids i [] (omega arith)
    (λ k h. ne_eqb (distance part (get_or centroids k [])) (distance part (get_or centroids i [])) (λ e. let more = before k h in absurd (omega arith)))
    (λ h. eq-eqb (distance part (get_or centroids i [])) (distance part (get_or centroids i [])) refl)

-- the first place of the least of numbers
pub record FirstLeast (ns : List ℕ) : Type 0 where
  pub place : ℕ
  pub there : place < length ns
  pub least : (k : ℕ) → k < length ns → get_or ns place 0 ≤ get_or ns k 0
  pub first : (k : ℕ) → k < place → get_or ns place 0 < get_or ns k 0

pub first_least : (n : ℕ) (ns : List ℕ) → FirstLeast (n ∷ ns)
first_least n [] = record { place = 0; there = omega arith; least = λ k l. (let e : k ≡ 0 = omega arith in subst (λ (t : ℕ). n ≤ get_or (n ∷ []) t 0) (sym e) (omega arith)); first = λ k l. absurd (omega arith) }
first_least n (m ∷ ns) =
    let rest = first_least m ns in
    elim (cases_lt (get_or (m ∷ ns) rest.place 0) n) [
      | inl lower ↦ record {
        place = suc rest.place;
        there = (let l = rest.there in omega arith);
        least = λ k l. below_later n (m ∷ ns) (get_or (m ∷ ns) rest.place 0) k (omega arith) rest.least l;
        first = λ k l. before_later n (m ∷ ns) (get_or (m ∷ ns) rest.place 0) rest.place k lower rest.first l;
      }
      | inr higher ↦ record {
        place = 0;
        there = omega arith;
        least = λ k l. below_later n (m ∷ ns) n k (omega arith) (λ j h. let low = rest.least j h in omega arith) l;
        first = λ k l. absurd (omega arith);
      }
    ]
  where
    below_later : (n : ℕ) (ns : List ℕ) (b k : ℕ) → b ≤ n → ((j : ℕ) → j < length ns → b ≤ get_or ns j 0) → k < length (n ∷ ns) → b ≤ get_or (n ∷ ns) k 0
    below_later n ns b zero h f l = h
    below_later n ns b (suc k) h f l = f k (omega arith)

    before_later : (n : ℕ) (ns : List ℕ) (b place k : ℕ) → b < n → ((j : ℕ) → j < place → b < get_or ns j 0) → k < suc place → b < get_or (n ∷ ns) k 0
    before_later n ns b place zero h f l = h
    before_later n ns b place (suc k) h f l = f k (omega arith)

-- A number of a code is one of a centroid.
pub nearest_below : (centroids : List (List ℕ)) (part : List ℕ) → 0 < length centroids → nearest centroids part < length centroids
nearest_below [] part l = absurd (omega arith)
nearest_below (c ∷ centroids) part l =
    let best = first_least (distance part c) (map (distance part) centroids) in
    let size : length (map (distance part) (c ∷ centroids)) ≡ length (c ∷ centroids) = length-map (c ∷ centroids) (distance part) in
    let at : (k : ℕ) → k < length (c ∷ centroids) → get_or (map (distance part) (c ∷ centroids)) k 0 ≡ distance part (get_or (c ∷ centroids) k []) = λ k h. get_or-map (distance part) (c ∷ centroids) k [] 0 h in
    let within : best.place < length (c ∷ centroids) = (let there = best.there in omega arith) in
    let is : nearest (c ∷ centroids) part ≡ best.place =
    nearest_is (c ∷ centroids) part best.place within
    (λ k h. let here = at best.place within in let there = at k h in let bound = best.least k (omega arith) in omega arith)
    (λ k h. let here = at best.place within in let there = at k (omega arith) in let bound = best.first k h in omega arith) in
    subst (λ (i : ℕ). i < length (c ∷ centroids)) (sym is) within

-- ---- lengths

pub length_code_of_parts : (width : ℕ) (book : Book) (vector : List ℕ) → length (code_of_parts width book vector) ≡ length book
length_code_of_parts width [] vector = refl
length_code_of_parts width (centroids ∷ book) vector = ap suc (length_code_of_parts width book (drop width vector))

-- A code has one number for each part.
pub length_code : (book : Book) (vector : List ℕ) → length (code book vector) ≡ length book
length_code book vector = length_code_of_parts (length vector / length book) book vector

-- each part has centroids, all of this width
abbrev pub HasWidth : ℕ → Book → Type 0
HasWidth width book = AllByRecursion (λ centroids. (0 < length centroids) × AllByRecursion (λ c. length c ≡ width) centroids) book

-- each number of a code is one of its part's centroids
abbrev pub IsCode : Book → List ℕ → Type 0
IsCode [] [] = Unit {0}
IsCode [] (n ∷ code) = ⊥
IsCode (centroids ∷ book) [] = ⊥
IsCode (centroids ∷ book) (n ∷ code) = (n < length centroids) × IsCode book code

pub code_is_code : (width : ℕ) (book : Book) (vector : List ℕ) (w : ℕ) → HasWidth w book → IsCode book (code_of_parts width book vector)
code_is_code width [] vector w h = tt
code_is_code width (centroids ∷ book) vector w (h, a) = (nearest_below centroids (take width vector) h.0, code_is_code width book (drop width vector) w a)

wide_at : (w : ℕ) (cs : List (List ℕ)) (n : ℕ) → AllByRecursion (λ c. length c ≡ w) cs → n < length cs → length (get_or cs n []) ≡ w
wide_at w [] n a l = absurd (omega arith)
wide_at w (c ∷ cs) zero (h, a) l = h
wide_at w (c ∷ cs) (suc n) (h, a) l = wide_at w cs n a (omega arith)

-- A decoded vector has as many components as the parts have together.
pub length_decode : (w : ℕ) (book : Book) (code : List ℕ) → HasWidth w book → IsCode book code → length (decode book code) ≡ length book * w
length_decode w [] [] h c = omega arith
length_decode w [] (n ∷ code) h c = elim c [ ]
length_decode w (centroids ∷ book) [] h c = elim c [ ]
length_decode w (centroids ∷ book) (n ∷ code) (h, a) (l, c) =
    let first = wide_at w centroids n h.1 l in
    let rest = length_decode w book code a c in
    let size = length-append (get_or centroids n []) (decode book code) in
    omega arith
