-- Later rows put into the places of the rows that they link to.
use Rattle.std.proofs.Common.{◌≡◌, ◌≢◌, ℕ, zero, suc, ◌+◌, ◌-◌, ◌≤◌, ◌<◌, Bool, true, false, cond, eqb, List, [], ◌∷◌, ◌++◌, ◌||◌, refl, sym, ap, ap₂, subst, ◌∙◌, arith, map, filter, take, drop, set, length, get_or, eq-eqb, inl, inr, length-append}
use Rattle.std.specs.Prelude.{sum}
use Rattle.std.specs.List.{range_with_len, slice_range, AllByRecursion}
use Rattle.std.proofs.lemmas.Bool.{cases_eq, cases_lt, cases_order, ne_eqb}
use Rattle.std.proofs.lemmas.List.{take_more, map-append, append-nil, take-take, take_all, length-drop, drop-set-add, drop-set-lt, take-set-le, take_more_set, get_or-set_same, get_or-set_other, length-set}
use Rattle.std.proofs.lemmas.List.Elements.{filter-append}
use Rattle.std.proofs.lemmas.List.Sums.{sum_by_more, sum_by-take-le}
use Rattle.std.proofs.lemmas.List.FromFn.{length-map-range_with_len, get_or-map-range_with_len}
use Rattle.ann_types.specs.Order.{has}
use Rattle.ann_types.proofs.Ordered.{has_append}
use Rattle.ann_types.proofs.Sets.{Rises}
use Rattle.ann_mdelete.proofs.Pieces.{range_more}
use Rattle.ann_mplan.proofs.Rising.{above_at}
use Rattle.ann_mplan.specs.Back.{AreFilled, linking, once, place_of, sizes_of}

-- ---- a list's rows one by one

not_earlier : (xs : List ℕ) (k : ℕ) → Rises xs → k < length xs → has (take k xs) (get_or xs k 0) ≡ false
not_earlier [] k w l = absurd (omega arith)
not_earlier (x ∷ xs) zero w l = refl
not_earlier (x ∷ xs) (suc k) (above, w) l =
    let less : x < get_or xs k 0 = above_at x xs k above (omega arith) in
    ap (λ t. t || has (take k xs) (get_or xs k 0)) (ne_eqb (get_or xs k 0) x (λ e. omega arith))
    ∙ not_earlier xs k w (omega arith)

has_more : (xs : List ℕ) (k z : ℕ) → k < length xs → has (take (k + 1) xs) z ≡ (has (take k xs) z || (eqb z (get_or xs k 0) || false))
has_more xs k z l = ap (λ t. has t z) (take_more xs k 0 l) ∙ has_append (take k xs) (get_or xs k 0 ∷ []) z

pub once_before : (xs : List ℕ) (k later : ℕ) → Rises xs → k < length xs → once (take k xs) later (get_or xs k 0) ≡ []
once_before xs k later w l = ap (λ t. cond t (later ∷ []) []) (not_earlier xs k w l)

pub once_here : (xs : List ℕ) (k later : ℕ) → Rises xs → k < length xs → once (take (k + 1) xs) later (get_or xs k 0) ≡ later ∷ []
once_here xs k later w l =
    ap (λ t. cond t (later ∷ []) []) (has_more xs k (get_or xs k 0) l
    ∙ ap (λ t. t || (eqb (get_or xs k 0) (get_or xs k 0) || false)) (not_earlier xs k w l)
    ∙ ap (λ t. t || false) (eq-eqb (get_or xs k 0) (get_or xs k 0) refl))

pub once_other : (xs : List ℕ) (k later z : ℕ) → k < length xs → z ≢ get_or xs k 0 → once (take (k + 1) xs) later z ≡ once (take k xs) later z
once_other xs k later z l other =
    ap (λ t. cond t (later ∷ []) []) (has_more xs k z l
    ∙ ap (λ t. has (take k xs) z || (t || false)) (ne_eqb z (get_or xs k 0) other)
    ∙ or_none (has (take k xs) z))
  where
    or_none : (b : Bool) → (b || false) ≡ b
    or_none true = refl
    or_none false = refl

-- ---- those of one later row more

pub linking_more : (base : ℕ) (links : List (List ℕ)) (i row : ℕ) → linking base links (i + 1) row ≡ linking base links i row ++ once (get_or links i []) (base + i) row
linking_more base links i row =
    let q : ℕ → Bool = λ k. has (get_or links k []) row in
    let f : ℕ → ℕ = λ k. base + k in
    ap (λ t. map f (filter q t)) (range_more 0 i)
    ∙ ap (map f) (filter-append q (range_with_len 0 i) ((0 + i) ∷ []))
    ∙ map-append f (filter q (range_with_len 0 i)) (filter q ((0 + i) ∷ []))
    ∙ ap (λ (n : ℕ). linking base links i row ++ map f (filter q (n ∷ []))) (let e : 0 + i ≡ i = omega arith in e)
    ∙ ap (λ t. linking base links i row ++ t) (elim (q i) as (λ t. map f (cond t (i ∷ []) []) ≡ cond t ((base + i) ∷ []) []) [ true ↦ refl | false ↦ refl ])

pub linking_longer : (base : ℕ) (links : List (List ℕ)) (i k row : ℕ) → length (linking base links i row) ≤ length (linking base links (i + k) row)
linking_longer base links i zero row = subst (λ (n : ℕ). length (linking base links i row) ≤ length (linking base links n row)) (let e : i ≡ i + 0 = omega arith in e) (let e : length (linking base links i row) ≤ length (linking base links i row) = omega arith in e)
linking_longer base links i (suc k) row =
    let before = linking_longer base links i k row in
    let more = ap length (linking_more base links (i + k) row) in
    let both = length-append (linking base links (i + k) row) (once (get_or links (i + k) []) (base + (i + k)) row) in
    subst (λ (n : ℕ). length (linking base links i row) ≤ length (linking base links n row)) (let e : (i + k) + 1 ≡ i + suc k = omega arith in e) (let e : length (linking base links i row) ≤ length (linking base links ((i + k) + 1) row) = omega arith in e)

pub linking_le : (base : ℕ) (links : List (List ℕ)) (i j row : ℕ) → i ≤ j → length (linking base links i row) ≤ length (linking base links j row)
linking_le base links i j row less = subst (λ (n : ℕ). length (linking base links i row) ≤ length (linking base links n row)) (let e : i + (j - i) ≡ j = omega arith in e) (linking_longer base links i (j - i) row)

-- ---- places

pub size_at : (base : ℕ) (links : List (List ℕ)) (row : ℕ) → row < base → get_or (sizes_of base links) row 0 ≡ length (linking base links (length links) row)
size_at base links row h = get_or-map-range_with_len (λ r. length (linking base links (length links) r)) 0 base row row 0 h (omega arith)

pub place_more : (base : ℕ) (links : List (List ℕ)) (row : ℕ) → row < base → place_of base links (row + 1) ≡ place_of base links row + length (linking base links (length links) row)
place_more base links row h =
    let long = length-map-range_with_len (λ r. length (linking base links (length links) r)) 0 base in
    let size = size_at base links row h in
    sum_by_more (λ (x : ℕ). x) (sizes_of base links) row 0 (omega arith) ∙ ap (λ (n : ℕ). place_of base links row + n) size

pub place_le : (base : ℕ) (links : List (List ℕ)) (a b : ℕ) → a ≤ b → place_of base links a ≤ place_of base links b
place_le base links a b less =
    subst (λ (t : List ℕ). sum t ≤ place_of base links b) (take-take a b (sizes_of base links) less) (sum_by-take-le (λ (x : ℕ). x) (take b (sizes_of base links)) a)

-- ---- one number is put

slice_before : (xs : List ℕ) (a b at v : ℕ) → a ≤ b → b ≤ at → slice_range (set xs at v) a b ≡ slice_range xs a b
slice_before xs a b at v order before =
    ap (λ (n : ℕ). take (b - a) (drop a (set xs n v))) (let e : at ≡ a + (at - a) = omega arith in e)
    ∙ ap (take (b - a)) (drop-set-add a xs (at - a) v)
    ∙ take-set-le (b - a) (drop a xs) (at - a) v (omega arith)

slice_behind : (xs : List ℕ) (a b at v : ℕ) → at < a → slice_range (set xs at v) a b ≡ slice_range xs a b
slice_behind xs a b at v before = ap (take (b - a)) (drop-set-lt a xs at v before)

slice_push : (xs : List ℕ) (a at v : ℕ) → a ≤ at → at < length xs → slice_range (set xs at v) a (at + 1) ≡ slice_range xs a at ++ v ∷ []
slice_push xs a at v order within =
    let rest = length-drop a xs in
    ap (λ (n : ℕ). take (at + 1 - a) (drop a (set xs n v))) (let e : at ≡ a + (at - a) = omega arith in e)
    ∙ ap (take (at + 1 - a)) (drop-set-add a xs (at - a) v)
    ∙ ap (λ (n : ℕ). take n (set (drop a xs) (at - a) v)) (let e : at + 1 - a ≡ (at - a) + 1 = omega arith in e)
    ∙ take_more_set (drop a xs) (at - a) v (omega arith)

pub put_one : (base : ℕ) (links : List (List ℕ)) (so_far so_far' : ℕ → List ℕ) (ends numbers : List ℕ) (row end later : ℕ) → AreFilled base links so_far ends numbers → row < base → end ≡ get_or ends row 0 → length (so_far row) < length (linking base links (length links) row) → ((r : ℕ) → r < base → length (so_far r) ≤ length (linking base links (length links) r)) → so_far' row ≡ so_far row ++ later ∷ [] → ((r : ℕ) → r < base → r ≢ row → so_far' r ≡ so_far r) → AreFilled base links so_far' (set ends row (end + 1)) (set numbers end later)
put_one base links so_far so_far' ends numbers row end later w h is room few here others =
    let at : end ≡ place_of base links row + length (so_far row) = is ∙ w.end row h in
    let next : place_of base links (row + 1) ≡ place_of base links row + length (linking base links (length links) row) = place_more base links row h in
    let last : place_of base links (row + 1) ≤ place_of base links base = place_le base links (row + 1) base (omega arith) in
    let long = w.size in
    let within : end < length numbers = omega arith in
    let rows = w.rows in
    let row_in : row < length ends = omega arith in
    record {
      rows = length-set ends row (end + 1) ∙ w.rows;
      size = length-set numbers end later ∙ w.size;
      end = λ r b. elim (cases_eq r row) as (λ _. get_or (set ends row (end + 1)) r 0 ≡ place_of base links r + length (so_far' r)) [
        | inl e ↦ subst (λ (k : ℕ). get_or (set ends row (end + 1)) k 0 ≡ place_of base links k + length (so_far' k)) (sym e)
            (get_or-set_same ends row (end + 1) 0 row_in ∙ (let more = ap length here in let both = length-append (so_far row) (later ∷ []) in omega arith))
        | inr d ↦ get_or-set_other ends row r (end + 1) 0 d ∙ w.end r b ∙ ap (λ t. place_of base links r + length t) (sym (others r b d))
      ];
      stand = λ r b. elim (cases_order r row) as (λ _. slice_range (set numbers end later) (place_of base links r) (get_or (set ends row (end + 1)) r 0) ≡ so_far' r) [
        | inl e ↦ subst (λ (k : ℕ). slice_range (set numbers end later) (place_of base links k) (get_or (set ends row (end + 1)) k 0) ≡ so_far' k) (sym e)
            (ap (slice_range (set numbers end later) (place_of base links row)) (get_or-set_same ends row (end + 1) 0 row_in)
            ∙ slice_push numbers (place_of base links row) end later (omega arith) within
            ∙ ap (λ t. t ++ later ∷ []) (ap (slice_range numbers (place_of base links row)) is ∙ w.stand row h)
            ∙ sym here)
        | inr c ↦ elim c [
          | inl l ↦ (let d : r ≢ row = λ e. omega arith in
              let up = place_le base links (r + 1) row (omega arith) in
              let step = place_more base links r b in
              let fits = few r b in
              let ends_at = w.end r b in
              ap (slice_range (set numbers end later) (place_of base links r)) (get_or-set_other ends row r (end + 1) 0 d)
              ∙ slice_before numbers (place_of base links r) (get_or ends r 0) end later (omega arith) (omega arith)
              ∙ w.stand r b ∙ sym (others r b d))
          | inr l ↦ (let d : r ≢ row = λ e. omega arith in
              let up = place_le base links (row + 1) r (omega arith) in
              ap (slice_range (set numbers end later) (place_of base links r)) (get_or-set_other ends row r (end + 1) 0 d)
              ∙ slice_behind numbers (place_of base links r) (get_or ends r 0) end later (omega arith)
              ∙ w.stand r b ∙ sym (others r b d))
        ]
      ];
    }
