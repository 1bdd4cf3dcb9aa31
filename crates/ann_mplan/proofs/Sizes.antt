-- How many later rows each row has, and where these begin.
use Rattle.std.proofs.Common.{◌≡◌, ℕ, zero, suc, ◌+◌, ◌*◌, ◌^◌, ◌≤◌, ◌<◌, Bool, true, false, cond, List, [], ◌∷◌, ◌++◌, ◌||◌, refl, sym, ap, subst, ◌∙◌, arith, map, filter, take, drop, set, length, get_or, inl, inr, length-append}
use Rattle.std.specs.Prelude.{All, sum}
use Rattle.std.specs.List.{range_with_len}
use Rattle.std.proofs.lemmas.Bool.{cases_eq, cases_lt}
use Rattle.std.proofs.lemmas.List.{take_all, take-append-drop, length-map, length-set, get_or-set_same, get_or-set_other, get_or_past}
use Rattle.std.proofs.lemmas.List.Sums.{sum_by-le, sum_by_more, sum_by_more_le}
use Rattle.std.proofs.lemmas.List.FromFn.{fill_by_all, get_or-map-range_with_len, length-map-range_with_len, length-range_with_len}
use Rattle.std.proofs.Math.Nat.{mul-le-mul}
use Rattle.ann_types.specs.Order.{has}
use Rattle.ann_types.proofs.Ordered.{has_append}
use Rattle.ann_types.proofs.Sets.{Rises}
use Rattle.ann_mplan.specs.Back.{linking, once, place_of, sizes_of}
use Rattle.ann_mplan.proofs.Places.{linking_more, linking_le, once_before, once_here, once_other, size_at}

-- one row of a list more is counted
pub counted_more : (old sizes list : List ℕ) (k row : ℕ) → Rises list → k < length list → row ≡ get_or list k 0 → ((r : ℕ) → r < length sizes → get_or sizes r 0 ≡ get_or old r 0 + length (once (take k list) 0 r)) → (r : ℕ) → r < length (set sizes row (get_or sizes row 0 + 1)) → get_or (set sizes row (get_or sizes row 0 + 1)) r 0 ≡ get_or old r 0 + length (once (take (k + 1) list) 0 r)
counted_more old sizes list k row rises h is so_far r inside =
    let same = length-set sizes row (get_or sizes row 0 + 1) in
    let within : r < length sizes = omega arith in
    elim (cases_eq r row) as (λ _. get_or (set sizes row (get_or sizes row 0 + 1)) r 0 ≡ get_or old r 0 + length (once (take (k + 1) list) 0 r)) [
      | inl e ↦ subst (λ (n : ℕ). get_or (set sizes row (get_or sizes row 0 + 1)) n 0 ≡ get_or old n 0 + length (once (take (k + 1) list) 0 n)) (sym e)
          (let in_row : row < length sizes = omega arith in
          let before = so_far row in_row in
          let none : length (once (take k list) 0 row) ≡ 0 = ap length (ap (once (take k list) 0) is ∙ once_before list k 0 rises h) in
          let one : length (once (take (k + 1) list) 0 row) ≡ 1 = ap length (ap (once (take (k + 1) list) 0) is ∙ once_here list k 0 rises h) in
          get_or-set_same sizes row (get_or sizes row 0 + 1) 0 in_row ∙ omega arith)
      | inr d ↦ get_or-set_other sizes row r (get_or sizes row 0 + 1) 0 d ∙ so_far r within
          ∙ ap (λ (t : List ℕ). get_or old r 0 + length t) (sym (once_other list k 0 r h (λ e. d (e ∙ sym is))))
    ]

-- ---- how many there are

few_passed : (q : ℕ → Bool) (xs : List ℕ) → length (filter q xs) ≤ length xs
few_passed q [] = omega arith
few_passed q (x ∷ xs) =
    let rest = few_passed q xs in
    elim (q x) as (λ t. length (cond t (x ∷ filter q xs) (filter q xs)) ≤ length (x ∷ xs)) [ true ↦ omega arith | false ↦ omega arith ]

pub linking_few : (base : ℕ) (links : List (List ℕ)) (count row : ℕ) → length (linking base links count row) ≤ count
linking_few base links count row =
    let q : ℕ → Bool = λ i. has (get_or links i []) row in
    let some = few_passed q (range_with_len 0 count) in
    let all = length-range_with_len 0 count in
    let each = length-map (filter q (range_with_len 0 count)) (λ i. base + i) in omega arith

-- the sizes after one list more
pub sizes_more : (base : ℕ) (links : List (List ℕ)) (i : ℕ) (sizes sizes' list : List ℕ) → list ≡ get_or links i [] → length sizes ≡ base → ((row : ℕ) → row < base → get_or sizes row 0 ≡ length (linking base links i row)) → ((row : ℕ) → row < length sizes → get_or sizes' row 0 ≡ get_or sizes row 0 + length (once list 0 row)) → (row : ℕ) → row < base → get_or sizes' row 0 ≡ length (linking base links (i + 1) row)
sizes_more base links i sizes sizes' list is long before more row h =
    let once_size : length (once list 0 row) ≡ length (once list (base + i) row) = same_length (has list row) in
    let added : length (linking base links (i + 1) row) ≡ length (linking base links i row) + length (once list (base + i) row) =
    ap length (linking_more base links i row) ∙ length-append (linking base links i row) (once (get_or links i []) (base + i) row)
    ∙ ap (λ (t : List ℕ). length (linking base links i row) + length (once t (base + i) row)) (sym is) in
    let now = more row (let s = long in omega arith) in
    let old = before row h in omega arith
  where
    same_length : (b : Bool) → length {A = ℕ} (cond b (0 ∷ []) []) ≡ length {A = ℕ} (cond b ((base + i) ∷ []) [])
    same_length true = refl
    same_length false = refl

pub small_sizes : (base : ℕ) (links : List (List ℕ)) (i : ℕ) (sizes : List ℕ) → i < 2 ^ 32 → length sizes ≡ base → ((row : ℕ) → row < base → get_or sizes row 0 ≡ length (linking base links i row)) → (row : ℕ) → get_or sizes row 0 < 2 ^ 32
small_sizes base links i sizes few long are row = elim (cases_lt row base) as (λ _. get_or sizes row 0 < 2 ^ 32) [
  | inl h ↦ (let is = are row h in let some = linking_few base links i row in omega arith)
  | inr h ↦ subst (λ (n : ℕ). n < 2 ^ 32) (sym (get_or_past sizes row 0 (omega arith))) (let none : 0 < 2 ^ 32 = omega arith in none)
]

-- ---- all of them together

pub total_small : (base : ℕ) (links : List (List ℕ)) → base + length links < 2 ^ 32 → sum (sizes_of base links) < 2 ^ 64
total_small base links few =
    let n : ℕ = length links in
    let long = length-map-range_with_len (λ row. length (linking base links n row)) 0 base in
    let each : All (λ (x : ℕ). x ≤ n) (sizes_of base links) = all_few in
    let most : sum (sizes_of base links) ≤ length (sizes_of base links) * n = sum_by-le (λ (x : ℕ). x) n (sizes_of base links) each in
    let bound : length (sizes_of base links) * n ≤ 4294967295 * 4294967295 = mul-le-mul {n₁ = length (sizes_of base links)} {m₁ = n} {n₂ = 4294967295} {m₂ = 4294967295} (omega arith) (omega arith) in omega arith
  where
    all_few : All (λ (x : ℕ). x ≤ length links) (sizes_of base links)
    all_few k d h =
        let long = length-map-range_with_len (λ row. length (linking base links (length links) row)) 0 base in
        let is : get_or (sizes_of base links) k d ≡ length (linking base links (length links) k) = get_or-map-range_with_len (λ row. length (linking base links (length links) row)) 0 base k k d (omega arith) (omega arith) in
        let some = linking_few base links (length links) k in omega arith

-- ---- places, one after the other

pub sum_more : (sizes old : List ℕ) (row place : ℕ) → row < length old → place ≡ sum (take row old) → get_or sizes row 0 ≡ get_or old row 0 → place + get_or sizes row 0 ≡ sum (take (row + 1) old)
sum_more sizes old row place h so_far is = let more = sum_by_more (λ (x : ℕ). x) old row 0 h in omega arith

pub sum_within : (sizes old : List ℕ) (row place : ℕ) → row < length old → place ≡ sum (take row old) → get_or sizes row 0 ≡ get_or old row 0 → place + get_or sizes row 0 ≤ sum old
sum_within sizes old row place h so_far is = let more = sum_by_more_le (λ (x : ℕ). x) old row 0 h in omega arith

pub placed_more : (sizes old : List ℕ) (row place : ℕ) → row < length sizes → place ≡ sum (take row old) → ((r : ℕ) → r < row → get_or sizes r 0 ≡ sum (take r old)) → (r : ℕ) → r < row + 1 → get_or (set sizes row place) r 0 ≡ sum (take r old)
placed_more sizes old row place h is before r less = elim (cases_lt r row) as (λ _. get_or (set sizes row place) r 0 ≡ sum (take r old)) [
  | inl l ↦ get_or-set_other sizes row r place 0 (λ e. omega arith) ∙ before r l
  | inr l ↦ (let e : row ≡ r = omega arith in subst (λ (k : ℕ). get_or (set sizes row place) k 0 ≡ sum (take k old)) e (get_or-set_same sizes row place 0 h ∙ is))
]
