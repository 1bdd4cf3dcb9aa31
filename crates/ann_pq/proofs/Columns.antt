-- Distances by the first components, in lanes.
use Rattle.std.proofs.Common.{◌≡◌, ℕ, ◌+◌, ◌-◌, ◌*◌, inl, inr, ◌≤◌, ◌<◌, List, [], ◌∷◌, ◌++◌, length, get_or, take, map, sym, ap, ◌∙◌, arith, add-zero}
use Rattle.std.specs.Int.{abs_diff}
use Rattle.std.proofs.lemmas.List.{take_more, take_all, length-take-le, get_or-map, length-map}
use Rattle.std.proofs.lemmas.List.FromFn.{map-range_with_len_more, length-map-range_with_len}
use Rattle.std.proofs.lemmas.Simd.{get_or-zip2, get_or-chunk, length-chunk, get_or-put_chunk_below, get_or-put_chunk_at, Each1-get_or}
use Rattle.std.proofs.lemmas.Bool.{cases_lt}
use lib.Lanes.{put_chunk}
use Rattle.ann_types.specs.Distance.{distance}
use Rattle.ann_types.proofs.Distances.{distance-append}
use Rattle.ann_lanes.specs.Lanes.{Each1, zip2, chunk, square}
use Rattle.ann_pq.specs.Turned.{column, IsBlock}

-- one component more
pub distance_more : (part turned : List ℕ) (number i : ℕ) → i < length part → distance (take (i + 1) part) (column turned number (i + 1)) ≡ distance (take i part) (column turned number i) + square (abs_diff (get_or part i 0) (get_or turned (256 * i + number) 0))
distance_more part turned number i within =
    let f = λ (j : ℕ). get_or turned (256 * j + number) 0 in
    let same : length (take i part) ≡ length (column turned number i) = length-take-le i part (omega arith) ∙ sym (length-map-range_with_len f 0 i) in
    ap (λ t. distance t (column turned number (i + 1))) (take_more part i 0 within)
    ∙ ap (λ t. distance (take i part ++ get_or part i 0 ∷ []) t) (map-range_with_len_more f 0 i i (omega arith))
    ∙ distance-append (take i part) (column turned number i) (get_or part i 0 ∷ []) (f i ∷ []) same
    ∙ ap (λ n. distance (take i part) (column turned number i) + n) (add-zero (square (abs_diff (get_or part i 0) (f i))))

-- one lane of the squares
pub square_at : (component : ℕ) (turned : List ℕ) (at k : ℕ) → at + 16 ≤ length turned → k < 16 → get_or (map square (map (abs_diff component) (chunk at 16 turned))) k 0 ≡ square (abs_diff component (get_or turned (at + k) 0))
square_at component turned at k fits below =
    let long : length (chunk at 16 turned) ≡ 16 = length-chunk at 16 turned fits in
    let also : length (map (abs_diff component) (chunk at 16 turned)) ≡ 16 = length-map (chunk at 16 turned) (abs_diff component) ∙ long in
    get_or-map square (map (abs_diff component) (chunk at 16 turned)) k 0 0 (omega arith)
    ∙ ap square (get_or-map (abs_diff component) (chunk at 16 turned) k 0 0 (omega arith) ∙ ap (abs_diff component) (get_or-chunk at 16 turned k 0 below))

-- the numbers with sixteen more
pub blocks_more : (part turned : List ℕ) (at : ℕ) (out lanes : List ℕ) → at + 16 ≤ length out → length lanes ≡ 16 → ((n : ℕ) → n < at → get_or out n 0 ≡ distance part (column turned n (length part))) → IsBlock part turned at (length part) lanes → (n : ℕ) → n < at + 16 → get_or (put_chunk at out lanes) n 0 ≡ distance part (column turned n (length part))
blocks_more part turned at out lanes fits sixteen before block n below =
    elim (cases_lt n at) [
      | inl low ↦ get_or-put_chunk_below at out lanes n 0 low ∙ before n low
      | inr high ↦ (let place : n ≡ at + (n - at) = omega arith in
          ap (λ k. get_or (put_chunk at out lanes) k 0) place
          ∙ get_or-put_chunk_at at out lanes (n - at) 0 (omega arith) (omega arith)
          ∙ block (n - at) (omega arith)
          ∙ ap (λ t. distance t (column turned (at + (n - at)) (length part))) (take_all (length part) part (omega arith))
          ∙ ap (λ k. distance part (column turned k (length part))) (sym place))
    ]

pub blocks_small : (most at : ℕ) (out lanes : List ℕ) → at + 16 ≤ length out → length lanes ≡ 16 → ((n : ℕ) → n < at → get_or out n 0 ≤ most) → Each1 {A = ℕ} (λ sum. sum ≤ most) lanes → (n : ℕ) → n < at + 16 → get_or (put_chunk at out lanes) n 0 ≤ most
blocks_small most at out lanes fits sixteen before block n below =
    elim (cases_lt n at) [
      | inl low ↦ (let same = get_or-put_chunk_below at out lanes n 0 low in let small = before n low in omega arith)
      | inr high ↦ (let place : n ≡ at + (n - at) = omega arith in
          let same = ap (λ k. get_or (put_chunk at out lanes) k 0) place ∙ get_or-put_chunk_at at out lanes (n - at) 0 (omega arith) (omega arith) in
          let small = Each1-get_or {X = ℕ} (λ sum. sum ≤ most) lanes (n - at) 0 (omega arith) block in omega arith)
    ]

-- the lanes with one component more
pub block_more : (part turned : List ℕ) (at i x : ℕ) (sums squares : List ℕ) → i < length part → x ≡ get_or part i 0 → 256 * i + at + 16 ≤ length turned → length sums ≡ 16 → squares ≡ map square (map (abs_diff x) (chunk (256 * i + at) 16 turned)) → length squares ≡ 16 → IsBlock part turned at i sums → IsBlock part turned at (i + 1) (zip2 (λ a b. a + b) sums squares)
block_more part turned at i x sums squares within is fits long squared also so_far = λ k below.
    get_or-zip2 (λ a b. a + b) sums squares k 0 0 0 (omega arith) (omega arith)
    ∙ ap (λ n. n + get_or squares k 0) (so_far k below)
    ∙ ap (λ n. distance (take i part) (column turned (at + k) i) + n) (ap (λ t. get_or t k 0) squared ∙ square_at x turned (256 * i + at) k fits below)
    ∙ ap (λ n. distance (take i part) (column turned (at + k) i) + square (abs_diff n (get_or turned (256 * i + at + k) 0))) is
    ∙ ap (λ n. distance (take i part) (column turned (at + k) i) + square (abs_diff (get_or part i 0) (get_or turned n 0))) (omega arith)
    ∙ sym (distance_more part turned (at + k) i within)
