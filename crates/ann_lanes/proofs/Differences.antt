-- Lanes of absolute differences, and what they add up to.
use Rattle.std.proofs.Common.{◌≡◌, ℕ, ◌+◌, ◌*◌, ◌-◌, ◌%◌, ◌≤◌, ◌<◌, List, [], ◌∷◌, length, map, cond, true, false, refl, sym, ap, ◌∙◌, arith, take, drop, zero-add}
use Rattle.std.specs.Int.{abs_diff}
use borrow.Author.Tests.{ltb-true, ltb-false}
use lib.Dec.{ltb}
use Rattle.std.proofs.Math.Nat.{mul-le-mul_left, mul-le-mul_right}
use Rattle.ann_types.specs.Distance.{distance}
use Rattle.std.proofs.lemmas.Simd.{Each2-of, Each1-zip2, sum-zip2, fold-sum, sum_bound}
use Rattle.ann_types.proofs.Distances.{distance-take_add, distance-take_drop}
use lib.Lanes.{zip2, chunk, Each1, Each2, sel_l, top, sum_l, fold_l}
use Rattle.ann_lanes.specs.Lanes.{square}

-- subtracting the smaller lane from the greater one, whichever test and subtraction do it
pub differences : (sub mask : ℕ → ℕ → ℕ) → ((a b : ℕ) → a < 256 → b < 256 → sub (cond (top 7 (mask a b)) b a) (cond (top 7 (mask a b)) a b) ≡ abs_diff a b) → (xs ys : List ℕ) → length xs ≡ length ys → Each1 (λ a. a < 256) xs → Each1 (λ a. a < 256) ys → zip2 sub (sel_l (map (top 7) (zip2 mask xs ys)) ys xs) (sel_l (map (top 7) (zip2 mask xs ys)) xs ys) ≡ zip2 abs_diff xs ys
differences sub mask each [] [] long p q = refl
differences sub mask each [] (y ∷ ys) long p q = refl
differences sub mask each (x ∷ xs) [] long p q = refl
differences sub mask each (x ∷ xs) (y ∷ ys) long p q = ap (λ t. t ∷ zip2 sub (sel_l (map (top 7) (zip2 mask xs ys)) ys xs) (sel_l (map (top 7) (zip2 mask xs ys)) xs ys)) (each x y p.0 q.0) ∙ ap (λ t. abs_diff x y ∷ t) (differences sub mask each xs ys (omega arith) p.1 q.1)

pub differences_small : (xs ys : List ℕ) → Each1 (λ a. a < 256) xs → Each1 (λ a. a < 256) ys → Each1 (λ d. d ≤ 255) (zip2 abs_diff xs ys)
differences_small [] ys p q = tt
differences_small (x ∷ xs) [] p q = tt
differences_small (x ∷ xs) (y ∷ ys) p q = (let a = p.0 in let b = q.0 in omega arith, differences_small xs ys p.1 q.1)

-- the greater byte less the smaller one, as a comparison's mask picks them
pub masked : (a b : ℕ) → a < 256 → b < 256 → (cond (top 7 (cond (ltb a b) 255 0)) b a + (256 - cond (top 7 (cond (ltb a b) 255 0)) a b)) % 256 ≡ abs_diff a b
masked a b p q =
    elim (ltb a b) as (λ t. ltb a b ≡ t → (cond (top 7 (cond t 255 0)) b a + (256 - cond (top 7 (cond t 255 0)) a b)) % 256 ≡ abs_diff a b) [
      | true ↦ λ e. omega (arith, ltb-true)
      | false ↦ λ e. omega (arith, ltb-false)
    ] refl

-- the square of a byte
pub byte_square : (a : ℕ) → a ≤ 255 → a * a ≤ 65025
byte_square a small = omega (arith, mul-le-mul_left a small, mul-le-mul_right 255 small)

-- the squares of widened lanes, whichever widening and multiplication make them
pub squared_lanes : (wide : ℕ → ℕ) (times : ℕ → ℕ → ℕ) → ((a : ℕ) → a ≤ 255 → times (wide a) (wide a) ≡ a * a) → (xs : List ℕ) → Each1 (λ a. a ≤ 255) xs → zip2 times (map wide xs) (map wide xs) ≡ map square xs
squared_lanes wide times each [] small = refl
squared_lanes wide times each (x ∷ xs) small = ap (λ t. t ∷ zip2 times (map wide xs) (map wide xs)) (each x small.0) ∙ ap (λ t. x * x ∷ t) (squared_lanes wide times each xs small.1)

pub widened_fit : (Asks : ℕ → ℕ → Type 0) (wide : ℕ → ℕ) → ((a : ℕ) → a ≤ 255 → Asks (wide a) (wide a)) → (xs : List ℕ) → Each1 (λ a. a ≤ 255) xs → Each2 Asks (map wide xs) (map wide xs)
widened_fit Asks wide each [] small = tt
widened_fit Asks wide each (x ∷ xs) small = (each x small.0, widened_fit Asks wide each xs small.1)

pub squares_small : (xs : List ℕ) → Each1 (λ a. a ≤ 255) xs → Each1 (λ s. s ≤ 65025) (map square xs)
squares_small [] small = tt
squares_small (x ∷ xs) small = (byte_square x small.0, squares_small xs small.1)

pub length-squares : (xs : List ℕ) → length (map square xs) ≡ length xs
length-squares [] = refl
length-squares (x ∷ xs) = omega (arith, length-squares xs)

-- a distance is the sum of the squared lanes
pub distance_is_sum : (xs ys : List ℕ) → sum_l (map square (zip2 abs_diff xs ys)) ≡ distance xs ys
distance_is_sum [] ys = refl
distance_is_sum (x ∷ xs) [] = refl
distance_is_sum (x ∷ xs) (y ∷ ys) = ap (λ n. abs_diff x y * abs_diff x y + n) (distance_is_sum xs ys)

-- lanes below two bounds fit when they are added
pub sums_fit : (Asks : ℕ → ℕ → Type 0) (most more : ℕ) → ((a b : ℕ) → a ≤ most → b ≤ more → Asks a b) → (xs ys : List ℕ) → Each1 (λ a. a ≤ most) xs → Each1 (λ b. b ≤ more) ys → Each2 Asks xs ys
sums_fit Asks most more each xs ys low high = Each2-of (λ a. a ≤ most) (λ b. b ≤ more) Asks each xs ys low high

-- and stay below the sum of the bounds
pub sums_small : (add : ℕ → ℕ → ℕ) (most more all : ℕ) → ((a b : ℕ) → a ≤ most → b ≤ more → add a b ≤ all) → (xs ys : List ℕ) → Each1 (λ a. a ≤ most) xs → Each1 (λ b. b ≤ more) ys → Each1 (λ s. s ≤ all) (zip2 add xs ys)
sums_small add most more all each xs ys low high = Each1-zip2 add (λ s. s ≤ all) xs ys (Each2-of (λ a. a ≤ most) (λ b. b ≤ more) (λ a b. add a b ≤ all) each xs ys low high)

-- one block more
pub blocks_more : (block : ℕ) (sums squares lanes xs ys : List ℕ) → length xs ≡ length ys → length sums ≡ 16 → length squares ≡ 16 → sum_l sums ≡ distance (take (16 * block) xs) (take (16 * block) ys) → squares ≡ map square lanes → lanes ≡ zip2 abs_diff (chunk (16 * block) 16 xs) (chunk (16 * block) 16 ys) → sum_l (zip2 (λ a b. a + b) sums squares) ≡ distance (take (16 * (block + 1)) xs) (take (16 * (block + 1)) ys)
blocks_more block sums squares lanes xs ys same sixteen sixteen' sum squared differ =
    let added = sum-zip2 sums squares (sixteen ∙ sym sixteen') in
    let more = ap sum_l (squared ∙ ap (λ t. map square t) differ) ∙ distance_is_sum (chunk (16 * block) 16 xs) (chunk (16 * block) 16 ys) in
    let next : 16 * block + 16 ≡ 16 * (block + 1) = omega arith in
    added ∙ ap (λ n. sum_l sums + n) more ∙ ap (λ n. n + distance (chunk (16 * block) 16 xs) (chunk (16 * block) 16 ys)) sum
    ∙ sym (distance-take_add (16 * block) 16 xs ys same) ∙ ap (λ n. distance (take n xs) (take n ys)) next

-- all blocks and the rest
pub blocks_all : (whole : ℕ) (sums xs ys : List ℕ) (rest : ℕ) → length xs ≡ length ys → sum_l sums ≡ distance (take whole xs) (take whole ys) → rest ≡ distance (drop whole xs) (drop whole ys) → fold_l (λ s x. s + x) 0 sums + rest ≡ distance xs ys
blocks_all whole sums xs ys rest same sum last =
    ap (λ n. n + rest) (fold-sum 0 sums ∙ zero-add (sum_l sums) ∙ sum) ∙ ap (λ n. distance (take whole xs) (take whole ys) + n) last ∙ sym (distance-take_drop whole xs ys same)

-- all lanes together stay below sixteen times the greatest
pub lanes_small : (most : ℕ) (sums : List ℕ) → length sums ≡ 16 → Each1 (λ s. s ≤ most) sums → fold_l (λ s x. s + x) 0 sums ≤ most * 16
lanes_small most sums sixteen small =
    let added = fold-sum 0 sums in
    let bound = sum_bound most sums small in
    let sixteen' = ap (λ n. most * n) sixteen in omega arith
