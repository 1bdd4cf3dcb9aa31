-- A list that is made or read one element after the other.
use Rattle.std.proofs.Common.{◌≡◌, ℕ, zero, suc, ◌+◌, ◌-◌, take, drop, ◌≤◌, ◌<◌, List, [], ◌∷◌, ◌++◌, length, get_or, replicate, ap, ◌∙◌, sym, subst, arith, inl, inr}
use Rattle.std.proofs.lemmas.Bool.{cases_lt}
use Rattle.std.proofs.lemmas.List.{get_or_append_left, get_or_push, get_or-replicate, get_or_past, length-replicate, get_or-drop, drop-take}
use Rattle.std.proofs.lemmas.Slice.{take-put_mid_below, between-put_mid}
use borrow.Rule.Slice.PartMut.{put_mid}

-- what holds of the numbers so far, and of one more
pub pushed : (f : ℕ → ℕ) (xs : List ℕ) (n x : ℕ) → length xs ≡ n → x ≡ f n → ((k : ℕ) → k < n → get_or xs k 0 ≡ f k) → (k : ℕ) → k < n + 1 → get_or (xs ++ x ∷ []) k 0 ≡ f k
pushed f xs n x long is so_far k below =
    elim (cases_lt k n) [
      | inl low ↦ get_or_append_left xs (x ∷ []) 0 k (omega arith) ∙ so_far k low
      | inr high ↦ (let last : n ≡ k = omega arith in get_or_push xs x 0 k (omega arith) ∙ is ∙ ap f last)
    ]

-- one fact for the numbers below n, and for the one at n
pub one_more : (P : ℕ → Type 0) (n : ℕ) → P n → ((k : ℕ) → k < n → P k) → (k : ℕ) → k < n + 1 → P k
one_more P n here so_far k below =
    elim (cases_lt k n) [
      | inl low ↦ so_far k low
      | inr high ↦ subst P (omega arith) here
    ]

pub zeros_small : (most n place : ℕ) → get_or (replicate n 0) place 0 ≤ most
zeros_small most n place =
    let size : length {A = ℕ} (replicate n 0) ≡ n = length-replicate n 0 in
    let none : get_or {A = ℕ} (replicate n 0) place 0 ≡ 0 =
    elim (cases_lt place n) [
      | inl low ↦ get_or-replicate n place 0 0 low
      | inr high ↦ get_or_past (replicate n 0) place 0 (omega arith)
    ] in
    omega arith

-- a bound of the elements of a list is one of all places, since 0 stands past the end
pub small_all : (most : ℕ) (xs : List ℕ) → ((k : ℕ) → k < length xs → get_or xs k 0 ≤ most) → (k : ℕ) → get_or xs k 0 ≤ most
small_all most xs small k =
    elim (cases_lt k (length xs)) [
      | inl low ↦ small k low
      | inr high ↦ (let none : get_or xs k 0 ≡ 0 = get_or_past xs k 0 high in omega arith)
    ]

-- ---- a part of a list that is written over

small_append : (most : ℕ) (xs ys : List ℕ) → ((k : ℕ) → get_or xs k 0 ≤ most) → ((k : ℕ) → get_or ys k 0 ≤ most) → (k : ℕ) → get_or (xs ++ ys) k 0 ≤ most
small_append most [] ys f g k = g k
small_append most (x ∷ xs) ys f g zero = f 0
small_append most (x ∷ xs) ys f g (suc k) = small_append most xs ys (λ i. f (suc i)) g k

small_take : (most n : ℕ) (xs : List ℕ) → ((k : ℕ) → get_or xs k 0 ≤ most) → (k : ℕ) → get_or (take n xs) k 0 ≤ most
small_take most zero xs f k = omega arith
small_take most (suc n) [] f k = f k
small_take most (suc n) (x ∷ xs) f zero = f 0
small_take most (suc n) (x ∷ xs) f (suc k) = small_take most n xs (λ i. f (suc i)) k

small_drop : (most n : ℕ) (xs : List ℕ) → ((k : ℕ) → get_or xs k 0 ≤ most) → (k : ℕ) → get_or (drop n xs) k 0 ≤ most
small_drop most n xs f k = let at = get_or-drop n xs k 0 in let small = f (n + k) in omega arith

pub small_put : (most a k : ℕ) (xs ys : List ℕ) → ((i : ℕ) → get_or xs i 0 ≤ most) → ((i : ℕ) → get_or ys i 0 ≤ most) → (i : ℕ) → get_or (put_mid a k xs ys) i 0 ≤ most
small_put most a k xs ys f g = small_append most (take a xs) (ys ++ drop k (drop a xs)) (small_take most a xs f) (small_append most ys (drop k (drop a xs)) g (small_drop most k (drop a xs) (small_drop most a xs f)))

pub part_kept : (a k n m : ℕ) (xs ys : List ℕ) → n + m ≤ a → a ≤ length xs → take m (drop n (put_mid a k xs ys)) ≡ take m (drop n xs)
part_kept a k n m xs ys l h = sym (drop-take n m (put_mid a k xs ys)) ∙ ap (drop n) (take-put_mid_below a k xs ys (n + m) l h) ∙ drop-take n m xs

pub part_put : (a k m : ℕ) (xs ys : List ℕ) → a ≤ length xs → length ys ≡ m → take m (drop a (put_mid a k xs ys)) ≡ ys
part_put a k m xs ys h size =
    let width : m ≡ a + m - a = omega arith in
    ap (λ n. take n (drop a (put_mid a k xs ys))) width ∙ between-put_mid a k xs ys (a + m) h (size ∙ width)
