-- One step of a merge of two ascending lists: the lesser front goes out, from both where both have it.
use Rattle.std.proofs.Common.{◌≡◌, ℕ, zero, suc, ◌+◌, ◌<◌, ◌≤◌, min, Bool, true, false, List, [], ◌∷◌, ◌++◌, length, drop, get_or, refl, sym, ap, ◌∙◌, subst, arith, drop-cons, add-one, ◌-◌, ◌⊎◌, ⊎_elim, take, append_assoc, length-drop}
use Rattle.std.proofs.lemmas.List.{append-nil, take_all, drop_all}
use Rattle.std.specs.Prelude.{◌==◌, if◌then◌else◌}
use mir.Val.{bool_byte}
use Rattle.ann_dead.specs.Pids.{union, AreAbove, IsAscending}
use Rattle.ann_types.proofs.Booleans.{not_same, same_true}
use Rattle.ann_dead.proofs.Sets.{order_cases, above_trans, union_left, union_right, union_both, union_nothing}

abbrev past : Bool → ℕ → List ℕ → List ℕ
past b x xs = if b then xs else x ∷ xs

front_step : (x : ℕ) (xs : List ℕ) (y : ℕ) (ys : List ℕ) (m : ℕ) → IsAscending (x ∷ xs) → IsAscending (y ∷ ys) → m ≡ min x y → union (x ∷ xs) (y ∷ ys) ≡ m ∷ union (past (x == m) x xs) (past (y == m) y ys)
front_step x xs y ys m a b least =
    order_cases x y
    (λ less.
    let is : x ≡ m = omega arith in
    union_left x xs (y ∷ ys) a.0 (less, above_trans x y ys less b.0) ∙ ap (λ (n : ℕ). n ∷ union xs (y ∷ ys)) is
    ∙ ap (λ t. m ∷ union (past t x xs) (y ∷ ys)) (sym (same_true x m is)) ∙ ap (λ t. m ∷ union (past (x == m) x xs) (past t y ys)) (sym (not_same y m (λ e. omega arith))))
    (λ same.
    let is : x ≡ m = omega arith in
    ap (λ (n : ℕ). union (x ∷ xs) (n ∷ ys)) (sym same) ∙ union_both x xs ys a.0 ∙ ap (λ (n : ℕ). n ∷ union xs ys) is
    ∙ ap (λ t. m ∷ union (past t x xs) ys) (sym (same_true x m is)) ∙ ap (λ t. m ∷ union (past (x == m) x xs) (past t y ys)) (sym (same_true y m (omega arith))))
    (λ more.
    let is : y ≡ m = omega arith in
    union_right (x ∷ xs) y ys (more, above_trans y x xs more a.0) ∙ ap (λ (n : ℕ). n ∷ union (x ∷ xs) ys) is
    ∙ ap (λ t. m ∷ union (x ∷ xs) (past t y ys)) (sym (same_true y m is)) ∙ ap (λ t. m ∷ union (past t x xs) (past (y == m) y ys)) (sym (not_same x m (λ e. omega arith))))

above_drop : (x n : ℕ) (xs : List ℕ) → AreAbove x xs → AreAbove x (drop n xs)
above_drop x zero xs h = h
above_drop x (suc n) [] h = h
above_drop x (suc n) (y ∷ xs) h = above_drop x n xs h.1

pub ascending_drop : (n : ℕ) (xs : List ℕ) → IsAscending xs → IsAscending (drop n xs)
ascending_drop zero xs h = h
ascending_drop (suc n) [] h = h
ascending_drop (suc n) (y ∷ xs) h = ascending_drop n xs h.1

drop_past : (b : Bool) (i : ℕ) (xs : List ℕ) → i < length xs → drop (i + (if b then 1 else 0)) xs ≡ past b (get_or xs i 0) (drop (i + 1) xs)
drop_past true i xs less = refl
drop_past false i xs less = let none : i + 0 ≡ i = omega arith in ap (λ (n : ℕ). drop n xs) none ∙ rw (add-one, drop-cons xs i 0)

pub merge_step : (xs ys : List ℕ) (i k m : ℕ) → IsAscending xs → IsAscending ys → i < length xs → k < length ys → m ≡ min (get_or xs i 0) (get_or ys k 0)
    → union (drop i xs) (drop k ys) ≡ m ∷ union (drop (i + (if get_or xs i 0 == m then 1 else 0)) xs) (drop (k + (if get_or ys k 0 == m then 1 else 0)) ys)
merge_step xs ys i k m a b in_xs in_ys least =
    let x = get_or xs i 0 in
    let y = get_or ys k 0 in
    let left : drop i xs ≡ x ∷ drop (i + 1) xs = rw (add-one, drop-cons xs i 0) in
    let right : drop k ys ≡ y ∷ drop (k + 1) ys = rw (add-one, drop-cons ys k 0) in
    let a' = subst IsAscending left (ascending_drop i xs a) in
    let b' = subst IsAscending right (ascending_drop k ys b) in
    ap (λ l. union l (drop k ys)) left ∙ ap (λ l. union (x ∷ drop (i + 1) xs) l) right ∙ front_step x (drop (i + 1) xs) y (drop (k + 1) ys) m a' b' least
    ∙ ap (λ l. m ∷ union l (past (y == m) y (drop (k + 1) ys))) (sym (drop_past (x == m) i xs in_xs)) ∙ ap (λ l. m ∷ union (drop (i + (if x == m then 1 else 0)) xs) l) (sym (drop_past (y == m) k ys in_ys))

-- what `usize::from` makes of a test
pub as_number : (b : Bool) → bool_byte b ≡ (if b then 1 else 0)
as_number true = refl
as_number false = refl

one_at_most : (b : Bool) → (if b then 1 else 0) ≤ 1
one_at_most true = omega arith
one_at_most false = omega arith

pub still_in : (b : Bool) (i d n : ℕ) → d ≡ (if b then 1 else 0) → i < n → i + d ≤ n
still_in b i d n is less = let one = one_at_most b in omega arith

pub falls : (x y m i j d e a b : ℕ) → m ≡ min x y → d ≡ (if x == m then 1 else 0) → e ≡ (if y == m then 1 else 0) → i < a → j < b → (a - (i + d)) + (b - (j + e)) < (a - i) + (b - j)
falls x y m i j d e a b least d_is e_is in_a in_b =
    order_cases x y
    (λ less. let one : d ≡ 1 = d_is ∙ ap (λ (t : Bool). if t then 1 else 0) (same_true x m (omega arith)) in omega arith)
    (λ same. let one : d ≡ 1 = d_is ∙ ap (λ (t : Bool). if t then 1 else 0) (same_true x m (omega arith)) in omega arith)
    (λ more. let one : e ≡ 1 = e_is ∙ ap (λ (t : Bool). if t then 1 else 0) (same_true y m (omega arith)) in omega arith)

-- what has gone out and what is left are still the union
pub merge_more : (xs ys out out' : List ℕ) (i k m d e : ℕ) → IsAscending xs → IsAscending ys → i < length xs → k < length ys → m ≡ min (get_or xs i 0) (get_or ys k 0)
    → d ≡ (if get_or xs i 0 == m then 1 else 0) → e ≡ (if get_or ys k 0 == m then 1 else 0) → out' ≡ out ++ m ∷ [] → out ++ union (drop i xs) (drop k ys) ≡ union xs ys
    → out' ++ union (drop (i + d) xs) (drop (k + e) ys) ≡ union xs ys
merge_more xs ys out out' i k m d e a b in_xs in_ys least d_is e_is items so_far =
    let step = merge_step xs ys i k m a b in_xs in_ys least in
    let left = union (drop (i + d) xs) (drop (k + e) ys) in
    let after : union (drop i xs) (drop k ys) ≡ m ∷ left = step ∙ ap (λ (n : ℕ). m ∷ union (drop (i + n) xs) (drop (k + (if get_or ys k 0 == m then 1 else 0)) ys)) (sym d_is) ∙ ap (λ (n : ℕ). m ∷ union (drop (i + d) xs) (drop (k + n) ys)) (sym e_is) in
    ap (λ l. l ++ left) items ∙ append_assoc out (m ∷ []) left ∙ ap (λ l. out ++ l) (sym after) ∙ so_far

all_left : (i : ℕ) (xs : List ℕ) → take (length xs - i) (drop i xs) ≡ drop i xs
all_left i xs = take_all (length xs - i) (drop i xs) (omega (arith, length-drop i xs))

-- once one is used up, the other is what is left
pub merge_end : (xs ys out one two : List ℕ) (i k : ℕ) → IsAscending xs → (length xs ≤ i) ⊎ (length ys ≤ k) → one ≡ out ++ take (length xs - i) (drop i xs) → two ≡ one ++ take (length ys - k) (drop k ys)
    → out ++ union (drop i xs) (drop k ys) ≡ union xs ys → two ≡ union xs ys
merge_end xs ys out one two i k a ended one_is two_is so_far =
    let all : two ≡ out ++ (drop i xs ++ drop k ys) = two_is ∙ ap (λ l. one ++ l) (all_left k ys) ∙ ap (λ l. l ++ drop k ys) (one_is ∙ ap (λ l. out ++ l) (all_left i xs)) ∙ append_assoc out (drop i xs) (drop k ys) in
    let same : drop i xs ++ drop k ys ≡ union (drop i xs) (drop k ys) =
    ⊎_elim
    (λ (le : length xs ≤ i). let none : drop i xs ≡ [] = drop_all i xs le in ap (λ l. l ++ drop k ys) none ∙ sym (ap (λ l. union l (drop k ys)) none))
    (λ (le : length ys ≤ k). let none : drop k ys ≡ [] = drop_all k ys le in ap (λ l. drop i xs ++ l) none ∙ append-nil (drop i xs) ∙ sym (union_nothing (drop i xs) (ascending_drop i xs a)) ∙ sym (ap (λ l. union (drop i xs) l) none))
    ended in
    all ∙ ap (λ l. out ++ l) same ∙ so_far
