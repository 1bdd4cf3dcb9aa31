-- Distances of vectors in parts.
use Rattle.std.proofs.Common.{◌≡◌, ℕ, ◌+◌, ◌*◌, ◌<◌, List, [], ◌∷◌, ◌++◌, length, sym, ap, ◌∙◌, arith, take, drop, add_assoc, get_or, refl, add-one, length-take, add-zero}
use Rattle.std.proofs.Math.Seq.{take-add, take-suc}
use Rattle.std.proofs.lemmas.List.{take-append-drop}
use Rattle.std.specs.Int.{abs_diff}
use Rattle.ann_types.specs.Distance.{distance}

-- part by part
pub distance-append : (ws xs ys zs : List ℕ) → length ws ≡ length xs → distance (ws ++ ys) (xs ++ zs) ≡ distance ws xs + distance ys zs
distance-append [] [] ys zs same = omega arith
distance-append [] (x ∷ xs) ys zs same = absurd (omega arith)
distance-append (w ∷ ws) [] ys zs same = absurd (omega arith)
distance-append (w ∷ ws) (x ∷ xs) ys zs same =
    ap (λ n. abs_diff w x * abs_diff w x + n) (distance-append ws xs ys zs (omega arith)) ∙ sym (add_assoc (abs_diff w x * abs_diff w x) (distance ws xs) (distance ys zs))

same_fronts : (i : ℕ) (xs ys : List ℕ) → length xs ≡ length ys → length (take i xs) ≡ length (take i ys)
same_fronts i xs ys same = omega (arith, length-take i xs, length-take i ys)

-- the first components and the next ones
pub distance-take_add : (i n : ℕ) (xs ys : List ℕ) → length xs ≡ length ys → distance (take (i + n) xs) (take (i + n) ys) ≡ distance (take i xs) (take i ys) + distance (take n (drop i xs)) (take n (drop i ys))
distance-take_add i n xs ys same =
    ap (λ t. distance t (take (i + n) ys)) (take-add i n xs) ∙ ap (λ t. distance (take i xs ++ take n (drop i xs)) t) (take-add i n ys)
    ∙ distance-append (take i xs) (take i ys) (take n (drop i xs)) (take n (drop i ys)) (same_fronts i xs ys same)

-- the first components and the next one
pub distance-take_one : (i : ℕ) (xs ys : List ℕ) → length xs ≡ length ys → i < length xs → distance (take (i + 1) xs) (take (i + 1) ys) ≡ distance (take i xs) (take i ys) + abs_diff (get_or xs i 0) (get_or ys i 0) * abs_diff (get_or xs i 0) (get_or ys i 0)
distance-take_one i xs ys same within =
    ap (λ t. distance t (take (i + 1) ys)) (ap (λ n. take n xs) (add-one i) ∙ take-suc xs i 0 within)
    ∙ ap (λ t. distance (take i xs ++ get_or xs i 0 ∷ []) t) (ap (λ n. take n ys) (add-one i) ∙ take-suc ys i 0 (omega arith))
    ∙ distance-append (take i xs) (take i ys) (get_or xs i 0 ∷ []) (get_or ys i 0 ∷ []) (same_fronts i xs ys same)
    ∙ ap (λ n. distance (take i xs) (take i ys) + n) (add-zero (abs_diff (get_or xs i 0) (get_or ys i 0) * abs_diff (get_or xs i 0) (get_or ys i 0)))

-- the first components and the rest
pub distance-take_drop : (i : ℕ) (xs ys : List ℕ) → length xs ≡ length ys → distance xs ys ≡ distance (take i xs) (take i ys) + distance (drop i xs) (drop i ys)
distance-take_drop i xs ys same =
    ap (λ t. distance t ys) (sym (take-append-drop i xs)) ∙ ap (λ t. distance (take i xs ++ drop i xs) t) (sym (take-append-drop i ys))
    ∙ distance-append (take i xs) (take i ys) (drop i xs) (drop i ys) (same_fronts i xs ys same)

-- ---- a vector and itself, and two from either side

pub distance_itself : (xs : List ℕ) → distance xs xs ≡ 0
distance_itself [] = refl
distance_itself (x ∷ xs) =
    let none : abs_diff x x ≡ 0 = omega arith in
    let rest : distance xs xs ≡ 0 = distance_itself xs in
    ap (λ d. d * d + distance xs xs) none ∙ omega arith

pub distance_symmetric : (xs ys : List ℕ) → distance xs ys ≡ distance ys xs
distance_symmetric [] [] = refl
distance_symmetric [] (y ∷ ys) = refl
distance_symmetric (x ∷ xs) [] = refl
distance_symmetric (x ∷ xs) (y ∷ ys) =
    let same : abs_diff x y ≡ abs_diff y x = omega arith in
    ap (λ d. d * d + distance xs ys) same ∙ ap (λ d. abs_diff y x * abs_diff y x + d) (distance_symmetric xs ys)
