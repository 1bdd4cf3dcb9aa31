-- Parts of a list, one by one.
use Rattle.std.proofs.Common.{◌≡◌, ℕ, ◌+◌, ◌-◌, ◌≤◌, ◌<◌, List, ◌++◌, ap, ◌∙◌, arith, take, drop, map, length}
use Rattle.std.specs.List.{range_with_len}
use Rattle.std.proofs.lemmas.List.{take-append-le, drop-append-le, length-drop}
use Rattle.std.proofs.lemmas.List.FromFn.{length-map-range_with_len, get_or-map-range_with_len, fill_by_all}

-- two functions that agree below n make the same list
pub same_from : {X : Type 0} (f g : ℕ → X) (n : ℕ) (d : X) → ((i : ℕ) → i < n → f i ≡ g i) → map f (range_with_len 0 n) ≡ map g (range_with_len 0 n)
same_from f g n d same =
    fill_by_all g (map f (range_with_len 0 n)) n d (length-map-range_with_len f 0 n)
    (λ k h. get_or-map-range_with_len f 0 n k k d h (omega arith) ∙ same k h)

-- a part within the front of a list
pub part_front : (s e : ℕ) (xs ys : List ℕ) → s ≤ e → e ≤ length xs → take (e - s) (drop s (xs ++ ys)) ≡ take (e - s) (drop s xs)
part_front s e xs ys h l =
    let rest : length (drop s xs) ≡ length xs - s = length-drop s xs in
    ap (take (e - s)) (drop-append-le s xs ys (omega arith)) ∙ take-append-le (e - s) (drop s xs) ys (omega arith)
