-- Pieces that are copied from a list.
use Rattle.std.proofs.Common.{◌≡◌, ◌+◌, ℕ, List, ◌++◌, length, sym, ap, ◌∙◌, take, drop}
use Rattle.std.proofs.lemmas.List.{take-append-drop, drop-drop}
use Rattle.std.proofs.Math.Seq.{take-append_seam}

-- what was copied in front of other bytes, and what is behind it, are the list
pub copied_front : (n : ℕ) (xs piece other : List ℕ) → length piece ≡ n → piece ≡ take n xs → xs ≡ take n (piece ++ other) ++ drop n xs
copied_front n xs piece other long is =
    sym (take-append-drop n xs) ∙ ap (λ t. t ++ drop n xs) (sym is ∙ sym (take-append_seam piece other) ∙ ap (λ k. take k (piece ++ other)) long)

-- the same of a list of which a front is gone
pub copied_behind : (at n : ℕ) (xs piece left : List ℕ) → left ≡ drop at xs → drop at xs ≡ take n piece ++ drop n (drop at xs) → left ≡ take n piece ++ drop (at + n) xs
copied_behind at n xs piece left is parts = is ∙ parts ∙ ap (λ t. take n piece ++ t) (drop-drop n at xs)
