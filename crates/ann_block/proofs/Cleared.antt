-- Bytes that are 0.
use Rattle.std.proofs.Common.{◌≡◌, ℕ, true, zero, suc, ◌+◌, ◌-◌, List, [], ◌∷◌, ◌++◌, ◌==◌, length, drop, refl, sym, ap, ap₂, ◌∙◌, arith, append_assoc, length-append}
use Rattle.std.proofs.lemmas.List.{length-replicate, drop-replicate, drop-drop, drop_at, take_at, append-nil}
use Rattle.std.specs.List.{concat}
use Rattle.std.proofs.lemmas.List.Folds.{concat-append}
use Rattle.ann_bytes.specs.LittleEndian.{with_field}
use Rattle.ann_bytes.proofs.Joined.{laid}
use Rattle.ann_block.specs.Block.{zeros, is_zeros}
use Rattle.ann_types.proofs.Booleans.{both}
use Rattle.ann_block.proofs.Rules.{same}

pub length-zeros : (n : ℕ) → length (zeros n) ≡ n
unfolding zeros
length-zeros n = length-replicate n 0

pub drop-zeros : (m n : ℕ) → drop m (zeros n) ≡ zeros (n - m)
unfolding zeros
drop-zeros m n = drop-replicate m n 0

-- bytes that are 0 are so many zeros
pub zeros_only : (bytes : List ℕ) → is_zeros bytes ≡ true → bytes ≡ zeros (length bytes)
unfolding zeros
zeros_only [] all = refl
zeros_only (byte ∷ bytes) all =
    let each = both (byte == 0) (is_zeros bytes) all in
    ap₂ (λ (b : ℕ) (rest : List ℕ). b ∷ rest) (same byte 0 each.0) (zeros_only bytes each.1)

pub zeros_are : (n : ℕ) → is_zeros (zeros n) ≡ true
unfolding zeros
zeros_are zero = refl
zeros_are (suc n) = zeros_are n

-- what is written at the begin of the zeros behind a front
pub put_behind : (front new : List ℕ) (at n : ℕ) → length front ≡ at → with_field (front ++ zeros n) at new ≡ (front ++ new) ++ zeros (n - length new)
put_behind front new at n long =
    ap₂ (λ (x y : List ℕ). x ++ new ++ y)
    (take_at front (zeros n) at long)
    (sym (drop-drop (length new) at (front ++ zeros n)) ∙ ap (drop (length new)) (drop_at front (zeros n) at long) ∙ drop-zeros (length new) n)

-- fields written one after the other into zeros
laid_behind : (news : List (List ℕ)) (front : List ℕ) (at n : ℕ) → length front ≡ at → laid at news (front ++ zeros n) ≡ front ++ (concat news ++ zeros (n - length (concat news)))
laid_behind [] front at n long = ap (λ (k : ℕ). front ++ zeros k) (omega arith)
laid_behind (new ∷ news) front at n long =
    ap (laid (at + length new) news) (put_behind front new at n long)
    ∙ laid_behind news (front ++ new) (at + length new) (n - length new) (omega (arith, length-append front new, long))
    ∙ append_assoc front new (concat news ++ zeros (n - length new - length (concat news)))
    ∙ ap (λ (rest : List ℕ). front ++ rest) (sym (append_assoc new (concat news) (zeros (n - length new - length (concat news)))))
    ∙ ap (λ (k : ℕ). front ++ ((new ++ concat news) ++ zeros k)) (omega (arith, length-append new (concat news)))

-- fields written into cleared bytes, and the zeros behind them
pub laid_is : (news : List (List ℕ)) (n rest : ℕ) → n - length (concat news) ≡ rest → laid 0 news (zeros n) ≡ concat (news ++ zeros rest ∷ [])
laid_is news n rest is =
    laid_behind news [] 0 n refl
    ∙ ap (λ (k : ℕ). concat news ++ zeros k) is
    ∙ sym (concat-append news (zeros rest ∷ []) ∙ ap (λ (end : List ℕ). concat news ++ end) (append-nil (zeros rest)))
