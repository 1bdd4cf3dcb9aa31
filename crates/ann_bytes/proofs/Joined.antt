-- Fields one after the other: written, joined and cut.
use Rattle.std.proofs.Common.{◌≡◌, ℕ, zero, suc, ◌+◌, ◌≤◌, List, [], ◌∷◌, ◌++◌, length, take, drop, refl, sym, ap, ap₂, ◌∙◌, arith, append_assoc, length-append, length-take}
use Rattle.std.specs.List.{concat}
use Rattle.std.proofs.lemmas.List.{take_at, drop_at, drop-drop, take-append-drop, append-nil}
use Rattle.ann_bytes.specs.LittleEndian.{field, with_field}
use Rattle.ann_bytes.proofs.Fields.{length-with_field}

-- ---- written

-- what is written right behind what was written before
pub with_field-next : (bytes first second : List ℕ) (at next : ℕ) → at ≤ length bytes → at + length first ≡ next → with_field (with_field bytes at first) next second ≡ with_field bytes at (first ++ second)
with_field-next bytes first second at next within is =
    let front : List ℕ = take at bytes ++ first in
    let rest : List ℕ = drop (at + length first) bytes in
    let long : length front ≡ next = omega (arith, length-append (take at bytes) first, length-take at bytes, within, is) in
    let before : take next (front ++ rest) ≡ front = take_at front rest next long in
    let behind : drop (next + length second) (front ++ rest) ≡ drop (at + length (first ++ second)) bytes =
    sym (drop-drop (length second) next (front ++ rest))
    ∙ ap (drop (length second)) (drop_at front rest next long)
    ∙ drop-drop (length second) (at + length first) bytes
    ∙ ap (λ (n : ℕ). drop n bytes) (omega (arith, length-append first second)) in
    ap₂ (λ (x y : List ℕ). x ++ second ++ y) before behind
    ∙ ap (λ (x : List ℕ). x ++ drop (at + length (first ++ second)) bytes) (append_assoc (take at bytes) first second)

with_nothing : (bytes : List ℕ) (at : ℕ) → with_field bytes at [] ≡ bytes
with_nothing bytes at =
    ap₂ (λ (x : List ℕ) (n : ℕ). x ++ drop n bytes) (append-nil (take at bytes)) (omega arith) ∙ take-append-drop at bytes

-- fields written one after the other from a place on
abbrev pub laid : ℕ → List (List ℕ) → List ℕ → List ℕ
laid at [] bytes = bytes
laid at (new ∷ news) bytes = laid (at + length new) news (with_field bytes at new)

pub laid_is : (news : List (List ℕ)) (bytes : List ℕ) (at : ℕ) → at + length (concat news) ≤ length bytes → laid at news bytes ≡ with_field bytes at (concat news)
laid_is [] bytes at fits = sym (with_nothing bytes at)
laid_is (new ∷ news) bytes at fits =
    let long = length-append new (concat news) in
    let here : at + length new ≤ length bytes = omega (arith, fits, long) in
    laid_is news (with_field bytes at new) (at + length new) (omega (arith, fits, long, length-with_field bytes at new here))
    ∙ with_field-next bytes new (concat news) at (at + length new) (omega (arith, here)) refl

-- ---- joined

-- behind the first fields the others stand
pub drop-concat : (fields : List (List ℕ)) (i : ℕ) → drop (length (concat (take i fields))) (concat fields) ≡ concat (drop i fields)
drop-concat fields zero = refl
drop-concat [] (suc i) = refl
drop-concat (first ∷ fields) (suc i) =
    ap (λ (n : ℕ). drop n (first ++ concat fields)) (length-append first (concat (take i fields)))
    ∙ sym (drop-drop (length (concat (take i fields))) (length first) (first ++ concat fields))
    ∙ ap (drop (length (concat (take i fields)))) (drop_at first (concat fields) (length first) refl)
    ∙ drop-concat fields i

pub field-concat : (fields : List (List ℕ)) (i : ℕ) (new : List ℕ) (others : List (List ℕ)) (at n : ℕ) → drop i fields ≡ new ∷ others → length (concat (take i fields)) ≡ at → length new ≡ n → field (concat fields) at n ≡ new
field-concat fields i new others at n is place long =
    ap (λ (p : ℕ). take n (drop p (concat fields))) (sym place)
    ∙ ap (take n) (drop-concat fields i)
    ∙ ap (λ (rest : List (List ℕ)). take n (concat rest)) is
    ∙ take_at new (concat others) n long

-- ---- cut

-- bytes from a place are a field and the bytes behind it
pub field_first : (bytes : List ℕ) (at n next : ℕ) → at + n ≡ next → drop at bytes ≡ field bytes at n ++ drop next bytes
field_first bytes at n next is =
    sym (take-append-drop n (drop at bytes))
    ∙ ap (λ (rest : List ℕ). field bytes at n ++ rest) (drop-drop n at bytes ∙ ap (λ (p : ℕ). drop p bytes) is)

-- fields of these sizes from a place on, and what is behind them
abbrev pub cut : ℕ → List ℕ → List ℕ → List (List ℕ)
cut at [] bytes = drop at bytes ∷ []
cut at (n ∷ sizes) bytes = field bytes at n ∷ cut (at + n) sizes bytes

pub concat-cut : (at : ℕ) (sizes bytes : List ℕ) → concat (cut at sizes bytes) ≡ drop at bytes
concat-cut at [] bytes = append-nil (drop at bytes)
concat-cut at (n ∷ sizes) bytes = ap (λ (rest : List ℕ). field bytes at n ++ rest) (concat-cut (at + n) sizes bytes) ∙ sym (field_first bytes at n (at + n) refl)
