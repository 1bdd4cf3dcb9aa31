-- Fields that are written one behind the other.
use Rattle.std.proofs.Common.{◌≡◌, ℕ, ◌+◌, ◌≤◌, List, ◌++◌, length, take, drop, sym, ap, ◌∙◌, arith, append_assoc, length-append, length-take}
use Rattle.std.proofs.lemmas.List.{take_at, drop-drop, drop_at}
use Rattle.ann_bytes.specs.LittleEndian.{with_field}

with_field_front : (bytes : List ℕ) (at : ℕ) (new : List ℕ) → at + length new ≤ length bytes → length (take at bytes ++ new) ≡ at + length new
with_field_front bytes at new fits = omega (arith, length-append (take at bytes) new, length-take at bytes, fits)

-- two fields side by side are one
pub with_field_twice : (bytes : List ℕ) (at next : ℕ) (new more : List ℕ) → next ≡ at + length new → next + length more ≤ length bytes → with_field (with_field bytes at new) next more ≡ with_field bytes at (new ++ more)
with_field_twice bytes at next new more is fits =
    let front : List ℕ = take at bytes ++ new in
    let rest : List ℕ = drop (at + length new) bytes in
    let size : length front ≡ next = (let whole = with_field_front bytes at new (omega (arith, is, fits)) in omega (arith, is, whole)) in
    ap (λ (t : List ℕ). t ++ more ++ drop (next + length more) (front ++ rest)) (take_at front rest next size)
    ∙ ap (λ (t : List ℕ). front ++ more ++ t) (sym (drop-drop (length more) next (front ++ rest)) ∙ ap (drop (length more)) (drop_at front rest next size) ∙ drop-drop (length more) (at + length new) bytes ∙ ap (λ (n : ℕ). drop n bytes) (let whole = length-append new more in omega (arith, whole)))
    ∙ ap (λ (t : List ℕ). t ++ drop (at + length (new ++ more)) bytes) (append_assoc (take at bytes) new more)
