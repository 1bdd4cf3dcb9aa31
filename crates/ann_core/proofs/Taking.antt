-- Segments are taken away from the kept ones.
use Rattle.std.proofs.Common.{◌≡◌, ◌∙◌, ℕ, zero, suc, ◌+◌, ◌<◌, false, cond, eqb, not, ◌||◌, List, [], ◌∷◌, flat_map, take, drop, get_or, length, refl, sym, ap, arith}
use Rattle.std.specs.Prelude.{Option}
use Rattle.std.specs.List.{remove}
use Rattle.std.proofs.lemmas.Bool.{or_parts}
use Rattle.std.proofs.Math.Seq.{drop-cons}
use Rattle.ann_types.specs.Order.{has}
use Rattle.ann_types.specs.declared.entry.Entry.{Entry}
use Rattle.ann_types.proofs.Booleans.{same_true}
use Rattle.ann_types.proofs.Ordered.{has_append}
use Rattle.ann_core_laws.specs.State.{of_pin}
use Rattle.ann_core.specs.Kept.{text_of, texts_of, is_kept_in, without_text}
use Rattle.ann_core.specs.declared.kept.Kept.{Kept}

-- one with the number is taken away
pub without_one : (xs : List Kept) (i n : ℕ) (d : Kept) → i < length xs → (get_or xs i d).number ≡ n → without_text (texts_of (remove xs i)) n ≡ without_text (texts_of xs) n
without_one [] i n d l e = absurd (omega arith)
without_one (x ∷ xs) zero n d l e =
    sym (ap (λ t. cond (not t) (text_of x ∷ without_text (texts_of xs) n) (without_text (texts_of xs) n)) (same_true x.number n e))
without_one (x ∷ xs) (suc i) n d l e =
    ap (λ t. cond (not (eqb x.number n)) (text_of x ∷ t) t) (without_one xs i n d (omega (arith, l)) e)

-- and those before it stay
pub front_stays : (xs : List Kept) (i : ℕ) → take i (remove xs i) ≡ take i xs
front_stays [] zero = refl
front_stays [] (suc i) = refl
front_stays (x ∷ xs) zero = refl
front_stays (x ∷ xs) (suc i) = ap (λ t. x ∷ t) (front_stays xs i)

-- where none has the number, none is taken away
pub without_none : (xs : List Kept) (n : ℕ) → is_kept_in (texts_of xs) n ≡ false → without_text (texts_of xs) n ≡ texts_of xs
without_none [] n h = refl
without_none (x ∷ xs) n h =
    let both = or_parts (eqb x.number n) (is_kept_in (texts_of xs) n) h in
    ap (λ t. cond (not t) (text_of x ∷ without_text (texts_of xs) n) (without_text (texts_of xs) n)) both.0
    ∙ ap (λ t. text_of x ∷ t) (without_none xs n both.1)

-- what the pins from one on name
pub pins_next : (list : List Entry) (pins : List (Option ℕ)) (i n : ℕ) (d : Option ℕ) → i < length pins → has (flat_map (of_pin list) (drop i pins)) n ≡ (has (of_pin list (get_or pins i d)) n || has (flat_map (of_pin list) (drop (i + 1) pins)) n)
pins_next list pins i n d l =
    ap (λ (t : List (Option ℕ)). has (flat_map (of_pin list) t) n) (drop-cons pins i d l)
    ∙ has_append (of_pin list (get_or pins i d)) (flat_map (of_pin list) (drop (suc i) pins)) n
    ∙ ap (λ (k : ℕ). has (of_pin list (get_or pins i d)) n || has (flat_map (of_pin list) (drop k pins)) n) (let k : suc i ≡ i + 1 = omega arith in k)
