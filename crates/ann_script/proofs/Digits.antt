-- Digits, read one after another.
use Rattle.std.proofs.Common.{◌≡◌, ◌≤◌, ◌<◌, ℕ, ◌+◌, ◌-◌, ◌*◌, List, [], ◌∷◌, length, refl, sym, ap, ◌∙◌, drop, get_or, arith, true, false, cond, nat_le, suc, add-one}
use Rattle.std.proofs.Math.Seq.{drop-cons}
use Rattle.std.proofs.lemmas.Grind.{common_steps}
use Rattle.std.proofs.lemmas.List.{drop_all}
use Rattle.std.specs.Prelude.{Option, Some, None}
use Rattle.std.specs.Char.{is_ascii_digit}
use Rattle.ann_script.specs.Words.{digits_after, at_most}

-- a digit in front goes behind the number
pub digits_after-digit : (n i : ℕ) (word : List ℕ) → i < length word → is_ascii_digit (get_or word i 0) ≡ true → digits_after n (drop i word) ≡ digits_after (10 * n + (get_or word i 0 - 48)) (drop (i + 1) word)
digits_after-digit n i word inside digit =
    ap (digits_after n) (drop-cons word i 0 inside) ∙ ap (λ t. cond t (digits_after (10 * n + (get_or word i 0 - 48)) (drop (suc i) word)) None) digit ∙ ap (λ k. digits_after (10 * n + (get_or word i 0 - 48)) (drop k word)) (sym (add-one i))

-- another byte in front makes it no number
pub digits_after-other : (n i : ℕ) (word : List ℕ) → i < length word → is_ascii_digit (get_or word i 0) ≡ false → digits_after n (drop i word) ≡ None
digits_after-other n i word inside other =
    ap (digits_after n) (drop-cons word i 0 inside) ∙ ap (λ t. cond t (digits_after (10 * n + (get_or word i 0 - 48)) (drop (suc i) word)) None) other

not_at_most : (most n : ℕ) → most < n → at_most most (Some n) ≡ None
not_at_most most n more = grind (arith, common_steps)

-- what is too large stays too large with more digits
pub at_most-digits_after : (most n : ℕ) (word : List ℕ) → most < n → at_most most (digits_after n word) ≡ None
at_most-digits_after most n [] more = not_at_most most n more
at_most-digits_after most n (b ∷ bs) more =
    elim (is_ascii_digit b) as (λ t. at_most most (cond t (digits_after (10 * n + (b - 48)) bs) None) ≡ None) [
      | true ↦ at_most-digits_after most (10 * n + (b - 48)) bs (omega arith)
      | false ↦ refl
    ]

within_most : (most n : ℕ) → n ≤ most → Some n ≡ at_most most (Some n)
within_most most n le = grind (arith, common_steps)

-- behind the last digit the number is there
pub digits_after-end : (most n i : ℕ) (word : List ℕ) → length word ≤ i → n ≤ most → Some n ≡ at_most most (digits_after n (drop i word))
digits_after-end most n i word past le = within_most most n le ∙ ap (λ t. at_most most (digits_after n t)) (sym (drop_all i word past))

-- a smaller limit stands behind a larger one
pub at_most-at_most : (most limit : ℕ) (n : Option ℕ) → most ≤ limit → at_most most (at_most limit n) ≡ at_most most n
at_most-at_most most limit None le = refl
at_most-at_most most limit (Some n) le =
    elim (nat_le n limit) as (λ t. nat_le n limit ≡ t → at_most most (cond t (Some n) None) ≡ at_most most (Some n)) [
      | true ↦ λ e. refl
      | false ↦ λ e. sym (not_at_most most n (above limit most n le e))
    ] refl
  where
    above : (limit most n : ℕ) → most ≤ limit → nat_le n limit ≡ false → most < n
    above limit most n le e = grind (arith, common_steps)

-- a step of reading digits
pub ruleset digit_steps = (digits_after-digit, digits_after-other, at_most-digits_after)
