-- The place of the first element that passes a test.
use Rattle.std.proofs.Common.{◌≡◌, ◌≤◌, ◌<◌, ℕ, ◌+◌, List, [], ◌∷◌, length, refl, arith, true, false, not, cond, Bool, unwrap_or, nat_lt, ◌||◌}
use Rattle.std.proofs.lemmas.Grind.{common_steps}
use Rattle.std.proofs.lemmas.List.Sums.{prefix_len-le-length}
use Rattle.std.specs.Prelude.{position, Some, None}
use Rattle.std.specs.List.{position_or_len, list_any}

-- no place below a bound, so that a place up to it is the bound
none_below : (k n : ℕ) → k ≤ n → nat_lt k n ≡ false → n ≡ k
none_below k n le no_less = grind (arith, common_steps)

-- the place of the first, or the length, is where the first stands or the end
pub place_or_len : {X : Type 0} (p : X → Bool) (xs : List X) → unwrap_or (position p xs) (length xs) ≡ position_or_len p xs
place_or_len p xs =
    let within = prefix_len-le-length (λ x. not (p x)) xs in
    elim (nat_lt (position_or_len p xs) (length xs)) as (λ t. nat_lt (position_or_len p xs) (length xs) ≡ t → unwrap_or (cond t (Some (position_or_len p xs)) None) (length xs) ≡ position_or_len p xs) [
      | true ↦ λ e. refl
      | false ↦ λ e. none_below (position_or_len p xs) (length xs) within e
    ] refl

-- a place that was found is the first
pub found_is_first : {X : Type 0} (p : X → Bool) (xs : List X) (at : ℕ) → position p xs ≡ Some at → (at ≡ position_or_len p xs) × (position_or_len p xs < length xs)
found_is_first p xs at found = found_at (position_or_len p xs) (length xs) at found
  where
    found_at : (first len at : ℕ) → cond (nat_lt first len) (Some first) None ≡ Some at → (at ≡ first) × (first < len)
    found_at first len at found =
        elim (nat_lt first len) as (λ t. nat_lt first len ≡ t → cond t (Some first) None ≡ Some at → (at ≡ first) × (first < len)) [
          | true ↦ λ e f. (cc, grind (arith, common_steps))
          | false ↦ λ e f. absurd (cc)
        ] refl found

-- where none is found, the first is past the end
pub none_is_past : {X : Type 0} (p : X → Bool) (xs : List X) → position p xs ≡ None → position_or_len p xs ≡ length xs
none_is_past p xs none = past (position_or_len p xs) (length xs) (prefix_len-le-length (λ x. not (p x)) xs) none
  where
    past : (first len : ℕ) → first ≤ len → cond (nat_lt first len) (Some first) None ≡ None → first ≡ len
    past first len le none =
        elim (nat_lt first len) as (λ t. nat_lt first len ≡ t → cond t (Some first) None ≡ None → first ≡ len) [
          | true ↦ λ e f. absurd (cc)
          | false ↦ λ e f. grind (arith, common_steps)
        ] refl none

-- and none passes
pub none_passes : {X : Type 0} (p : X → Bool) (xs : List X) → position_or_len p xs ≡ length xs → list_any p xs ≡ false
none_passes p [] = λ past. refl
none_passes p (x ∷ xs) =
    elim (p x) as (λ t. cond (not t) (1 + position_or_len p xs) 0 ≡ length (x ∷ xs) → (t || list_any p xs) ≡ false) [
      | true ↦ λ past. absurd (omega arith)
      | false ↦ λ past. none_passes p xs (omega arith)
    ]
