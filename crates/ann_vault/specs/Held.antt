-- What a vault holds before and after a call.
use Rattle.std.specs.Prelude.{◌≡◌, ◌⊎◌, ℕ, List, Option, None, Some, MatchOption}
use Rattle.std.specs.Ordering.{nat_cmp}
use Rattle.std.specs.FinMap.{FinMap, get, insert, remove}

-- sealed bytes by number
abbrev pub Holding : Type 0
Holding = FinMap nat_cmp (List ℕ)

-- the bytes are sealed under their number, or all is as it was
abbrev pub MayBeSealed : ℕ → List ℕ → Holding → Holding → Type 0
MayBeSealed number bytes old new = (new ≡ old) ⊎ (new ≡ insert old number bytes)

-- the number is gone, or all is as it was
abbrev pub MayBeRemoved : ℕ → Holding → Holding → Type 0
MayBeRemoved number old new = (new ≡ old) ⊎ (new ≡ remove old number)

-- a seal of the number, with its number and its bytes, or none exactly where the number isn't sealed
abbrev pub IsSealOf : {S : Type 0} → (S → ℕ) → (S → List ℕ) → Holding → ℕ → Option S → Type 0
IsSealOf number_of bytes_of held number found =
    MatchOption found
    (get held number ≡ None)
    (λ seal. (number_of seal ≡ number) × (get held number ≡ Some (bytes_of seal)))
