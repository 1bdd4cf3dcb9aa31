-- Which sealed segments are removed.
use Rattle.std.specs.Prelude.{◌≡◌, ◌⊎◌, ℕ, Bool, false, ◌==◌, ◌&&◌, ◌||◌, not, None}
use Rattle.std.specs.FinMap.{get}
use Rattle.ann_vault.specs.Held.{Holding}

-- one of two numbers names a segment; 0 names none
abbrev pub is_named : ℕ → ℕ → ℕ → Bool
is_named first second number = not (number == 0) && ((number == first) || (number == second))

-- some that aren't kept may be gone, and all others are as they were
abbrev pub MayLack : (ℕ → Bool) → Holding → Holding → Type 0
MayLack kept old new = (number : ℕ) → (get new number ≡ get old number) ⊎ ((kept number ≡ false) × (get new number ≡ None))
