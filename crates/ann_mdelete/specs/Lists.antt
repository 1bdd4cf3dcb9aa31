-- Lists side by side in one long list, each known by its end.
use Rattle.std.specs.Prelude.{◌≡◌, ◌≤◌, ◌<◌, ℕ, List, ◌∷◌, map, length, get_or, slice_range}
use Rattle.std.specs.List.{range_with_len}

-- a list begins where the one before it ends
abbrev pub start_of : List ℕ → ℕ → ℕ
start_of ends i = get_or (0 ∷ ends) i 0

abbrev pub list_at : List ℕ → List ℕ → ℕ → List ℕ
list_at ends numbers i = slice_range numbers (start_of ends i) (get_or ends i 0)

abbrev pub lists_in : List ℕ → List ℕ → List (List ℕ)
lists_in ends numbers = map (list_at ends numbers) (range_with_len 0 (length ends))

-- the ends of lists that fill so many places
pub record AreEnds (ends : List ℕ) (count : ℕ) : Type 0 where
  pub rising : (i : ℕ) → i < length ends → start_of ends i ≤ get_or ends i 0
  pub inside : (i : ℕ) → i < length ends → get_or ends i 0 ≤ count
  pub last : start_of ends (length ends) ≡ count
