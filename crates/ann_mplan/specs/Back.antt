-- Which later rows have a row of the base among their neighbours.
use Rattle.std.specs.Prelude.{◌≡◌, ◌<◌, ℕ, ◌+◌, List, [], ◌∷◌, All, sum, map, filter, take, length, get_or, slice_range, if◌then◌else◌}
use Rattle.std.specs.List.{range_with_len}
use Rattle.std.specs.List.Sorted.{IsStrictlyIncreasing}
use Rattle.ann_types.specs.Order.{has}

-- list i is that of row `base + i`, and has rows of the base in ascending order
pub record AreInto (base : ℕ) (links : List (List ℕ)) : Type 0 where
  pub rising : (i : ℕ) → i < length links → IsStrictlyIncreasing (get_or links i [])
  pub inside : (i : ℕ) → i < length links → All (λ row. row < base) (get_or links i [])

-- those of the first so many later rows that have a row among their neighbours
abbrev pub linking : ℕ → List (List ℕ) → ℕ → ℕ → List ℕ
linking base links count row = map (λ i. base + i) (filter (λ i. has (get_or links i []) row) (range_with_len 0 count))

-- Delta of each row of the base: the later rows that have it among their neighbours
abbrev pub deltas_of : ℕ → List (List ℕ) → List (List ℕ)
deltas_of base links = map (linking base links (length links)) (range_with_len 0 base)

-- ---- side by side

-- how many there are for each row
abbrev pub sizes_of : ℕ → List (List ℕ) → List ℕ
sizes_of base links = map (λ row. length (linking base links (length links) row)) (range_with_len 0 base)

-- where those of a row begin
abbrev pub place_of : ℕ → List (List ℕ) → ℕ → ℕ
place_of base links row = sum (take row (sizes_of base links))

-- a later row for the rows of its list alone
abbrev pub once : List ℕ → ℕ → ℕ → List ℕ
once list later row = if has list row then later ∷ [] else []

-- in the places of each row stand these so far, and its end is behind them
pub record AreFilled (base : ℕ) (links : List (List ℕ)) (so_far : ℕ → List ℕ) (ends numbers : List ℕ) : Type 0 where
  pub rows : length ends ≡ base
  pub size : length numbers ≡ place_of base links base
  pub end : (row : ℕ) → row < base → get_or ends row 0 ≡ place_of base links row + length (so_far row)
  pub stand : (row : ℕ) → row < base → slice_range numbers (place_of base links row) (get_or ends row 0) ≡ so_far row
