-- Decoded vectors by row, and vectors of one width side by side.
use Rattle.std.specs.Prelude.{◌≡◌, ◌≤◌, ◌<◌, ℕ, ◌*◌, ◌^◌, List, [], map, length, get_or, take, drop}
use Rattle.std.specs.List.{range_with_len}
use Rattle.ann_types.specs.Distance.{distance}

-- the components of each vector, 0 where there are none
abbrev pub width_of : List (List ℕ) → ℕ
width_of vectors = length (get_or vectors 0 [])

-- how far two rows are from each other
abbrev pub apart_of : List (List ℕ) → ℕ → ℕ → ℕ
apart_of vectors x y = distance (get_or vectors x []) (get_or vectors y [])

-- vectors of one width, of at most 1024 bytes, in rows that are numbered in 32 bits
pub record AreDecoded (vectors : List (List ℕ)) : Type 0 where
  pub same : (row : ℕ) → row < length vectors → length (get_or vectors row []) ≡ width_of vectors
  pub short : width_of vectors ≤ 1024
  pub few : length vectors < 2 ^ 32
  pub components : (row i : ℕ) → get_or (get_or vectors row []) i 0 < 256

-- ---- side by side

abbrev pub vector_at : ℕ → List ℕ → ℕ → List ℕ
vector_at width bytes i = take width (drop (i * width) bytes)

abbrev pub vectors_in : ℕ → ℕ → List ℕ → List (List ℕ)
vectors_in width count bytes = map (vector_at width bytes) (range_with_len 0 count)
