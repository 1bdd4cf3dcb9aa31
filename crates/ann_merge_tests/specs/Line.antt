-- Rows in a line: each is linked to the one before it and to the one behind it.
use Rattle.std.specs.Prelude.{ℕ, zero, suc, ◌+◌, ◌%◌, List, [], ◌∷◌, ◌++◌, map, nat_lt, if◌then◌else◌}
use Rattle.std.specs.List.{range_with_len}

abbrev pub before : ℕ → List ℕ
before zero = []
before (suc row) = row ∷ []

abbrev pub behind : ℕ → ℕ → List ℕ
behind count row = if nat_lt (row + 1) count then (row + 1) ∷ [] else []

-- the neighbours of a row of so many
abbrev pub line_list : ℕ → ℕ → List ℕ
line_list count row = before row ++ behind count row

-- the lists of the first so many of some rows
abbrev pub line_lists : ℕ → ℕ → List (List ℕ)
line_lists count rows = map (line_list count) (range_with_len 0 rows)
