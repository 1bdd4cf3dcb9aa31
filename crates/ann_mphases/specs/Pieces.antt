-- Lists that were made piece by piece, 256 rows each.
use Rattle.std.specs.Prelude.{◌≤◌, ℕ, List, All, flat_map, length}

-- no piece has more lists than rows
abbrev pub AreSmall : List (List (List ℕ)) → Type 0
AreSmall pieces = All (λ piece. length piece ≤ 256) pieces

-- the lists of all pieces, one piece after the other
abbrev pub joined : List (List (List ℕ)) → List (List ℕ)
joined pieces = flat_map (λ piece. piece) pieces
