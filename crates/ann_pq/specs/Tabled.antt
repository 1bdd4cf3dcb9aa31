-- Tables of 256 numbers side by side in one list.
use Rattle.std.specs.Prelude.{ℕ, ◌*◌, List, map, take, drop}
use Rattle.std.specs.List.{range_with_len}

-- the tables of the first parts
abbrev pub tables_in : ℕ → List ℕ → List (List ℕ)
tables_in parts numbers = map (λ part. take 256 (drop (256 * part) numbers)) (range_with_len 0 parts)
