-- What an output has taken of the bytes that were due.
use Rattle.std.specs.Prelude.{ℕ, List, Option, take}
use Rattle.std.specs.Io.KnownBytes.{Appends}

-- the output took a front of these bytes
abbrev pub AppendsFront : Option (List ℕ) → Option (List ℕ) → List ℕ → Type 0
AppendsFront taken taken' bytes = (n : ℕ) × Appends taken taken' (take n bytes)
