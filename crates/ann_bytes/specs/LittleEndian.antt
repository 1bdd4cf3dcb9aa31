-- Numbers as bytes, the lowest first, and the fields of a list of bytes.
use Rattle.std.specs.Prelude.{ℕ, zero, suc, ◌+◌, ◌*◌, ◌/◌, ◌%◌, List, [], ◌∷◌, ◌++◌, length, take, drop}

-- the number whose bytes these are
abbrev pub number_of : List ℕ → ℕ
number_of [] = 0
number_of (byte ∷ bytes) = byte + 256 * number_of bytes

-- the n lowest bytes of a number
abbrev pub bytes_of : ℕ → ℕ → List ℕ
bytes_of zero number = []
bytes_of (suc n) number = number % 256 ∷ bytes_of n (number / 256)

-- the n bytes from a place
abbrev pub field : List ℕ → ℕ → ℕ → List ℕ
field bytes at n = take n (drop at bytes)

-- these bytes in place of those that stand from there, and all others as they are
abbrev pub with_field : List ℕ → ℕ → List ℕ → List ℕ
with_field bytes at new = take at bytes ++ new ++ drop (at + length new) bytes
