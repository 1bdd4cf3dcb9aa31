-- The words of a line, and the numbers that words are.
use Rattle.std.specs.Prelude.{ℕ, ◌+◌, ◌-◌, ◌*◌, ◌==◌, ◌||◌, ◌&&◌, nat_le, Bool, true, false, List, [], ◌∷◌, filter, Option, None, Some, if◌then◌else◌}
use Rattle.std.specs.Char.{is_ascii_digit}
use Rattle.std.specs.List.{slice_split}

-- a space or a tab
abbrev pub is_blank : ℕ → Bool
is_blank byte = (byte == 32) || (byte == 9)

abbrev pub is_word : List ℕ → Bool
is_word [] = false
is_word (byte ∷ bytes) = true

-- what stands between blanks
abbrev pub words : List ℕ → List (List ℕ)
words line = filter is_word (slice_split is_blank line)

-- the number that digits write behind a number
abbrev pub digits_after : ℕ → List ℕ → Option ℕ
digits_after n [] = Some n
digits_after n (digit ∷ digits) = if is_ascii_digit digit then digits_after (10 * n + (digit - 48)) digits else None

-- decimal digits without a sign, and without a 0 in front of others
abbrev pub numeral : List ℕ → Option ℕ
numeral [] = None
numeral (digit ∷ digits) = if (digit == 48) && is_word digits then None else digits_after 0 (digit ∷ digits)

abbrev pub at_most : ℕ → Option ℕ → Option ℕ
at_most most None = None
at_most most (Some n) = if nat_le n most then Some n else None

-- the number that a word is, where it is one of at most `most`
abbrev pub number_of : ℕ → List ℕ → Option ℕ
number_of most word = at_most most (numeral word)
