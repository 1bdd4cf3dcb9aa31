-- Counting in binary by lists of sizes.
use Rattle.std.specs.Prelude.{ℕ, zero, suc, ◌*◌, ◌/◌, ◌%◌, ◌==◌, if◌then◌else◌, List, [], ◌∷◌}

-- The lowest k binary digits of n, the least first, each that is 1 as what it stands for where the least stands for unit: 5 has 1 and 4
unfoldable pub digits_of : ℕ → ℕ → ℕ → List ℕ
digits_of zero unit n = []
digits_of (suc k) unit n = if n % 2 == 1 then unit ∷ digits_of k (2 * unit) (n / 2) else digits_of k (2 * unit) (n / 2)

-- what becomes of the digits where one is added: equal ones are carried
abbrev pub carried : List ℕ → ℕ → List ℕ
carried [] size = size ∷ []
carried (x ∷ xs) size = if x == size then carried xs (2 * size) else size ∷ x ∷ xs
