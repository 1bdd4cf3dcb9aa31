-- Sets of rows that are joined.
use Rattle.std.specs.Prelude.{◌≡◌, ℕ, false, List, All}
use Rattle.ann_types.specs.Order.{has}

-- no row of the one is a row of the other
abbrev pub ShareNothing : List ℕ → List ℕ → Type 0
ShareNothing rows others = All (λ row. has rows row ≡ false) others
