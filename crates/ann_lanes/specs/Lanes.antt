-- Vectors of lanes, as lists.
use Rattle.std.specs.Prelude.{ℕ, ◌*◌}
pub use lib.Lanes.{Each1, zip2, chunk}

abbrev pub square : ℕ → ℕ
square x = x * x
