-- What a caller sees of a tally.
use Rattle.std.specs.Prelude.{ℕ, List}
use Rattle.atomic_table.specs.Seated.{TableId}
use Rattle.ann_tally.specs.declared.numbers.Numbers.{Numbers}

-- which tally it is, and how many clients it has
pub record Roll : Type 0 where
  pub table_id : TableId
  pub clients : ℕ

-- a tally, with the numbers of each client
pub record Book : Type 0 where
  pub roll : Roll
  pub numbers : List Numbers
