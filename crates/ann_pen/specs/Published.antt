-- What is seen of a writer.
use Rattle.std.specs.Prelude.{List}

-- the value that readers take, the operations that wait, and what the writer knows by the rule
pub record Published (T O V : Type 0) : Type 0 where
  pub value : T
  pub waiting : List O
  pub knows : V
