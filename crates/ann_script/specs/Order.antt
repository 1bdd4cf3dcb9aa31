-- What a command says, in plain values.
use Rattle.std.specs.Prelude.{ℕ, Bool, List}
use Rattle.ann_types.specs.declared.change.Change.{Change}
use Rattle.ann_script.specs.declared.command.Command.{Command}
use Rattle.ann_script.specs.declared.command.Command.TheVariants as command

-- changes, and whether they are a batch; how many points, from walks of which width, are wanted near a vector; a merge; or a
-- seed, a number of points, and the tag of the first one
pub data Order : Type 0 where
  Apply : List Change → Bool → Order
  Find : ℕ → ℕ → List ℕ → Order
  Merge : Order
  Fill : ℕ → ℕ → ℕ → Order

abbrev pub order_of : Command → Order
order_of (command.Update changes batch) = Apply changes batch
order_of (command.Search ask) = Find ask.k ask.l ask.vector
order_of command.Merge = Merge
order_of (command.Fill seed count first) = Fill seed count first
