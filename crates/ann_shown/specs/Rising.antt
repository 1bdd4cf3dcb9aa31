-- The rule of what is published: it only grows.
use Rattle.std.specs.Prelude.{◌≡◌, ℕ, nat_lt, cond, List}
use mathlib.Core.Option.{some}
use lib.ListN.{get_elem?}
use Rattle.ann_types.specs.Lists.{BasedList, BeginsWith, length_of}

-- the published list begins with the opening one, and with each that somebody knows
pub record Risen (opening shown : BasedList) (known : List BasedList) : Type 0 where
  pub opened : BeginsWith shown opening
  pub each : (seat : ℕ) (v : BasedList) → get_elem? known seat ≡ some v → BeginsWith shown v

-- of two lists the longer, and the first of two that are equally long
abbrev pub longer : BasedList → BasedList → BasedList
longer v w = cond (nat_lt (length_of v) (length_of w)) w v
