-- What is seen of the writer of what is published.
use Rattle.std.specs.Prelude.{List, fold}
use Rattle.ann_types.specs.Lists.{BasedList}

-- the published list, and those that waiting steps lead to
pub record Publishing : Type 0 where
  pub shown : BasedList
  pub waiting : List BasedList

-- the last of some lists, or else this one
abbrev pub last_of : BasedList → List BasedList → BasedList
last_of h lists = fold (λ _ g. g) h lists
