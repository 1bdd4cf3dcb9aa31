-- The calls of a device in memory, some of which are made to fail.
use Rattle.std.specs.Prelude.{◌≡◌, ℕ, List, Any}
use Rattle.ann_fault.specs.Counts.{next_count}
use Rattle.ann_fault.specs.declared.calls.Calls.{Calls}

-- no call was made yet, and those with the listed numbers, from 1, will fail
pub record IsFresh (listed : List ℕ) (calls : Calls) : Type 0 where
  pub failing : calls.failing.items ≡ listed
  pub made : calls.made ≡ 0

-- the next call is made to fail
abbrev pub FailsNext : Calls → Type 0
FailsNext calls = Any (λ number. number ≡ next_count calls.made) calls.failing.items

-- one call more was counted
pub record CountsCall (old new : Calls) : Type 0 where
  pub made : new.made ≡ next_count old.made
  pub failing : new.failing.items ≡ old.failing.items
