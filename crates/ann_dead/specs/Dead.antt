-- The runs of a delete list.
use Rattle.std.specs.Prelude.{◌≡◌, ℕ, ◌≤◌, ◌+◌, List, [], ◌∷◌, length, map, reverse}
use Rattle.ann_dead.specs.Pids.{union_of}
use Rattle.ann_dead.specs.Digits.{digits_of}
use Rattle.ann_dead.specs.Run.{IsRun}

-- how many Pids the runs have, one with another
abbrev pub total : List (List ℕ) → ℕ
total [] = 0
total (run ∷ runs) = length run + total runs

-- the sizes of the runs, the last first
abbrev pub sizes : List (List ℕ) → List ℕ
sizes runs = reverse (map length runs)

abbrev pub AreRuns : List (List ℕ) → Type 0
AreRuns [] = Unit {0}
AreRuns (run ∷ runs) = IsRun run × AreRuns runs

-- No Pid stands in two runs, and the sizes of the runs are the binary digits of the number of Pids. There is room for all 32 digits
pub record AreDigits (capacity : ℕ) (runs : List (List ℕ)) : Type 0 where
  pub room : 32 ≤ capacity
  pub sorted : AreRuns runs
  pub apart : length (union_of runs) ≡ total runs
  pub digits : sizes runs ≡ digits_of 33 1 (total runs)
