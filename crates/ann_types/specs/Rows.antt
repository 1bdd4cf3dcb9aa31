-- Points by rows, in order of Pid.
use Rattle.std.specs.Prelude.{◌≢◌, ◌≤◌, ◌<◌, ℕ, List, length, get_or, All}
use Rattle.std.specs.List.Sorted.{IsStrictlyIncreasing}
use Rattle.ann_types.specs.Graph.{Point, pids_of}
use Rattle.ann_types.specs.declared.params.Params.{Params}

-- the Pid of a row
abbrev pub pid_at : List Point → ℕ → ℕ
pid_at points row = get_or (pids_of points) row 0

-- these may be the neighbours of a row: other rows in ascending order, at most R
pub record AreNeighbours (params : Params) (count row : ℕ) (links : List ℕ) : Type 0 where
  pub rising : IsStrictlyIncreasing links
  pub inside : All (λ other. other < count) links
  pub others : All (λ other. other ≢ row) links
  pub few : length links ≤ params.r
