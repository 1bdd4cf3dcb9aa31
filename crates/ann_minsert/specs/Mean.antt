-- The row whose vector is nearest to the mean of all, where rows stand for points in order of Pid.
use Rattle.std.specs.Prelude.{◌≡◌, ◌≤◌, ◌<◌, ℕ, ◌*◌, List, [], length, get_or, map, sum_by, Option, option_map}
use Rattle.std.specs.List.Sorted.{IsStrictlyIncreasing}
use Rattle.ann_types.specs.Distance.{distance}
use Rattle.ann_types.specs.Graph.{Point, pids_of}
use Rattle.ann_types.specs.Merge.{central}
use Rattle.ann_types.specs.Rows.{pid_at}

-- these vectors are those of points, row by row in order of Pid
pub record AreRowsOf (points : List Point) (vectors : List (List ℕ)) : Type 0 where
  pub rising : IsStrictlyIncreasing (pids_of points)
  pub same : map (λ (x : Point). x.vector) points ≡ vectors

-- the row of the point that is nearest to the mean of all, whichever points these are the rows of; none where there are
-- none
abbrev pub IsCentral : ℕ → List (List ℕ) → Option ℕ → Type 0
IsCentral d vectors row = (points : List Point) → AreRowsOf points vectors → central d points ≡ option_map (pid_at points) row

-- ---- sums of components

-- the sum of one component of all vectors
abbrev pub sum_at : List (List ℕ) → ℕ → ℕ
sum_at vectors i = sum_by (λ x. get_or x i 0) vectors

-- these numbers are the sums of the first d components of vectors of bytes
pub record AreSums (d : ℕ) (vectors : List (List ℕ)) (sums : List ℕ) : Type 0 where
  pub value : (i : ℕ) → i < d → get_or sums i 0 ≡ sum_at vectors i
  pub small : (i : ℕ) → i < d → get_or sums i 0 ≤ 255 * length vectors

-- ---- the first least

-- of the rows below n this one is nearest, the first on a tie
pub record IsFirst (far : ℕ → ℕ) (n row : ℕ) : Type 0 where
  pub inside : row < n
  pub least : (other : ℕ) → other < n → far row ≤ far other
  pub first : (other : ℕ) → other < row → far row < far other

-- how far the rows are from a vector
abbrev pub far_of : List (List ℕ) → List ℕ → ℕ → ℕ
far_of vectors query row = distance query (get_or vectors row [])
