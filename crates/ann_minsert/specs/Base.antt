-- The base of a merge, by rows, and the graph of decoded vectors that it stands for.
use Rattle.std.specs.Prelude.{◌≡◌, ◌≢◌, ◌<◌, ℕ, List, [], length, get_or, map, All, Option, MatchOption, option_map}
use Rattle.std.specs.List.Sorted.{IsStrictlyIncreasing}
use Rattle.ann_types.specs.Graph.{Point, Graph}
use Rattle.ann_types.specs.Rows.{pid_at}
use Rattle.ann_greedy.specs.Rows.{Rows}
use Rattle.ann_mdelete.specs.Decoded.{width_of}
use Rattle.ann_minsert.specs.Mean.{AreRowsOf, IsCentral}

-- the row of the entry, the decoded vectors and the neighbours, row by row
pub record BaseView : Type 0 where
  pub entry : Option ℕ
  pub vectors : List (List ℕ)
  pub lists : List (List ℕ)

-- these may be the neighbours of a row: other rows in ascending order
pub record AreLinks (count row : ℕ) (list : List ℕ) : Type 0 where
  pub rising : IsStrictlyIncreasing list
  pub inside : All (λ other. other < count) list
  pub others : All (λ other. other ≢ row) list

-- each of so many rows has a list of neighbours
pub record AreListsOf (size : ℕ) (lists : List (List ℕ)) : Type 0 where
  pub count : length lists ≡ size
  pub links : (row : ℕ) → row < length lists → AreLinks (length lists) row (get_or lists row [])

-- the base that these make: it is entered at the row that is nearest to the mean of all
pub record IsBaseOf (neighbours decoded : List (List ℕ)) (b : BaseView) : Type 0 where
  pub lists : b.lists ≡ neighbours
  pub vectors : b.vectors ≡ decoded
  pub entry : IsCentral (width_of decoded) decoded b.entry

-- what is true of every base: it is a graph by rows, entered at the row that is nearest to the mean of all
pub record IsBase (b : BaseView) : Type 0 where
  pub lists : AreListsOf (length b.vectors) b.lists
  pub entered : MatchOption b.entry (b.vectors ≡ []) (λ row. row < length b.vectors)
  pub central : IsCentral (width_of b.vectors) b.vectors b.entry

-- what a walk sees of a base
abbrev pub rows_of : BaseView → Rows
rows_of b = record {
  count = length b.vectors;
  width = width_of b.vectors;
  start = b.entry;
  vector = λ row. get_or b.vectors row [];
  links = λ row. get_or b.lists row [];
}

-- a base stands for a graph of decoded vectors: its rows are the graph's points in order of Pid
pub record StandsFor (known : Graph) (b : BaseView) : Type 0 where
  pub rows : AreRowsOf known.points b.vectors
  pub links : map (λ (x : Point). x.links) known.points ≡ map (map (pid_at known.points)) b.lists
  pub entry : known.entry ≡ option_map (pid_at known.points) b.entry
