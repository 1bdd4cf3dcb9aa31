-- The links of a piece of the new points outside the base.
use Rattle.std.specs.Prelude.{◌≡◌, ◌≤◌, ◌+◌, ◌*◌, ℕ, List, All, drop, length, take}
use Rattle.ann_types.specs.Legal.{pid_end}
use Rattle.ann_types.specs.declared.params.Params.{Params}
use Rattle.ann_types.specs.declared.new_point.NewPoint.{NewPoint}
use Rattle.ann_pq.specs.Codebook.{CodebookView}
use Rattle.ann_minsert.specs.Added.{linked_all}
use Rattle.ann_minsert.specs.Base.{BaseView}

-- what the phase reads
pub record LinkView : Type 0 where
  pub base : BaseView
  pub points : List NewPoint
  pub book : CodebookView
  pub params : Params

-- all vectors have the codebook's dimension, and the rows of the base and of the points are numbered by Pids
pub record MayLink (rows : LinkView) : Type 0 where
  pub base : All (λ vector. length vector ≡ rows.book.d) rows.base.vectors
  pub vectors : All (λ (x : NewPoint). length x.vector ≡ rows.book.d) rows.points
  pub few : length rows.base.vectors + length rows.points ≤ pid_end

-- the points of a piece
abbrev pub points_in : List NewPoint → ℕ → List NewPoint
points_in points number = take 256 (drop (256 * number) points)

-- their links
abbrev pub links_in : LinkView → List NewPoint → List (List ℕ)
links_in rows points = linked_all rows.params rows.book.book rows.base points

abbrev pub linked_piece : LinkView → ℕ → List (List ℕ)
linked_piece rows number = links_in rows (points_in rows.points number)
