-- The neighbours of new points, added behind other lists.
use Rattle.std.specs.Prelude.{◌≡◌, ℕ, List, ◌++◌, length, map, take, All}
use Rattle.ann_types.specs.Codes.{Book, decoded_graph}
use Rattle.ann_types.specs.Graph.{Point, Graph}
use Rattle.ann_types.specs.Index.{Index}
use Rattle.ann_types.specs.Merge.{insert_phase}
use Rattle.ann_types.specs.Rows.{pid_at, AreNeighbours}
use Rattle.ann_types.specs.declared.params.Params.{Params}
use Rattle.ann_types.specs.declared.new_point.NewPoint.{NewPoint}
use Rattle.ann_minsert.specs.Base.{BaseView, StandsFor}
use Rattle.ann_minsert.specs.Links.{linked_rows, IsBehind}

-- what each of these new points keeps, in order
abbrev pub linked_all : Params → Book → BaseView → List NewPoint → List (List ℕ)
linked_all params book b points = map (linked_rows params book b) points

-- these lists are the neighbours that the Insert phase gives new points, in whichever graph the base stands for
abbrev pub AreInserted : Index → BaseView → List NewPoint → List (List ℕ) → Type 0
AreInserted index b points lists =
    (g : Graph) → StandsFor (decoded_graph index.book g) b → All (IsBehind g) points → map (map (pid_at g.points)) lists ≡ map (λ (x : Point). x.links) (insert_phase index g points)

-- what each of these points keeps stands behind the lists that were there, and so its neighbours by the definition; they
-- are rows of the base in ascending order, at most R
pub record AreAdded (params : Params) (book : Book) (b : BaseView) (points : List NewPoint) (old new : List (List ℕ)) : Type 0 where
  pub behind : new ≡ old ++ linked_all params book b points
  pub defined : AreInserted (record { params = params; book = book }) b points (linked_all params book b points)
  pub may : All (AreNeighbours params (length b.vectors) (length b.vectors)) (linked_all params book b points)

-- what some first of these points keep stands behind the lists that were there
pub record AreBegun (params : Params) (book : Book) (b : BaseView) (points : List NewPoint) (old new : List (List ℕ)) : Type 0 where
  pub count : ℕ
  pub behind : new ≡ old ++ linked_all params book b (take count points)
