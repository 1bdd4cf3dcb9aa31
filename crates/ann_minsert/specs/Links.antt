-- The neighbours of a new point, as rows of a base.
use Rattle.std.specs.Prelude.{◌≡◌, ◌<◌, ℕ, List, [], ◌∷◌, ◌++◌, length, map, All}
use Rattle.ann_types.specs.Codes.{Book, decoded, decoded_graph}
use Rattle.ann_types.specs.Graph.{Graph, pids_of}
use Rattle.ann_types.specs.Index.{Index}
use Rattle.ann_types.specs.Kept.{rule_of, kept}
use Rattle.ann_types.specs.Merge.{linked}
use Rattle.ann_types.specs.Rows.{pid_at, AreNeighbours}
use Rattle.ann_types.specs.declared.params.Params.{Params}
use Rattle.ann_types.specs.declared.new_point.NewPoint.{NewPoint}
use Rattle.ann_greedy.specs.Rows.{visited_rows}
use Rattle.ann_mdelete.specs.Decoded.{apart_of}
use Rattle.ann_minsert.specs.Base.{BaseView, StandsFor, rows_of}

-- the rows that a walk for a vector visits in a base
abbrev pub seen_rows : Params → BaseView → List ℕ → List ℕ
seen_rows params b query = visited_rows (rows_of b) query params.l_build b.entry

-- what a new point keeps of the rows that a walk for its full vector visits, by decoded distances; its own row comes
-- behind those of the base
abbrev pub linked_rows : Params → Book → BaseView → NewPoint → List ℕ
linked_rows params book b x =
    let vectors : List (List ℕ) = b.vectors ++ decoded book x.vector ∷ [] in
    kept (rule_of params) (apart_of vectors) (length b.vectors) (seen_rows params b x.vector)

-- a point comes behind all points of a graph
abbrev pub IsBehind : Graph → NewPoint → Type 0
IsBehind g x = All (λ p. p < x.pid) (pids_of g.points)

-- these rows are the neighbours that the definition of the Insert phase gives a new point, in whichever graph the base
-- stands for
abbrev pub AreDefined : Index → BaseView → NewPoint → List ℕ → Type 0
AreDefined index b x rows =
    (g : Graph) → StandsFor (decoded_graph index.book g) b → IsBehind g x → map (pid_at g.points) rows ≡ (linked index g x).links

-- these rows are those that a new point keeps, and so its neighbours by the definition; they are rows of the base in
-- ascending order, at most R
pub record AreLinked (params : Params) (book : Book) (b : BaseView) (x : NewPoint) (rows : List ℕ) : Type 0 where
  pub kept : rows ≡ linked_rows params book b x
  pub defined : AreDefined (record { params = params; book = book }) b x rows
  pub may : AreNeighbours params (length b.vectors) (length b.vectors) rows
