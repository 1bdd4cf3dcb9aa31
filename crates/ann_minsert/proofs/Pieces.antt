-- The lists of the new points of a piece are those that the Insert phase gives them.
use Rattle.std.proofs.Common.{◌≡◌, ℕ, List, [], ◌∷◌, ◌++◌, refl, sym, ap, ◌∙◌, map, length}
use Rattle.std.specs.List.{All, AllByRecursion}
use Rattle.std.proofs.lemmas.List.Elements.{recursion_from_All, All-map, All-from_recursion}
use Rattle.ann_types.specs.Codes.{Book, decoded_graph}
use Rattle.ann_types.specs.Graph.{Point, Graph}
use Rattle.ann_types.specs.Index.{Index}
use Rattle.ann_types.specs.Merge.{linked, insert_phase}
use Rattle.ann_types.specs.Rows.{pid_at, AreNeighbours}
use Rattle.ann_types.specs.declared.params.Params.{Params}
use Rattle.ann_types.specs.declared.new_point.NewPoint.{NewPoint}
use Rattle.ann_minsert.specs.Base.{BaseView, IsBase, StandsFor}
use Rattle.ann_minsert.specs.Links.{linked_rows, IsBehind}
use Rattle.ann_minsert.specs.Added.{linked_all, AreAdded}
use Rattle.ann_minsert.proofs.Linked.{linked_is, linked_may}

module _ (params : Params) (book : Book) (b : BaseView) (sound : IsBase b) where
  abbrev index : Index
  index = record { params = params; book = book }

  -- a new point with these rows of a graph's points as its neighbours
  abbrev pub linked_to : Graph → NewPoint → List ℕ → Point
  linked_to g x rows = record { pid = x.pid; tag = x.tag; vector = x.vector; links = map (pid_at g.points) rows }

  phase_each : (g : Graph) (points : List NewPoint) → StandsFor (decoded_graph book g) b → AllByRecursion (IsBehind g) points → insert_phase index g points ≡ map (λ x. linked_to g x (linked_rows params book b x)) points
  unfolding insert_phase
  phase_each g [] stands behind = refl
  phase_each g (x ∷ points) stands (h, behind) =
      ap (λ (t : List ℕ). (let y : Point = record { pid = x.pid; tag = x.tag; vector = x.vector; links = t } in y) ∷ map (linked index g) points) (sym (linked_is params book b sound x g stands h))
      ∙ ap (λ t. linked_to g x (linked_rows params book b x) ∷ t) (phase_each g points stands behind)

  -- The Insert phase links each new point to the rows that it keeps.
  pub phase_is : (g : Graph) (points : List NewPoint) → StandsFor (decoded_graph book g) b → All (IsBehind g) points → insert_phase index g points ≡ map (λ x. linked_to g x (linked_rows params book b x)) points
  phase_is g points stands behind = phase_each g points stands (recursion_from_All (IsBehind g) points behind)

  names_each : (g : Graph) (points : List NewPoint) → map (map (pid_at g.points)) (linked_all params book b points) ≡ map (λ (y : Point). y.links) (map (λ x. linked_to g x (linked_rows params book b x)) points)
  names_each g [] = refl
  names_each g (x ∷ points) = ap (λ t. map (pid_at g.points) (linked_rows params book b x) ∷ t) (names_each g points)

  -- So the lists are those that it gives them.
  pub lists_are : (g : Graph) (points : List NewPoint) → StandsFor (decoded_graph book g) b → All (IsBehind g) points → map (map (pid_at g.points)) (linked_all params book b points) ≡ map (λ (y : Point). y.links) (insert_phase index g points)
  lists_are g points stands behind = names_each g points ∙ sym (ap (map (λ (y : Point). y.links)) (phase_is g points stands behind))

  pub added_is : (points : List NewPoint) (old new : List (List ℕ)) → new ≡ old ++ linked_all params book b points → AreAdded params book b points old new
  added_is points old new is = record {
    behind = is;
    defined = λ g stands behind. lists_are g points stands behind;
    may = All-map (AreNeighbours params (length b.vectors) (length b.vectors)) (linked_rows params book b) points (All-from_recursion (λ x. AreNeighbours params (length b.vectors) (length b.vectors) (linked_rows params book b x)) points (each_may points));
  }
    where
      each_may : (xs : List NewPoint) → AllByRecursion (λ x. AreNeighbours params (length b.vectors) (length b.vectors) (linked_rows params book b x)) xs
      each_may [] = tt
      each_may (x ∷ xs) = (linked_may params book b sound x, each_may xs)
