-- The lists of a base and of the new points outside it, by rows, are those of the points by the Pids of all.
use Rattle.std.proofs.Common.{◌≡◌, ℕ, ◌<◌, List, [], ◌∷◌, ◌++◌, refl, sym, ap, ap₂, subst, ◌∙◌, arith, map, length, get_or}
use Rattle.std.specs.Prelude.{All}
use Rattle.std.specs.List.{AllByRecursion}
use Rattle.std.proofs.lemmas.List.{length-map, map-append}
use Rattle.std.proofs.lemmas.List.Elements.{All-from_get_or, All-get_or, All-weaker, recursion_from_All}
use Rattle.ann_types.specs.Codes.{decoded, decoded_graph, decoded_points}
use Rattle.ann_types.specs.Graph.{Point, Graph, pids_of, with_vector}
use Rattle.ann_types.specs.Index.{Index}
use Rattle.ann_types.specs.Merge.{delta, insert_phase}
use Rattle.ann_types.specs.Rows.{AreNeighbours, pid_at}
use Rattle.ann_types.specs.declared.new_point.NewPoint.{NewPoint}
use Rattle.ann_types.proofs.Merges.{pids_decoded}
use Rattle.ann_types.proofs.Renamed.{Below}
use Rattle.ann_types.proofs.Sets.{Rises}
use Rattle.ann_mdelete.proofs.Points.{map_twice}
use Rattle.ann_minsert.specs.Added.{linked_all}
use Rattle.ann_minsert.specs.Base.{BaseView, IsBase, StandsFor}
use Rattle.ann_minsert.specs.Links.{IsBehind}
use Rattle.ann_minsert.proofs.Pieces.{added_is, lists_are}
use Rattle.ann_mplan.specs.Back.{AreInto, deltas_of}
use Rattle.ann_mplan.proofs.Deltas.{deltas_by_pids, named_front}

-- ---- lists of rows of the base, whether by its Pids or by those of all points

named_lists : (base new : List Point) (lists : List (List ℕ)) → AllByRecursion (Below (length base)) lists → map (map (pid_at (base ++ new))) lists ≡ map (map (pid_at base)) lists
named_lists base new [] a = refl
named_lists base new (rows ∷ lists) (h, a) = ap₂ ◌∷◌ (named_front base new rows h) (named_lists base new lists a)

links_decoded : (index : Index) (points : List Point) → map (λ (x : Point). x.links) (decoded_points index.book points) ≡ map (λ (x : Point). x.links) points
links_decoded index [] = refl
links_decoded index (x ∷ points) = ap (λ t. x.links ∷ t) (links_decoded index points)

vectors_new : (index : Index) (g : Graph) (rest : List NewPoint) → map (λ (x : Point). decoded index.book x.vector) (insert_phase index g rest) ≡ map (λ (x : NewPoint). decoded index.book x.vector) rest
unfolding insert_phase
vectors_new index g [] = refl
vectors_new index g (x ∷ rest) = ap (λ t. decoded index.book x.vector ∷ t) (vectors_new index g rest)

-- ---- what new points are linked to

module _ (index : Index) (b : BaseView) (sound : IsBase b) (rest : List NewPoint) where
  abbrev linked : List (List ℕ)
  linked = linked_all index.params index.book b rest

  -- their lists are rows of the base
  pub linked_are : All (AreNeighbours index.params (length b.vectors) (length b.vectors)) linked
  linked_are = (added_is index.params index.book b sound rest [] linked refl).may

  pub into_base : AreInto (length b.vectors) linked
  into_base = record {
    rising = λ i h. (All-get_or (AreNeighbours index.params (length b.vectors) (length b.vectors)) linked i [] h linked_are).rising;
    inside = λ i h. (All-get_or (AreNeighbours index.params (length b.vectors) (length b.vectors)) linked i [] h linked_are).inside;
  }

  linked_below : AllByRecursion (Below (length b.vectors)) linked
  linked_below =
      recursion_from_All (Below (length b.vectors)) linked
      (All-weaker (AreNeighbours index.params (length b.vectors) (length b.vectors)) (Below (length b.vectors)) (λ rows may. recursion_from_All (λ row. row < length b.vectors) rows may.inside) linked linked_are)

-- ---- by the Pids

module _ (index : Index) (g : Graph) (b : BaseView) (sound : IsBase b) (rest : List NewPoint) (stands : StandsFor (decoded_graph index.book g) b) where
  abbrev new : List Point
  new = insert_phase index g rest

  -- the base has a point for each row
  pub base_count : length g.points ≡ length b.vectors
  base_count =
      sym (length-map g.points (λ (x : Point). with_vector (decoded index.book x.vector) x))
      ∙ sym (length-map (decoded_points index.book g.points) (λ (x : Point). x.vector))
      ∙ ap length stands.rows.same

  base_below : AllByRecursion (Below (length g.points)) b.lists
  base_below =
      let rows = base_count in
      let count = sound.lists.count in
      recursion_from_All (Below (length g.points)) b.lists
      (All-from_get_or (Below (length g.points)) b.lists []
      (λ row h. subst (λ (n : ℕ). Below n (get_or b.lists row [])) (let e : length b.lists ≡ length g.points = omega arith in e)
      (recursion_from_All (λ other. other < length b.lists) (get_or b.lists row []) (sound.lists.links row h).inside)))

  pub own_links : map (λ (x : Point). x.links) g.points ≡ map (map (pid_at (g.points ++ new))) b.lists
  own_links =
      sym (links_decoded index g.points)
      ∙ stands.links
      ∙ ap (λ (ps : List ℕ). map (map (λ row. get_or ps row 0)) b.lists) (pids_decoded index g.points)
      ∙ sym (named_lists g.points new b.lists base_below)

  pub vectors_are : b.vectors ++ map (λ (x : NewPoint). decoded index.book x.vector) rest ≡ map (λ (x : Point). decoded index.book x.vector) (g.points ++ new)
  vectors_are =
      ap₂ ◌++◌
      (sym stands.rows.same ∙ map_twice (λ (x : Point). with_vector (decoded index.book x.vector) x) (λ (x : Point). x.vector) g.points)
      (sym (vectors_new index g rest))
      ∙ sym (map-append (λ (x : Point). decoded index.book x.vector) g.points new)

  module _ (behind : All (IsBehind g) rest) (rises : Rises (pids_of (g.points ++ new))) where
    pub new_links : map (λ (x : Point). x.links) new ≡ map (map (pid_at (g.points ++ new))) (linked_all index.params index.book b rest)
    new_links =
        sym (named_lists g.points new (linked_all index.params index.book b rest)
        (subst (λ (n : ℕ). AllByRecursion (Below n) (linked_all index.params index.book b rest)) (sym base_count) (linked_below index b sound rest))
        ∙ lists_are index.params index.book b sound g rest stands behind)

    pub base_deltas : map (λ (x : Point). delta new x.pid) g.points ≡ map (map (pid_at (g.points ++ new))) (deltas_of (length g.points) (linked_all index.params index.book b rest))
    base_deltas =
        deltas_by_pids g.points new (linked_all index.params index.book b rest) rises new_links
        (subst (λ (n : ℕ). AreInto n (linked_all index.params index.book b rest)) (sym base_count) (into_base index b sound rest))
