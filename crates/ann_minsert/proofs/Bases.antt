-- The base of the definition, by decoded vectors: the graph that the first new points make by inserts where no point
-- survives, and else the survivors.
use Rattle.std.proofs.Common.{◌≡◌, ℕ, ◌≤◌, ◌<◌, Bool, true, false, cond, List, [], ◌∷◌, ◌++◌, refl, sym, ap, subst, ◌∙◌, arith, map, fold, take, length, get_or, append_assoc, append-nil, eq-eqb}
use Rattle.std.specs.Prelude.{Option, option_map}
use Rattle.std.specs.List.{All, AllByRecursion}
use Rattle.std.specs.List.Sorted.{IsStrictlyIncreasing}
use Rattle.std.proofs.lemmas.Bool.{ne_eqb}
use Rattle.std.proofs.lemmas.List.{map-append, take_all}
use Rattle.ann_types.specs.Order.{has}
use Rattle.ann_types.specs.Codes.{decoded, decoded_points, decoded_graph}
use Rattle.ann_types.specs.Graph.{Point, Graph, with_vector, empty_graph, pids_of, apart_in, visited}
use Rattle.ann_types.specs.Index.{Index}
use Rattle.ann_types.specs.Kept.{Rule, rule_of, kept}
use Rattle.ann_types.specs.Merge.{central, base_size, put_decoded, new_vector, first_base, base_points, base_of, mean_entry}
use Rattle.ann_types.specs.Put.{alone, linked_back, put}
use Rattle.ann_types.specs.Rows.{pid_at}
use Rattle.ann_types.specs.declared.params.Params.{Params}
use Rattle.ann_types.specs.declared.new_point.NewPoint.{NewPoint}
use Rattle.ann_types.proofs.Graphs.{all_two, pids_put}
use Rattle.ann_types.proofs.Merges.{new_pids, pids_decoded}
use Rattle.ann_types.proofs.Sets.{Rises, all_of_map}
use Rattle.ann_minsert.specs.Mean.{AreRowsOf, IsCentral}
use Rattle.ann_minsert.specs.Base.{BaseView, IsBaseOf, StandsFor}
use Rattle.ann_minsert.proofs.Firsts.{central_wide}

abbrev pub vectors_of : List Point → List (List ℕ)
vectors_of points = map (λ (x : Point). x.vector) points

-- ---- points put one after the other

vectors_back : (rule : Rule) (apart : ℕ → ℕ → ℕ) (n : ℕ) (out : List ℕ) (points : List Point) → vectors_of (map (λ (x : Point). cond (has out x.pid) (linked_back rule apart n x) x) points) ≡ vectors_of points
vectors_back rule apart n out [] = refl
vectors_back rule apart n out (x ∷ points) =
    ap (λ t. t ∷ vectors_of (map (λ (y : Point). cond (has out y.pid) (linked_back rule apart n y) y) points)) (same (has out x.pid))
    ∙ ap (λ t. x.vector ∷ t) (vectors_back rule apart n out points)
  where
    same : (t : Bool) → (cond t (linked_back rule apart n x) x).vector ≡ x.vector
    same true = refl
    same false = refl

vectors_put : (params : Params) (g : Graph) (n tag : ℕ) (vector : List ℕ) → vectors_of (put params g n tag vector).points ≡ vectors_of g.points ++ vector ∷ []
unfolding put
vectors_put params g n tag vector =
    let rule : Rule = rule_of params in
    let apart : ℕ → ℕ → ℕ = apart_in (g.points ++ alone n tag vector ∷ []) in
    let out : List ℕ = kept rule apart n (visited g vector params.l_build) in
    let new : Point = record { pid = n; tag = tag; vector = vector; links = out } in
    map-append (λ (x : Point). x.vector) (map (λ (x : Point). cond (has out x.pid) (linked_back rule apart n x) x) g.points) (new ∷ [])
    ∙ ap (λ t. t ++ vector ∷ []) (vectors_back rule apart n out g.points)

no_cons : {X : Type 0} (a : X) (xs : List X) → a ∷ xs ≡ [] → ⊥
no_cons a xs e = cc

first_same : {X : Type 0} (a : X) (xs : List X) (b : X) (ys : List X) → a ∷ xs ≡ b ∷ ys → a ≡ b
first_same a xs b ys e = cc

rest_same : {X : Type 0} (a : X) (xs : List X) (b : X) (ys : List X) → a ∷ xs ≡ b ∷ ys → xs ≡ ys
rest_same a xs b ys e = cc

module _ (index : Index) where
  abbrev put_one : Graph → NewPoint → Graph
  put_one g x = put index.params g x.pid x.tag (decoded index.book x.vector)

  abbrev decoded_new : List NewPoint → List (List ℕ)
  decoded_new new = map (λ (x : NewPoint). decoded index.book x.vector) new

  pids_fold : (g : Graph) (new : List NewPoint) → pids_of (fold put_one g new).points ≡ pids_of g.points ++ new_pids new
  pids_fold g [] = sym (append-nil (pids_of g.points))
  pids_fold g (x ∷ new) =
      pids_fold (put_one g x) new
      ∙ ap (λ t. t ++ new_pids new) (pids_put index.params g x.pid x.tag (decoded index.book x.vector))
      ∙ append_assoc (pids_of g.points) (x.pid ∷ []) (new_pids new)

  vectors_fold : (g : Graph) (new : List NewPoint) → vectors_of (fold put_one g new).points ≡ vectors_of g.points ++ decoded_new new
  vectors_fold g [] = sym (append-nil (vectors_of g.points))
  vectors_fold g (x ∷ new) =
      vectors_fold (put_one g x) new
      ∙ ap (λ t. t ++ decoded_new new) (vectors_put index.params g x.pid x.tag (decoded index.book x.vector))
      ∙ append_assoc (vectors_of g.points) (decoded index.book x.vector ∷ []) (decoded_new new)

  -- ---- their own vectors again

  found_later : (x : NewPoint) (new : List NewPoint) (y : NewPoint) → x.pid < y.pid → new_vector new y.pid ≡ y.vector → new_vector (x ∷ new) y.pid ≡ y.vector
  found_later x new y l is = ap (λ t. cond t x.vector (new_vector new y.pid)) (ne_eqb x.pid y.pid (λ e. omega arith)) ∙ is

  found_each : (new : List NewPoint) → Rises (new_pids new) → AllByRecursion (λ y. new_vector new y.pid ≡ y.vector) new
  found_each [] r = tt
  found_each (x ∷ new) (a, r) = (
    ap (λ t. cond t x.vector (new_vector new x.pid)) (eq-eqb x.pid x.pid refl),
    all_two (λ y. x.pid < y.pid) (λ y. new_vector new y.pid ≡ y.vector) (λ y. new_vector (x ∷ new) y.pid ≡ y.vector) new (found_later x new) (all_of_map (λ p. x.pid < p) (λ (y : NewPoint). y.pid) new a) (found_each new r),
  )

  -- Decoded once more they are the vectors with which the points were put.
  decoded_again : (all : List NewPoint) (points : List Point) (new : List NewPoint) → pids_of points ≡ new_pids new → vectors_of points ≡ decoded_new new → AllByRecursion (λ y. new_vector all y.pid ≡ y.vector) new → decoded_points index.book (map (λ (x : Point). with_vector (new_vector all x.pid) x) points) ≡ points
  decoded_again all [] new p v a = refl
  decoded_again all (x ∷ points) [] p v a = absurd (no_cons x.pid (pids_of points) p)
  decoded_again all (x ∷ points) (y ∷ new) p v (h, a) =
      let pid : x.pid ≡ y.pid = first_same x.pid (pids_of points) y.pid (new_pids new) p in
      let pids : pids_of points ≡ new_pids new = rest_same x.pid (pids_of points) y.pid (new_pids new) p in
      let vector : x.vector ≡ decoded index.book y.vector = first_same x.vector (vectors_of points) (decoded index.book y.vector) (decoded_new new) v in
      let vectors : vectors_of points ≡ decoded_new new = rest_same x.vector (vectors_of points) (decoded index.book y.vector) (decoded_new new) v in
      let same : decoded index.book (new_vector all x.pid) ≡ x.vector = ap (λ n. decoded index.book (new_vector all n)) pid ∙ ap (decoded index.book) h ∙ sym vector in
      ap (λ t. with_vector t x ∷ decoded_points index.book (map (λ (z : Point). with_vector (new_vector all z.pid) z) points)) same
      ∙ ap (λ t. x ∷ t) (decoded_again all points new pids vectors a)

  pub first_decoded : (new : List NewPoint) → Rises (new_pids new) → decoded_points index.book (first_base index new) ≡ (put_decoded index new).points
  first_decoded new r = decoded_again new (put_decoded index new).points new (pids_fold empty_graph new) (vectors_fold empty_graph new) (found_each new r)

  -- The base of at most a thousand new points, by decoded vectors, is the graph that they make by inserts, entered at its
  -- centre.
  pub base_made : (new : List NewPoint) → length new ≤ base_size → Rises (new_pids new) → record { entry = central index.params.d (put_decoded index new).points; points = (put_decoded index new).points } ≡ decoded_graph index.book (base_of index [] new)
  unfolding base_of
  base_made new l r =
      ap (λ (ps : List Point). let g : Graph = record { entry = central index.params.d ps; points = ps } in g)
      (sym (ap (λ (xs : List NewPoint). decoded_points index.book (first_base index xs)) (take_all base_size new l) ∙ first_decoded new r))

  -- ---- the entry

  -- The row that is nearest to the mean of all is that of MeanEntry.
  pub entry_is : (points : List Point) (vectors : List (List ℕ)) (row : Option ℕ) → AreRowsOf (decoded_points index.book points) vectors → IsCentral index.params.d vectors row → mean_entry index points ≡ option_map (pid_at points) row
  entry_is points vectors row are is = is (decoded_points index.book points) are ∙ ap (λ (ps : List ℕ). option_map (λ r. get_or ps r 0) row) (pids_decoded index points)

  -- ---- the survivors

  base_left : (left : List Point) (new : List NewPoint) → (left ≡ [] → new ≡ []) → base_points index left new ≡ left
  base_left [] new none = ap (λ (xs : List NewPoint). first_base index (take base_size xs)) (none refl)
  base_left (x ∷ left) new none = refl

  links_decoded : (points : List Point) → map (λ (x : Point). x.links) (decoded_points index.book points) ≡ map (λ (x : Point). x.links) points
  links_decoded [] = refl
  links_decoded (x ∷ points) = ap (λ t. x.links ∷ t) (links_decoded points)

  module _ (left : List Point) (lists : List (List ℕ)) (b : BaseView) (is : IsBaseOf lists (vectors_of (decoded_points index.book left)) b) (rising : IsStrictlyIncreasing (pids_of left)) where
    abbrev known : List Point
    known = decoded_points index.book left

    are_rows : AreRowsOf known (vectors_of known)
    are_rows = record { rising = subst IsStrictlyIncreasing (sym (pids_decoded index left)) rising; same = refl }

    known_stands : All (λ v. length v ≡ index.params.d) (vectors_of known) → map (λ (x : Point). x.links) left ≡ map (map (pid_at left)) lists → StandsFor (record { entry = central index.params.d known; points = known }) b
    known_stands wide links = record {
      rows = record { rising = are_rows.rising; same = sym is.vectors };
      links =
          links_decoded left
          ∙ links
          ∙ ap (λ (ps : List ℕ). map (map (λ row. get_or ps row 0)) lists) (sym (pids_decoded index left))
          ∙ ap (map (map (pid_at known))) (sym is.lists);
      entry = central_wide index.params.d (vectors_of known) b.entry wide is.entry known are_rows;
    }

    -- A base of the rows of what survives stands for the base of the definition, where a point survives or none is new.
    pub survivors_stand : (new : List NewPoint) → (left ≡ [] → new ≡ []) → All (λ v. length v ≡ index.params.d) (vectors_of known) → map (λ (x : Point). x.links) left ≡ map (map (pid_at left)) lists → StandsFor (decoded_graph index.book (base_of index left new)) b
    unfolding base_of
    survivors_stand new none wide links =
        subst (λ (ps : List Point). StandsFor (record { entry = central index.params.d (decoded_points index.book ps); points = decoded_points index.book ps }) b)
        (sym (base_left left new none)) (known_stands wide links)
