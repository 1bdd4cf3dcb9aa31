-- A walk and a prune by rows of a base are those of each graph that the base stands for.
use Rattle.std.proofs.Common.{◌≡◌, ◌≢◌, ℕ, ◌<◌, ◌+◌, List, [], ◌∷◌, ◌++◌, refl, sym, ap, subst, ◌∙◌, arith, map, length, get_or}
use Rattle.std.specs.Prelude.{Option, Some, None, MatchOption, option_map}
use Rattle.std.specs.List.{All, AllByRecursion}
use Rattle.std.proofs.Math.ListN.{get_or-map}
use Rattle.std.proofs.Math.Seq.{get_or-append_seam}
use Rattle.std.proofs.lemmas.List.{length-map, length-append, map-append, get_or_append_left, map-id}
use Rattle.std.proofs.lemmas.List.Elements.{recursion_from_All, All-from_recursion, All-weaker}
use Rattle.ann_types.specs.Distance.{distance}
use Rattle.ann_types.specs.Codes.{Book, decoded, decoded_graph}
use Rattle.ann_types.specs.Kept.{rule_of, kept}
use Rattle.ann_types.specs.Graph.{Point, Graph, pids_of, links_of, apart_in, ground, visited, visited_from}
use Rattle.ann_types.specs.Index.{Index}
use Rattle.ann_types.specs.Merge.{linked}
use Rattle.ann_types.specs.Put.{alone}
use Rattle.ann_types.specs.Rows.{pid_at, AreNeighbours}
use Rattle.ann_types.specs.Walk.{visited_of}
use Rattle.ann_types.specs.declared.params.Params.{Params}
use Rattle.ann_types.specs.declared.new_point.NewPoint.{NewPoint}
use Rattle.ann_types.proofs.Sets.{Rises, increasing_from_rises, rises_push}
use Rattle.ann_types.proofs.Keeps.{kept_inside}
use Rattle.ann_types.proofs.Graphs.{all_from_has, has_all}
use Rattle.ann_types.proofs.Merges.{pids_decoded}
use Rattle.ann_types.proofs.Neighbours.{kept_may}
use Rattle.ann_types.proofs.Renamed.{Below, IsRise, Renames, visited_map, kept_map, below_visited}
use Rattle.ann_types.proofs.Rowed.{pids_rise_at, links_at, apart_at, renames_at}
use Rattle.ann_greedy.specs.Rows.{ground_at, visited_rows}
use Rattle.ann_mdelete.specs.Decoded.{apart_of}
use Rattle.ann_minsert.specs.Mean.{AreRowsOf, far_of}
use Rattle.ann_minsert.specs.Base.{BaseView, IsBase, StandsFor, rows_of}
use Rattle.ann_minsert.specs.Links.{seen_rows, linked_rows, IsBehind, AreLinked}
use Rattle.ann_minsert.proofs.Firsts.{count_is, rises, vector_is, far_is}

abbrev nowhere : Point
nowhere = alone 0 0 []

map_below : (n : ℕ) (f g : ℕ → ℕ) (xs : List ℕ) → Below n xs → ((x : ℕ) → x < n → f x ≡ g x) → map f xs ≡ map g xs
map_below n f g [] a same = refl
map_below n f g (x ∷ xs) (h, a) same = ap (λ y. y ∷ map f xs) (same x h) ∙ ap (λ t. g x ∷ t) (map_below n f g xs a same)

-- ---- a walk of a base stays in it

module _ (b : BaseView) (sound : IsBase b) where
  links_below : (row : ℕ) → row < length b.vectors → Below (length b.vectors) (get_or b.lists row [])
  links_below row l =
      let count = sound.lists.count in
      subst (λ n. Below n (get_or b.lists row [])) count
      (recursion_from_All (λ other. other < length b.lists) (get_or b.lists row []) (sound.lists.links row (omega arith)).inside)

  renames_itself : (query : List ℕ) (entry : ℕ) → entry < length b.vectors → Renames (λ r. r) (length b.vectors) (ground_at (rows_of b) query entry) (ground_at (rows_of b) query entry)
  renames_itself query entry l = record {
    rise = λ r s m n. m;
    entry = refl;
    links = λ r m. sym (map-id (get_or b.lists r []));
    far = λ r m. refl;
    entry_in = l;
    links_in = links_below;
  }

  below_from : (query : List ℕ) (width : ℕ) (e : Option ℕ) → MatchOption e (b.vectors ≡ []) (λ row. row < length b.vectors) → Below (length b.vectors) (visited_rows (rows_of b) query width e)
  below_from query width None m = tt
  below_from query width (Some entry) m =
      below_visited (λ r. r) (length b.vectors) (ground_at (rows_of b) query entry) (ground_at (rows_of b) query entry) (renames_itself query entry m) width (length b.vectors)

  pub seen_below : (params : Params) (query : List ℕ) → Below (length b.vectors) (seen_rows params b query)
  seen_below params query = below_from query params.l_build b.entry sound.entered

-- ---- a walk of a base is that of a graph

module _ (known : Graph) (b : BaseView) (stands : StandsFor known b) (sound : IsBase b) where
  abbrev points : List Point
  points = known.points

  links_is : (row : ℕ) → row < length points → links_of points (pid_at points row) ≡ map (pid_at points) (get_or b.lists row [])
  links_is row l =
      links_at points row nowhere (rises points b.vectors stands.rows) l
      ∙ sym (get_or-map (λ (x : Point). x.links) points row nowhere)
      ∙ ap (λ t. get_or t row []) stands.links
      ∙ get_or-map (map (pid_at points)) b.lists row []

  inside_is : (row : ℕ) → row < length points → Below (length points) (get_or b.lists row [])
  inside_is row l =
      let n = count_is points b.vectors stands.rows in
      subst (λ k. Below k (get_or b.lists row [])) (sym n) (links_below b sound row (omega arith))

  renames_is : (query : List ℕ) (entry : ℕ) → entry < length points → Renames (pid_at points) (length points) (ground_at (rows_of b) query entry) (ground points query (pid_at points entry))
  renames_is query entry l = renames_at points query entry (λ row. get_or b.lists row []) (far_of b.vectors query) (rises points b.vectors stands.rows) l links_is inside_is (far_is points b.vectors stands.rows query)

  from_entry : (query : List ℕ) (width : ℕ) (e : Option ℕ) → MatchOption e (b.vectors ≡ []) (λ row. row < length b.vectors) → visited_from points query width (option_map (pid_at points) e) ≡ map (pid_at points) (visited_rows (rows_of b) query width e)
  from_entry query width None m = refl
  from_entry query width (Some entry) m =
      let n = count_is points b.vectors stands.rows in
      visited_map (pid_at points) (length points) (ground_at (rows_of b) query entry) (ground points query (pid_at points entry)) (renames_is query entry (omega arith)) width (length points)
      ∙ ap (λ k. map (pid_at points) (visited_of (ground_at (rows_of b) query entry) width k)) n

  -- Visited of the graph is that of the rows.
  pub visited_is : (query : List ℕ) (width : ℕ) → visited known query width ≡ map (pid_at points) (visited_rows (rows_of b) query width b.entry)
  visited_is query width = ap (visited_from points query width) stands.entry ∙ from_entry query width b.entry sound.entered

-- ---- a point more

module _ (points : List Point) (vectors : List (List ℕ)) (are : AreRowsOf points vectors) (own : Point) (above : AllByRecursion (λ p. p < own.pid) (pids_of points)) where
  abbrev pub more : List Point
  more = points ++ own ∷ []

  abbrev pub wider : List (List ℕ)
  wider = vectors ++ own.vector ∷ []

  pub more_are : AreRowsOf more wider
  more_are = record {
    rising = increasing_from_rises (pids_of more) (subst Rises (sym (map-append (λ (x : Point). x.pid) points (own ∷ []))) (rises_push (pids_of points) own.pid (rises points vectors are) above));
    same = map-append (λ (x : Point). x.vector) points (own ∷ []) ∙ ap (λ t. t ++ own.vector ∷ []) are.same;
  }

  size_is : length more ≡ length vectors + 1
  size_is = let n = count_is points vectors are in let m = length-append points (own ∷ []) in omega arith

  pub old_pid : (row : ℕ) → row < length vectors → pid_at more row ≡ pid_at points row
  old_pid row l =
      let n = count_is points vectors are in
      let k = length-map points (λ (x : Point). x.pid) in
      ap (λ t. get_or t row 0) (map-append (λ (x : Point). x.pid) points (own ∷ []))
      ∙ get_or_append_left (pids_of points) (own.pid ∷ []) 0 row (omega arith)

  pub own_pid : pid_at more (length vectors) ≡ own.pid
  own_pid =
      let n = count_is points vectors are in
      let k = length-map points (λ (x : Point). x.pid) in
      let same : length vectors ≡ length (pids_of points) = omega arith in
      ap (λ t. get_or t (length vectors) 0) (map-append (λ (x : Point). x.pid) points (own ∷ []))
      ∙ ap (λ i. get_or (pids_of points ++ own.pid ∷ []) i 0) same
      ∙ get_or-append_seam (pids_of points) own.pid [] 0

  apart_is : (r s : ℕ) → r < length more → s < length more → apart_in more (pid_at more r) (pid_at more s) ≡ apart_of wider r s
  apart_is r s l m =
      apart_at more r s nowhere (rises more wider more_are) l m
      ∙ ap (λ v. distance v (get_or more s nowhere).vector) (vector_is more wider more_are r)
      ∙ ap (distance (get_or wider r [])) (vector_is more wider more_are s)

  -- What the point keeps of others by Pids is what its row keeps of theirs.
  pub kept_is : (params : Params) (rows : List ℕ) → Below (length vectors) rows → kept (rule_of params) (apart_in more) own.pid (map (pid_at points) rows) ≡ map (pid_at points) (kept (rule_of params) (apart_of wider) (length vectors) rows)
  kept_is params rows below =
      let size = size_is in
      let rise : IsRise (pid_at more) (length more) = pids_rise_at more (rises more wider more_are) in
      let inside : Below (length more) rows = wider_below (length vectors) (length more) rows (omega arith) below in
      ap (λ p. kept (rule_of params) (apart_in more) p (map (pid_at points) rows)) (sym own_pid)
      ∙ ap (kept (rule_of params) (apart_in more) (pid_at more (length vectors))) (sym (map_below (length vectors) (pid_at more) (pid_at points) rows below old_pid))
      ∙ kept_map (pid_at more) (length more) rise (rule_of params) (apart_of wider) (apart_in more) apart_is (length vectors) rows (omega arith) inside
      ∙ map_below (length vectors) (pid_at more) (pid_at points) (kept (rule_of params) (apart_of wider) (length vectors) rows)
      (all_from_has (λ r. r < length vectors) (kept (rule_of params) (apart_of wider) (length vectors) rows)
      (λ p h. has_all (λ r. r < length vectors) rows p below (kept_inside (rule_of params) (apart_of wider) (length vectors) rows p h))) old_pid
    where
      wider_below : (m n : ℕ) (xs : List ℕ) → m < n → Below m xs → Below n xs
      wider_below m n [] l a = tt
      wider_below m n (x ∷ xs) l (h, a) = (omega arith, wider_below m n xs l a)

-- ---- a new point linked

module _ (params : Params) (book : Book) (b : BaseView) (sound : IsBase b) where
  -- What a row keeps is what its point keeps, in whichever graph the base stands for.
  pub linked_is : (x : NewPoint) (g : Graph) → StandsFor (decoded_graph book g) b → IsBehind g x → map (pid_at g.points) (linked_rows params book b x) ≡ (linked (record { params = params; book = book }) g x).links
  linked_is x g stands behind =
      let index : Index = record { params = params; book = book } in
      let known : Graph = decoded_graph book g in
      let own : Point = alone x.pid x.tag (decoded book x.vector) in
      let pids : pids_of known.points ≡ pids_of g.points = pids_decoded index g.points in
      let all : AllByRecursion (λ p. p < x.pid) (pids_of known.points) = subst (AllByRecursion (λ p. p < x.pid)) (sym pids) (recursion_from_All (λ p. p < x.pid) (pids_of g.points) behind) in
      ap (λ (ps : List ℕ). map (λ row. get_or ps row 0) (linked_rows params book b x)) (sym pids)
      ∙ sym (kept_is known.points b.vectors stands.rows own all params (seen_rows params b x.vector) (seen_below b sound params x.vector))
      ∙ ap (kept (rule_of params) (apart_in (known.points ++ own ∷ [])) x.pid) (sym (visited_is known b stands sound x.vector params.l_build))

  -- They are rows of the base.
  pub linked_may : (x : NewPoint) → AreNeighbours params (length b.vectors) (length b.vectors) (linked_rows params book b x)
  linked_may x =
      let n : ℕ = length b.vectors in
      let seen : List ℕ = seen_rows params b x.vector in
      let inside : All (λ row. row < n) seen = All-from_recursion (λ row. row < n) seen (seen_below b sound params x.vector) in
      kept_may params (apart_of (b.vectors ++ decoded book x.vector ∷ [])) n n seen inside (All-weaker (λ row. row < n) (λ row. row ≢ n) (λ row l e. omega arith) seen inside)

  pub links_are : (x : NewPoint) (rows : List ℕ) → rows ≡ linked_rows params book b x → AreLinked params book b x rows
  links_are x rows is = record {
    kept = is;
    defined = λ g stands behind. ap (map (pid_at g.points)) is ∙ linked_is x g stands behind;
    may = subst (AreNeighbours params (length b.vectors) (length b.vectors)) (sym is) (linked_may x);
  }
