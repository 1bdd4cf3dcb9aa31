-- The blocks of a piece are those that the text of the merged graph has at its rows.
use Rattle.std.proofs.Common.{◌≡◌, ℕ, ◌+◌, ◌-◌, ◌≤◌, ◌<◌, List, [], ◌∷◌, ◌++◌, refl, sym, ap, ap₂, subst, ◌∙◌, arith, length, map, flat_map, get_or, take, drop, inl, inr}
use Rattle.std.specs.Prelude.{Option, None, Some}
use Rattle.std.specs.List.{AllByRecursion, concat}
use Rattle.std.proofs.lemmas.Bool.{cases_lt}
use Rattle.std.proofs.lemmas.List.{get_or-map, get_or_append_left, get_or-append_right, get_or-drop, get_or-take, get_or_default, length-append, length-drop, length-map, length-take, map-append, same_lists}
use Rattle.std.proofs.lemmas.List.Elements.{All-get_or, All-from_recursion, recursion_from_All}
use Rattle.ann_types.specs.Order.{ascending}
use Rattle.ann_types.specs.Distance.{distance}
use Rattle.ann_types.specs.Kept.{Rule, rule_of, within}
use Rattle.ann_types.specs.Graph.{Point, Graph, apart_in, pids_of, with_vector}
use Rattle.ann_types.specs.Codes.{decoded, decoded_points}
use Rattle.ann_types.specs.Fold.{new_point}
use Rattle.ann_types.specs.Index.{Index, IsBookOf}
use Rattle.ann_types.specs.Merge.{delta, patched, patch_phase}
use Rattle.ann_types.specs.Rows.{pid_at}
use Rattle.ann_types.specs.declared.new_point.NewPoint.{NewPoint}
use Rattle.ann_types.specs.declared.params.Params.{Params}
use Rattle.ann_types.proofs.Merges.{pids_decoded, pids_patch}
use Rattle.ann_types.proofs.Neighbours.{within_all}
use Rattle.ann_types.proofs.Renamed.{Below, IsRise, ascending_map, below_in_order, within_map}
use Rattle.ann_types.proofs.Rowed.{apart_at, pid_of_at, pids_rise_at}
use Rattle.ann_types.proofs.Sets.{Rises, rises_from_increasing}
use Rattle.ann_block.specs.Node.{NodeFields, node_bytes, node_of}
use Rattle.ann_segment.specs.Directory.{Item}
use Rattle.ann_segment.specs.Segment.{SegmentView}
use Rattle.ann_segment.specs.Text.{node_for, row_of}
use Rattle.ann_segment.proofs.Holding.{holds_row, row_is}
use Rattle.ann_mdelete.specs.Decoded.{apart_of}
use Rattle.ann_mpatch.specs.Source.{point_in, source_of}
use Rattle.ann_mpatch.specs.Plan.{IsPlan, merged_list, new_at, patched_list, piece_size, row_count, segment_in, source_for, survivor_at}
use Rattle.ann_mpatch.specs.Patched.{HasPatched, IsBlockOf, Standing, block_of}
use Rattle.ann_mpatch.specs.Phase.{AreMerged, HoldsOld, IsPlanOf, point_at}
use Rattle.ann_mpatch.specs.declared.plan.PatchPlan.{PatchPlan}
use Rattle.ann_mpatch.proofs.Listed.{joined_rows, later_rows, list_later, list_patched}

no_point : Point
no_point = record { pid = 0; tag = 0; vector = []; links = [] }

-- ---- a survivor's point is that of the long-term graph

module _ {S : Type 0} (bytes : S → List ℕ) (index : Index) (lti : Graph) where
  old_point_is : (o : Option (SegmentView S)) (row : ℕ) (page : List ℕ) → HoldsOld bytes index o lti → IsBookOf index.params index.book → row < row_count o → page ≡ (source_of bytes o).sealed row → point_in (source_of bytes o) index.params.d row page ≡ new_point (point_at lti row)
  old_point_is None row page held book below is = absurd (omega arith)
  old_point_is (Some segment) row page held book below is =
      let at = holds_row index.params index.book (bytes segment.seal) segment lti held book.parts row below in
      let node : node_of index.params.d page ≡ record { tag = (point_at lti row).tag; vector = (point_at lti row).vector; neighbours = map (row_of lti.points) (point_at lti row).links } = ap (node_of index.params.d) is ∙ at.node in
      ap₂ (λ (i : Item) (n : NodeFields). record { pid = i.0; tag = n.tag; vector = n.vector }) at.item node

-- ---- lists

map_both : {A B C : Type 0} (f : A → B) (g : B → C) (h : A → C) (xs : List A) → ((x : A) → g (f x) ≡ h x) → map g (map f xs) ≡ map h xs
map_both f g h [] same = refl
map_both f g h (x ∷ xs) same = ap (λ y. y ∷ map g (map f xs)) (same x) ∙ ap (λ t. h x ∷ t) (map_both f g h xs same)

map_back : (f g : ℕ → ℕ) (n : ℕ) (xs : List ℕ) → ((x : ℕ) → x < n → g (f x) ≡ x) → Below n xs → map g (map f xs) ≡ xs
map_back f g n [] back below = refl
map_back f g n (x ∷ xs) back (h, below) = ap₂ (λ (y : ℕ) (t : List ℕ). y ∷ t) (back x h) (map_back f g n xs back below)

concat_map : {A : Type 0} (f : A → List ℕ) (xs : List A) → concat (map f xs) ≡ flat_map f xs
concat_map f [] = refl
concat_map f (x ∷ xs) = ap (λ t. f x ++ t) (concat_map f xs)

-- ---- the plan is that of a Patch phase

module _ {S : Type 0} (bytes : S → List ℕ) (plan : PatchPlan S) (w : IsPlan plan) (index : Index) (lti : Graph) (base new : List Point) (p : IsPlanOf index lti base new plan) (held : HoldsOld bytes index (segment_in plan) lti) where
  abbrev all : List Point
  all = base ++ new

  abbrev count : ℕ
  count = length all

  abbrev pid : ℕ → ℕ
  pid = pid_at all

  abbrev rule : Rule
  rule = rule_of index.params

  abbrev known : List Point
  known = decoded_points index.book all

  abbrev far : ℕ → ℕ → ℕ
  far = apart_in known

  abbrev back : Point → Point
  back = patched rule far new

  abbrev points : List Point
  points = (patch_phase index base new).points

  -- ---- how many there are

  decoded_count : length plan.decoded ≡ length all
  decoded_count = ap length p.vectors ∙ length-map all (λ (x : Point). decoded index.book x.vector)

  base_count : length plan.base ≡ length base
  base_count = sym (length-map plan.base (map pid)) ∙ sym (ap length p.own) ∙ length-map base (λ (x : Point). x.links)

  delta_count : length plan.delta ≡ length base
  delta_count = sym (length-map plan.delta (map pid)) ∙ sym (ap length p.added) ∙ length-map base (λ (x : Point). delta new x.pid)

  links_count : length plan.links ≡ length new
  links_count = sym (length-map plan.links (map pid)) ∙ sym (ap length p.links) ∙ length-map new (λ (x : Point). x.links)

  both_count : length all ≡ length base + length new
  both_count = length-append base new

  points_are : points ≡ map back base ++ new
  unfolding patch_phase
  points_are = refl

  points_count : length points ≡ length all
  points_count = ap length points_are ∙ length-append (map back base) new ∙ (let size = length-map base back in let both = both_count in omega arith)

  -- ---- Pids

  pids_are : pids_of points ≡ pids_of all
  pids_are = pids_patch index base new ∙ sym (map-append (λ (x : Point). x.pid) base new)

  rises : Rises (pids_of all)
  rises = rises_from_increasing (pids_of all) p.rising

  rise : IsRise pid (length all)
  rise = pids_rise_at all rises

  row_back : (row : ℕ) → row < length all → row_of points (pid row) ≡ row
  row_back row below =
      ap (λ (ps : List ℕ). row_of points (get_or ps row 0)) (sym pids_are)
      ∙ row_is points row (subst Rises (sym pids_are) rises) (let size = points_count in omega arith)

  -- ---- distances

  known_vector : (row : ℕ) → row < length all → (get_or known row (with_vector (decoded index.book []) no_point)).vector ≡ get_or plan.decoded row []
  known_vector row below =
      ap (λ (x : Point). x.vector) (get_or-map (λ (x : Point). with_vector (decoded index.book x.vector) x) all row no_point (with_vector (decoded index.book []) no_point) below)
      ∙ sym (ap (λ (t : List (List ℕ)). get_or t row []) p.vectors ∙ get_or-map (λ (x : Point). decoded index.book x.vector) all row no_point [] below)

  same_far : (r s : ℕ) → r < length all → s < length all → far (pid r) (pid s) ≡ apart_of plan.decoded r s
  same_far r s l m =
      let size = length-map all (λ (x : Point). with_vector (decoded index.book x.vector) x) in
      ap (λ (ps : List ℕ). far (get_or ps r 0) (get_or ps s 0)) (sym (pids_decoded index all))
      ∙ apart_at known r s (with_vector (decoded index.book []) no_point) (subst Rises (sym (pids_decoded index all)) rises) (omega arith) (omega arith)
      ∙ ap₂ (λ (x y : List ℕ). distance x y) (known_vector r l) (known_vector s m)

  -- ---- the points without their neighbours

  bare_are : map new_point points ≡ map (λ row. new_point (point_at lti row)) plan.survivors.items ++ plan.points.items
  bare_are =
      ap (map new_point) points_are
      ∙ map-append new_point (map back base) new
      ∙ ap (λ (t : List NewPoint). t ++ map new_point new) (map_both back new_point new_point base (λ x. refl))
      ∙ sym (map-append new_point base new)
      ∙ p.points

  bare_at : (row : ℕ) (e : NewPoint) → row < length all → new_point (get_or points row no_point) ≡ get_or (map (λ row. new_point (point_at lti row)) plan.survivors.items ++ plan.points.items) row e
  bare_at row e below =
      sym (get_or-map new_point points row no_point e (let size = points_count in omega arith))
      ∙ ap (λ (t : List NewPoint). get_or t row e) bare_are

  bare_old : (row : ℕ) → row < length all → row < length plan.survivors.items → new_point (get_or points row no_point) ≡ new_point (point_at lti (survivor_at plan row))
  bare_old row below old =
      let e : NewPoint = record { pid = 0; tag = 0; vector = [] } in
      bare_at row e below
      ∙ get_or_append_left (map (λ row. new_point (point_at lti row)) plan.survivors.items) plan.points.items e row (let size = length-map plan.survivors.items (λ row. new_point (point_at lti row)) in omega arith)
      ∙ get_or-map (λ row. new_point (point_at lti row)) plan.survivors.items row 0 e old

  bare_new : (row : ℕ) → row < length all → length plan.survivors.items ≤ row → new_point (get_or points row no_point) ≡ new_at plan row
  bare_new row below past =
      let e : NewPoint = record { pid = 0; tag = 0; vector = [] } in
      bare_at row e below
      ∙ get_or-append_right (map (λ row. new_point (point_at lti row)) plan.survivors.items) plan.points.items (length plan.survivors.items) row e (length-map plan.survivors.items (λ row. new_point (point_at lti row))) past

  -- ---- the neighbours, by rows

  base_at : (row : ℕ) → row < length base → get_or points row no_point ≡ back (get_or base row no_point)
  base_at row below =
      ap (λ (t : List Point). get_or t row no_point) points_are
      ∙ get_or_append_left (map back base) new no_point row (let size = length-map base back in omega arith)
      ∙ get_or-map back base row no_point no_point below

  base_pid : (row : ℕ) → row < length base → (get_or base row no_point).pid ≡ pid row
  base_pid row below =
      sym (pid_of_at all row no_point (let both = both_count in omega arith) ∙ ap (λ (x : Point). x.pid) (get_or_append_left base new no_point row below))

  own_links : (row : ℕ) → row < length base → (get_or base row no_point).links ≡ map pid (get_or plan.base row [])
  own_links row below =
      sym (get_or-map (λ (x : Point). x.links) base row no_point [] below)
      ∙ ap (λ (t : List (List ℕ)). get_or t row []) p.own
      ∙ get_or-map (map pid) plan.base row [] [] (let size = base_count in omega arith)

  new_links : (row : ℕ) → row < length base → delta new (get_or base row no_point).pid ≡ map pid (get_or plan.delta row [])
  new_links row below =
      sym (get_or-map (λ (x : Point). delta new x.pid) base row no_point [] below)
      ∙ ap (λ (t : List (List ℕ)). get_or t row []) p.added
      ∙ get_or-map (map pid) plan.delta row [] [] (let size = delta_count in omega arith)

  joined_below : (row : ℕ) → row < length base → Below (length all) (get_or plan.base row [] ++ get_or plan.delta row [])
  joined_below row below =
      subst (λ (n : ℕ). Below n (get_or plan.base row [] ++ get_or plan.delta row [])) decoded_count
      (recursion_from_All (λ other. other < length plan.decoded) (get_or plan.base row [] ++ get_or plan.delta row []) (joined_rows plan w row (let size = base_count in omega arith)).others)

  patched_links : (row : ℕ) → row < length base → (get_or points row no_point).links ≡ map pid (patched_list plan row)
  patched_links row below =
      let own : List ℕ = get_or plan.base row [] in
      let more : List ℕ = get_or plan.delta row [] in
      let inside : row < length all = (let both = both_count in omega arith) in
      ap (λ (x : Point). x.links) (base_at row below)
      ∙ ap (λ (q : ℕ). within rule far q (ascending ((get_or base row no_point).links ++ delta new (get_or base row no_point).pid))) (base_pid row below)
      ∙ ap₂ (λ (x y : List ℕ). within rule far (pid row) (ascending (x ++ y))) (own_links row below) (new_links row below)
      ∙ ap (λ (t : List ℕ). within rule far (pid row) (ascending t)) (sym (map-append pid own more))
      ∙ ap (within rule far (pid row)) (ascending_map pid (length all) rise (own ++ more) (joined_below row below))
      ∙ within_map pid (length all) rise rule (apart_of plan.decoded) far same_far row (ascending (own ++ more)) inside (below_in_order (length all) (λ _. 0) (own ++ more) (joined_below row below))
      ∙ ap (λ (ps : Params). map pid (within (rule_of ps) (apart_of plan.decoded) row (ascending (own ++ more)))) (sym p.params)

  patched_below : (row : ℕ) → row < length base → Below (length all) (patched_list plan row)
  patched_below row below =
      let own : List ℕ = get_or plan.base row [] in
      let more : List ℕ = get_or plan.delta row [] in
      recursion_from_All (λ other. other < length all) (patched_list plan row)
      (within_all (λ other. other < length all) (rule_of plan.params) (apart_of plan.decoded) row (ascending (own ++ more))
      (All-from_recursion (λ other. other < length all) (ascending (own ++ more)) (below_in_order (length all) (λ _. 0) (own ++ more) (joined_below row below))))

  later_at : (row : ℕ) → length base ≤ row → get_or points row no_point ≡ get_or new (row - length base) no_point
  later_at row past =
      ap (λ (t : List Point). get_or t row no_point) points_are
      ∙ get_or-append_right (map back base) new (length base) row no_point (length-map base back) past

  later_links : (row : ℕ) → length base ≤ row → row < length all → (get_or points row no_point).links ≡ map pid (get_or plan.links (row - length plan.base) [])
  later_links row past below =
      ap (λ (x : Point). x.links) (later_at row past)
      ∙ sym (get_or-map (λ (x : Point). x.links) new (row - length base) no_point [] (let both = both_count in omega arith))
      ∙ ap (λ (t : List (List ℕ)). get_or t (row - length base) []) p.links
      ∙ get_or-map (map pid) plan.links (row - length base) [] [] (let size = links_count in let both = both_count in omega arith)
      ∙ ap (λ (n : ℕ). map pid (get_or plan.links (row - n) [])) (sym base_count)

  later_below : (row : ℕ) → length base ≤ row → row < length all → Below (length all) (get_or plan.links (row - length plan.base) [])
  later_below row past below =
      let size = base_count in
      let all_rows = decoded_count in
      let both = both_count in
      narrow (get_or plan.links (row - length plan.base) [])
      (recursion_from_All (λ other. (0 ≤ other) × (other < length plan.base)) (get_or plan.links (row - length plan.base) []) (later_rows plan w row (omega arith) (omega arith)).inside)
    where
      narrow : (xs : List ℕ) → AllByRecursion (λ other. (0 ≤ other) × (other < length plan.base)) xs → Below (length all) xs
      narrow [] a = tt
      narrow (x ∷ xs) (h, a) = ((let size = base_count in let both = both_count in let l = h.1 in omega arith), narrow xs a)

  -- the rows of the neighbours of a row's point are its merged list
  links_are : (row : ℕ) → row < length all → map (row_of points) (get_or points row no_point).links ≡ merged_list plan row
  links_are row below = elim (cases_lt row (length base)) [
    | inl first ↦
        ap (map (row_of points)) (patched_links row first)
        ∙ map_back pid (row_of points) (length all) (patched_list plan row) row_back (patched_below row first)
        ∙ sym (list_patched plan row (let size = base_count in omega arith))
    | inr past ↦
        ap (map (row_of points)) (later_links row past below)
        ∙ map_back pid (row_of points) (length all) (get_or plan.links (row - length plan.base) []) row_back (later_below row past below)
        ∙ sym (list_later plan row (let size = base_count in omega arith))
  ]

  -- ---- blocks

  block_is : (row : ℕ) → row < length all → node_for points (get_or points row no_point) ≡ block_of (new_point (get_or points row no_point)) (merged_list plan row)
  block_is row below =
      let x : Point = get_or points row no_point in
      ap (λ (t : List ℕ). node_bytes x.pid x.tag x.vector t) (links_are row below)

  module _ (tells : Type 0) (told : tells) where
    row_block_is : (row : ℕ) (block : List ℕ) → row < length all → IsBlockOf tells bytes plan row block → block ≡ node_for points (get_or points row no_point)
    row_block_is row block below is = elim (cases_lt row (length plan.survivors.items)) [
      | inl old ↦ (
          let read = is.old old in
          let inside : survivor_at plan row < row_count (segment_in plan) = All-get_or (λ other. other < row_count (segment_in plan)) plan.survivors.items row 0 old w.survivors in
          read.is
          ∙ ap (λ (ps : Params). block_of (point_in (source_for bytes plan) ps.d (survivor_at plan row) read.page) (merged_list plan row)) p.params
          ∙ ap (λ (x : NewPoint). block_of x (merged_list plan row)) (old_point_is bytes index lti (segment_in plan) (survivor_at plan row) read.page held p.book inside (read.read.told told) ∙ sym (bare_old row below old))
          ∙ sym (block_is row below))
      | inr past ↦ is.new past ∙ ap (λ (x : NewPoint). block_of x (merged_list plan row)) (sym (bare_new row below past)) ∙ sym (block_is row below)
    ]

    pub piece_is : (first : ℕ) (old new' : Standing) → HasPatched tells bytes plan first (piece_size plan first) old new' → old.blocks ≡ [] → new'.blocks ≡ flat_map (node_for points) (take 256 (drop first points))
    piece_is first old new' a none =
        let rows : List Point = take 256 (drop first points) in
        let size = length-take 256 (drop first points) in
        let rest = length-drop first points in
        let many = points_count in
        let vectors = decoded_count in
        let count_is = a.count in
        let mapped = length-map rows (node_for points) in
        a.added
        ∙ ap (λ (t : List ℕ). t ++ concat a.blocks) none
        ∙ ap concat (same_lists a.blocks (map (node_for points) rows) (omega arith) (λ k d l.
        let row : ℕ = first + k in
        let within : k < length rows = omega arith in
        get_or_default a.blocks k d [] l
        ∙ row_block_is row (get_or a.blocks k []) (omega arith) (a.each k (omega arith))
        ∙ ap (node_for points) (sym (get_or-take 256 (drop first points) k no_point (omega arith) ∙ get_or-drop first points k no_point))
        ∙ sym (get_or-map (node_for points) rows k no_point d within)))
        ∙ concat_map (node_for points) rows

pub pieces_merged : {S : Type 0} (tells : Type 0) (bytes : S → List ℕ) (plan : PatchPlan S) (first : ℕ) (old new : Standing) → tells → IsPlan plan → HasPatched tells bytes plan first (piece_size plan first) old new → old.blocks ≡ [] → AreMerged bytes plan first new.blocks
pieces_merged tells bytes plan first old new told w a none index lti base more p held = piece_is bytes plan w index lti base more p held tells told first old new a none
