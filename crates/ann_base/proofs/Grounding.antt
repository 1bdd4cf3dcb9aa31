-- The graph of a segment's nodes, and what it is where the segment holds a graph.
use Rattle.std.proofs.Common.{◌≡◌, ◌≢◌, ◌≤◌, ◌<◌, ℕ, zero, suc, ◌+◌, true, eq-eqb, eqb-true, List, [], ◌∷◌, inl, inr, refl, sym, ap, ap₂, subst, ◌∙◌, arith, map, take, length, get_or, AllPairs}
use Rattle.std.specs.Prelude.{Option, Some, None, All}
use Rattle.std.specs.List.{range_with_len, zip, AllByRecursion}
use Rattle.std.specs.Option.{option_map}
use Rattle.std.proofs.lemmas.Bool.{false≢true, both_ways, cases_order}
use Rattle.std.proofs.lemmas.List.{length-map, get_or-map}
use Rattle.std.proofs.lemmas.List.Elements.{recursion_from_All}
use Rattle.std.proofs.lemmas.List.FromFn.{get_or-map-range_with_len, fill_by_all}
use Rattle.ann_types.specs.Codes.{Book}
use Rattle.ann_types.specs.Graph.{Point, Graph, pids_of, IsGraphOf}
use Rattle.ann_types.specs.Lists.{IsBaseOf, names_of}
use Rattle.ann_types.specs.Order.{has}
use Rattle.ann_types.specs.Rows.{pid_at}
use Rattle.ann_types.specs.declared.params.Params.{Params}
use Rattle.ann_types.proofs.Graphs.{IsLinked, AreLinked, IsEntry, graph_of_from, entry_from_graph}
use Rattle.ann_types.proofs.Ordered.{has_here, has_later, has_cases}
use Rattle.ann_types.proofs.Renamed.{Below, IsRise}
use Rattle.ann_types.proofs.Rowed.{pids_rise_at, has_pid_at, pid_of_at}
use Rattle.ann_types.proofs.Sets.{Rises, rises_from_increasing, not_among}
use Rattle.ann_block.specs.Node.{NodeFields}
use Rattle.ann_segment.specs.Directory.{Item}
use Rattle.ann_segment.specs.Holds.{Holds}
use Rattle.ann_segment.specs.Segment.{SegmentView, IsSegment, IsEntryOf}
use Rattle.ann_segment.specs.Rows.{node_in}
use Rattle.ann_segment.specs.Text.{row_of}
use Rattle.ann_segment.proofs.Holding.{point_at, names_back, below_mapped, has_row, holds_linked, holds_count, holds_row}
use Rattle.ann_base.specs.Faults.{AreBelow}
use Rattle.ann_base.specs.Grounded.{base_over}
use Rattle.ann_base.specs.Nodes.{AreNodes, no_node, pid_of, point_in, points_from, graph_in, tags_of, named}
use Rattle.ann_base.specs.Tagged.{AreDistinct}
use Rattle.ann_base.proofs.Tagging.{item_pid}

abbrev blank : Point
blank = record { pid = 0; tag = 0; vector = []; links = [] }

-- ---- lists

has_pick : (xs : List ℕ) (i j : ℕ) → i < j → j ≤ length xs → has (take j xs) (get_or xs i 0) ≡ true
has_pick [] i j l m = absurd (omega arith)
has_pick (x ∷ xs) zero zero l m = absurd (omega arith)
has_pick (x ∷ xs) zero (suc j) l m = has_here x x (take j xs) (eq-eqb x x refl)
has_pick (x ∷ xs) (suc i) zero l m = absurd (omega arith)
has_pick (x ∷ xs) (suc i) (suc j) l m = has_later x (get_or xs i 0) (take j xs) (has_pick xs i j (omega arith) (omega arith))

map_below : {A : Type 0} (f g : ℕ → A) (n : ℕ) → ((r : ℕ) → r < n → f r ≡ g r) → (xs : List ℕ) → Below n xs → map f xs ≡ map g xs
map_below f g n same [] b = refl
map_below f g n same (x ∷ xs) (h, b) = ap₂ ◌∷◌ (same x h) (map_below f g n same xs b)

above_mapped : (f : ℕ → ℕ) (n x : ℕ) → IsRise f n → (xs : List ℕ) → Below n xs → AllByRecursion (λ y. x < y) xs → AllByRecursion (λ y. f x < y) (map f xs)
above_mapped f n x rise [] b a = tt
above_mapped f n x rise (y ∷ xs) (h, b) (k, a) = (rise x y k h, above_mapped f n x rise xs b a)

rises_mapped : (f : ℕ → ℕ) (n : ℕ) → IsRise f n → (xs : List ℕ) → Below n xs → Rises xs → Rises (map f xs)
rises_mapped f n rise [] b w = tt
rises_mapped f n rise (x ∷ xs) (h, b) (a, w) = (above_mapped f n x rise xs b a, rises_mapped f n rise xs b w)

-- each of a mapped list is a mapped one
pick_mapped : (f : ℕ → ℕ) (P : ℕ → Type 0) (xs : List ℕ) (p : ℕ) → AllByRecursion P xs → has (map f xs) p ≡ true → (r : ℕ) × P r × (f r ≡ p)
pick_mapped f P [] p a h = absurd (false≢true h)
pick_mapped f P (x ∷ xs) p (k, a) h = elim (has_cases (f x) p (map f xs) h) [
  | inl here ↦ (x, k, sym (eqb-true p (f x) here))
  | inr there ↦ pick_mapped f P xs p a there
]

all_both : {A : Type 0} (P Q : A → Type 0) (xs : List A) → AllByRecursion P xs → AllByRecursion Q xs → AllByRecursion (λ x. P x × Q x) xs
all_both P Q [] a b = tt
all_both P Q (x ∷ xs) (h, a) (k, b) = ((h, k), all_both P Q xs a b)

-- ---- points of nodes, row by row

module _ {S : Type 0} (segment : SegmentView S) where
  length-points : (row : ℕ) (nodes : List NodeFields) → length (points_from segment row nodes) ≡ length nodes
  length-points row [] = refl
  length-points row (n ∷ nodes) = let rest = length-points (row + 1) nodes in omega arith

  get_point : (row : ℕ) (nodes : List NodeFields) (i : ℕ) (d : Point) → i < length nodes → get_or (points_from segment row nodes) i d ≡ point_in segment (row + i) (get_or nodes i no_node)
  get_point row [] i d l = absurd (omega arith)
  get_point row (n ∷ nodes) zero d l = ap (λ (r : ℕ). point_in segment r n) (let e : row ≡ row + 0 = omega arith in e)
  get_point row (n ∷ nodes) (suc i) d l = get_point (row + 1) nodes i d (omega arith) ∙ ap (λ (r : ℕ). point_in segment r (get_or nodes i no_node)) (let e : (row + 1) + i ≡ row + suc i = omega arith in e)

  pids_from : (row : ℕ) (nodes : List NodeFields) → pids_of (points_from segment row nodes) ≡ map (pid_of segment) (range_with_len row (length nodes))
  pids_from row [] = refl
  pids_from row (n ∷ nodes) = ap (λ t. pid_of segment row ∷ t) (pids_from (row + 1) nodes)

  names_from : (row : ℕ) (nodes : List NodeFields) → names_of (points_from segment row nodes) ≡ zip (tags_of nodes) (map (pid_of segment) (range_with_len row (length nodes)))
  names_from row [] = refl
  names_from row (n ∷ nodes) = ap (λ t. (n.tag, pid_of segment row) ∷ t) (names_from (row + 1) nodes)

  item_pids : map (λ (x : Item). x.0) segment.items ≡ map (pid_of segment) (range_with_len 0 (length segment.items))
  item_pids = fill_by_all (pid_of segment) (map (λ (x : Item). x.0) segment.items) (length segment.items) 0 (length-map segment.items (λ (x : Item). x.0)) (λ k l. item_pid segment.items k)

-- ---- the graph of all rows

module _ {S : Type 0} (segment : SegmentView S) (params : Params) (nodes : List NodeFields) (sound : AreNodes segment params nodes) (all : length nodes ≡ length segment.items) (known : IsSegment segment) where
  abbrev points : List Point
  points = points_from segment 0 nodes

  pub pids_are : pids_of points ≡ map (λ (x : Item). x.0) segment.items
  pids_are = pids_from segment 0 nodes ∙ ap (λ (n : ℕ). map (pid_of segment) (range_with_len 0 n)) all ∙ sym (item_pids segment)

  pub names_are : names_of points ≡ named segment (tags_of nodes)
  names_are = names_from segment 0 nodes ∙ ap (zip (tags_of nodes)) (ap (λ (n : ℕ). map (pid_of segment) (range_with_len 0 n)) all ∙ sym (item_pids segment))

  rises : Rises (pids_of points)
  rises = subst Rises (sym pids_are) (rises_from_increasing (map (λ (x : Item). x.0) segment.items) known.rising)

  long : length points ≡ length segment.items
  long = length-points segment 0 nodes ∙ all

  pid_in : (row : ℕ) → pid_at points row ≡ pid_of segment row
  pid_in row = ap (λ (t : List ℕ). get_or t row 0) pids_are ∙ item_pid segment.items row

  rise : IsRise (pid_of segment) (length segment.items)
  rise r s l m = (let up = pids_rise_at points rises r s l (let size = long in omega arith) in let first = pid_in r in let second = pid_in s in omega arith)

  there : (row : ℕ) → row < length segment.items → has (pids_of points) (pid_of segment row) ≡ true
  there row l = subst (λ (p : ℕ). has (pids_of points) p ≡ true) (pid_in row) (has_pid_at points row (let size = long in omega arith))

  apart : (r s : ℕ) → r < length segment.items → s < length segment.items → r ≢ s → pid_of segment r ≢ pid_of segment s
  apart r s a b differ e = elim (cases_order r s) [
    | inl same ↦ differ same
    | inr order ↦ elim order [
      | inl below ↦ (let up = rise r s below b in absurd (omega arith))
      | inr above ↦ (let up = rise s r above a in absurd (omega arith))
    ]
  ]

  point_is : (i : ℕ) (d : Point) → i < length points → get_or points i d ≡ point_in segment i (get_or nodes i no_node)
  point_is i d l = get_point segment 0 nodes i d (let size = long in omega arith) ∙ ap (λ (r : ℕ). point_in segment r (get_or nodes i no_node)) (let e : 0 + i ≡ i = omega arith in e)

  linked_at : (i : ℕ) → i < length segment.items → IsLinked (pids_of points) (point_in segment i (get_or nodes i no_node)).pid (point_in segment i (get_or nodes i no_node)).links
  linked_at i l =
      let w = sound.neighbours i (omega arith) in
      let ns : List ℕ = (get_or nodes i no_node).neighbours in
      let below : Below (length segment.items) ns = recursion_from_All (λ r. r < length segment.items) ns w.inside in
      let others : AllByRecursion (λ r. r ≢ i) ns = recursion_from_All (λ r. r ≢ i) ns w.others in
      record {
        rises = rises_mapped (pid_of segment) (length segment.items) rise ns below (rises_from_increasing ns w.rising);
        inside = λ p h.
            let got = pick_mapped (pid_of segment) (λ r. r < length segment.items) ns p below h in
            subst (λ (q : ℕ). has (pids_of points) q ≡ true) got.2 (there got.0 got.1);
        other = not_among (map (pid_of segment) ns) (pid_of segment i) (λ h.
            let got = pick_mapped (pid_of segment) (λ r. (r < length segment.items) × (r ≢ i)) ns (pid_of segment i) (all_both (λ r. r < length segment.items) (λ r. r ≢ i) ns below others) h in
            apart got.0 i got.1.0 l got.1.1 got.2);
      }

  linked : AreLinked points
  linked = record {
    rises = rises;
    linked = recursion_from_All (λ (x : Point). IsLinked (pids_of points) x.pid x.links) points
        (λ i d l. subst (λ (x : Point). IsLinked (pids_of points) x.pid x.links) (sym (point_is i d l)) (linked_at i (let size = long in omega arith)));
  }

  entry_is : (o : Option ℕ) → IsEntryOf (length segment.items) o → IsEntry points (option_map (pid_of segment) o)
  entry_is None none = blanks points (long ∙ none)
    where
      blanks : (xs : List Point) → length xs ≡ 0 → xs ≡ []
      blanks [] e = refl
      blanks (x ∷ xs) e = absurd (omega arith)
  entry_is (Some row) l = there row l

  pub graph_sound : IsGraphOf params (graph_in segment nodes)
  graph_sound = graph_of_from params (graph_in segment nodes) linked (entry_is segment.entry known.entry)
      (recursion_from_All (λ (x : Point). length x.links ≤ params.r) points
      (λ i d l. subst (λ (x : Point). length x.links ≤ params.r) (sym (point_is i d l))
      (let w = sound.neighbours i (let size = long in omega arith) in let few = w.few in let size = length-map (get_or nodes i no_node).neighbours (pid_of segment) in omega arith)))
      (recursion_from_All (λ (x : Point). length x.vector ≡ params.d) points
      (λ i d l. ap (λ (x : Point). length x.vector) (point_is i d l) ∙ sound.long i (let size = long in omega arith)))

  -- ---- a base

  pids_below : (next : ℕ) → AreBelow next segment → All (λ (x : Point). x.pid < next) points
  pids_below next below i d l = subst (λ (x : Point). x.pid < next) (sym (point_is i d l)) (below i (0, []) (let size = long in omega arith))

  tag_is : (i : ℕ) (d : Point) → i < length points → (get_or points i d).tag ≡ get_or (tags_of nodes) i 0
  tag_is i d l =
      ap (λ (x : Point). x.tag) (point_is i d l)
      ∙ sym (get_or-map (λ (n : NodeFields). n.tag) nodes i no_node 0 (let size = long in omega arith))

  tags_apart : AreDistinct (tags_of nodes) → AllPairs (λ (x y : Point). x.tag ≢ y.tag) points
  tags_apart differ i j d l m same =
      let size = long in
      let many = length-map nodes (λ (n : NodeFields). n.tag) in
      let equal : get_or (tags_of nodes) i 0 ≡ get_or (tags_of nodes) j 0 = sym (tag_is i d (omega arith)) ∙ same ∙ tag_is j d m in
      both_ways _ (differ j (omega arith))
      (subst (λ (t : ℕ). has (take j (tags_of nodes)) t ≡ true) equal (has_pick (tags_of nodes) i j l (omega arith)))

  pub base_is : (number next : ℕ) → number ≢ 0 → AreBelow next segment → AreDistinct (tags_of nodes) → (position : ℕ) → IsBaseOf params (base_over position next number (graph_in segment nodes))
  base_is number next some below differ position = record {
    graph = graph_sound;
    pids = pids_below next below;
    tags = tags_apart differ;
    none = λ e. absurd (some e);
  }

-- ---- where the segment holds a graph, this is it

module _ {S : Type 0} (params : Params) (book : Book) (bytes : List ℕ) (segment : SegmentView S) (graph : Graph) (h : Holds params book bytes segment graph) (parts : length book ≡ params.m) (nodes : List NodeFields) (told : nodes ≡ map (node_in segment bytes params.d) (range_with_len 0 (length nodes))) (all : length nodes ≡ length segment.items) where
  held_rises : Rises (pids_of graph.points)
  held_rises = (holds_linked params book bytes segment graph h).rises

  count : length segment.items ≡ length graph.points
  count = holds_count params book bytes segment graph h

  held_pid : (row : ℕ) → row < length graph.points → pid_of segment row ≡ pid_at graph.points row
  held_pid row l =
      ap (λ (x : Item). x.0) (holds_row params book bytes segment graph h parts row (let size = count in omega arith)).item
      ∙ sym (pid_of_at graph.points row blank l)

  held_point : (row : ℕ) → row < length graph.points → point_in segment row (get_or nodes row no_node) ≡ point_at graph row
  held_point row l =
      let size = count in
      let is = holds_row params book bytes segment graph h parts row (omega arith) in
      let x : Point = point_at graph row in
      let node : get_or nodes row no_node ≡ record { tag = x.tag; vector = x.vector; neighbours = map (row_of graph.points) x.links } =
      ap (λ (t : List NodeFields). get_or t row no_node) told
      ∙ get_or-map-range_with_len (node_in segment bytes params.d) 0 (length nodes) row row no_node (omega arith) (omega arith)
      ∙ is.node in
      ap (point_in segment row) node
      ∙ ap₂ (λ (p : ℕ) (links : List ℕ). let y : Point = record { pid = p; tag = x.tag; vector = x.vector; links = links } in y)
      (ap (λ (i : Item). i.0) is.item)
      (map_below (pid_of segment) (pid_at graph.points) (length graph.points) held_pid (map (row_of graph.points) x.links) (below_mapped graph.points x.links held_rises is.links)
      ∙ names_back graph.points x.links held_rises is.links)

  points_back : points_from segment 0 nodes ≡ graph.points
  points_back =
      let size = count in
      fill_by_all (point_at graph) (points_from segment 0 nodes) (length graph.points) blank (length-points segment 0 nodes ∙ all ∙ size)
      (λ k l. get_point segment 0 nodes k blank (omega arith) ∙ ap (λ (r : ℕ). point_in segment r (get_or nodes k no_node)) (let e : 0 + k ≡ k = omega arith in e) ∙ held_point k l)
      ∙ sym (fill_by_all (point_at graph) graph.points (length graph.points) blank refl (λ k l. refl))

  entry_back : (o : Option ℕ) → IsEntry graph.points o → option_map (pid_of segment) (option_map (row_of graph.points) o) ≡ o
  entry_back None e = refl
  entry_back (Some p) e =
      let row = has_row graph.points p held_rises e in
      ap Some (held_pid (row_of graph.points p) row.below ∙ row.back)

  pub graph_back : graph_in segment nodes ≡ graph
  graph_back =
      ap₂ (λ (e : Option ℕ) (points : List Point). let g : Graph = record { entry = e; points = points } in g)
      (ap (option_map (pid_of segment)) h.entry ∙ entry_back graph.entry (entry_from_graph graph h.sound.sound))
      points_back
