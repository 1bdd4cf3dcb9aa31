-- What a walk by rows adds to a result is what the walk by Pids does.
use Rattle.std.proofs.Common.{◌≡◌, ℕ, zero, suc, ◌+◌, ◌<◌, Bool, true, false, cond, not, List, [], ◌∷◌, ◌++◌, refl, sym, ap, ◌∙◌, subst, arith, map, take, length, get_or, inl, inr}
use Rattle.std.specs.Prelude.{Some}
use Rattle.std.specs.List.{AllByRecursion, flat_map}
use Rattle.std.proofs.lemmas.Bool.{false≢true, eqb-true}
use Rattle.std.proofs.lemmas.List.{get_or-map, map-append, take_more, append-nil}
use Rattle.std.proofs.lemmas.List.Elements.{filter-append}
use Rattle.std.proofs.lemmas.Grind.{flat_map-append}
use Rattle.ann_types.specs.Order.{has}
use Rattle.ann_types.proofs.Ordered.{has_cases}
use Rattle.ann_types.proofs.Sets.{all_append}
use Rattle.ann_types.specs.Walk.{Ground}
use Rattle.ann_types.specs.Graph.{Point, pids_of, far_from, tag_of, ground, near_to}
use Rattle.ann_types.specs.Merge.{without}
use Rattle.ann_types.specs.declared.params.Params.{Params}
use Rattle.ann_types.proofs.Renamed.{Below, Renames, below_near, below_visited}
use Rattle.ann_types.specs.Rows.{pid_at}
use Rattle.ann_types.proofs.Rowed.{tag_at, has_pid_at}
use Rattle.ann_greedy.specs.Rows.{Rows, far_row, ground_at, near_rows, visited_rows}
use Rattle.ann_greedy.specs.Shows.{AreRows, seen}
use Rattle.ann_table.specs.Node.{Node, nothing, node_at, row_pid, rows_of, first_row, point_of, graph_of}
use Rattle.ann_table.specs.Table.{AreNodes}
use Rattle.ann_table.proofs.Graphs.{length_points, pid_is, rises_are, renames_are, near_is}
use Rattle.ann_pool.specs.Pool.{PoolView}
use Rattle.ann_pool.specs.declared.item.Item.{Item}
use Rattle.ann_beam.specs.Ranking.{Ranked, rank, with_ranked, with_all}
use Rattle.ann_beam.specs.Visits.{alive}
use Rattle.ann_beam.proofs.Rankings.{with_all-append}
use Rattle.ann_view.specs.Near.{row_point, near_points, AreInside}

-- ---- one point

pub item_alive : (limit : ℕ) (dead : List ℕ) (x : Ranked) (pid tag : ℕ) (is_dead : Bool) (new old : List Ranked) → is_dead ≡ has dead pid → is_dead ≡ false → pid ≡ x.pid → tag ≡ x.tag → new ≡ with_ranked limit (record { pid = pid; tag = tag; distance = x.distance }) old → new ≡ with_all limit (alive dead (x ∷ [])) old
item_alive limit dead x pid tag is_dead new old asked no_more same named e =
    e
    ∙ ap (λ p. with_ranked limit (record { pid = p; tag = tag; distance = x.distance }) old) same
    ∙ ap (λ t. with_ranked limit (record { pid = x.pid; tag = t; distance = x.distance }) old) named
    ∙ ap (λ t. with_all limit (cond (not t) (x ∷ []) []) old) (sym (ap (has dead) (sym same) ∙ sym asked ∙ no_more))

pub item_dead : (limit : ℕ) (dead : List ℕ) (x : Ranked) (pid : ℕ) (is_dead : Bool) (old : List Ranked) → is_dead ≡ has dead pid → is_dead ≡ true → pid ≡ x.pid → old ≡ with_all limit (alive dead (x ∷ [])) old
item_dead limit dead x pid is_dead old asked there same =
    ap (λ t. with_all limit (cond (not t) (x ∷ []) []) old) (sym (ap (has dead) (sym same) ∙ sym asked ∙ there))

pub item_beyond : (limit : ℕ) (dead : List ℕ) (x : Ranked) (old : List Ranked) → with_ranked limit x old ≡ old → old ≡ with_all limit (alive dead (x ∷ [])) old
item_beyond limit dead x old same = elim (has dead x.pid) as (λ t. old ≡ with_all limit (cond (not t) (x ∷ []) []) old) [ true ↦ refl | false ↦ sym same ]

-- ---- points one at a time

pub items_more : (limit : ℕ) (dead : List ℕ) (f : Item → Ranked) (items : List Item) (place : ℕ) (item other : Item) (init old new : List Ranked) → place < length items → item ≡ get_or items place other → old ≡ with_all limit (alive dead (map f (take place items))) init → new ≡ with_all limit (alive dead (f item ∷ [])) old → new ≡ with_all limit (alive dead (map f (take (place + 1) items))) init
items_more limit dead f items place item other init old new l at before more =
    more
    ∙ ap (with_all limit (alive dead (f item ∷ []))) before
    ∙ sym (with_all-append limit (alive dead (map f (take place items))) (alive dead (f item ∷ [])) init)
    ∙ ap (λ (t : List Ranked). with_all limit t init)
    (sym (filter-append (λ (x : Ranked). not (has dead x.pid)) (map f (take place items)) (f item ∷ []))
    ∙ ap (alive dead) (sym (map-append f (take place items) (item ∷ []))
    ∙ ap (map f) (ap (λ y. take place items ++ y ∷ []) at ∙ sym (take_more items place other l))))

-- ---- a walk by rows

map_below : {A : Type 0} (f g : ℕ → A) (n : ℕ) (xs : List ℕ) → Below n xs → ((r : ℕ) → r < n → f r ≡ g r) → map f xs ≡ map g xs
map_below f g n [] b same = refl
map_below f g n (x ∷ xs) (l, b) same = ap (λ y. y ∷ map f xs) (same x l) ∙ ap (λ t. g x ∷ t) (map_below f g n xs b same)

map_map : {A B C : Type 0} (f : B → C) (g : A → B) (xs : List A) → map f (map g xs) ≡ map (λ x. f (g x)) xs
map_map f g [] = refl
map_map f g (x ∷ xs) = ap (λ t. f (g x) ∷ t) (map_map f g xs)

pub alive_ranks : (far tag : ℕ → ℕ) (dead pids : List ℕ) → alive dead (map (rank far tag) pids) ≡ map (rank far tag) (without dead pids)
alive_ranks far tag dead [] = refl
alive_ranks far tag dead (p ∷ pids) =
    elim (has dead p) as (λ t. cond (not t) (rank far tag p ∷ alive dead (map (rank far tag) pids)) (alive dead (map (rank far tag) pids)) ≡ map (rank far tag) (cond (not t) (p ∷ without dead pids) (without dead pids))) [
      | true ↦ alive_ranks far tag dead pids
      | false ↦ ap (λ t. rank far tag p ∷ t) (alive_ranks far tag dead pids)
    ]

seen_rows : (count : ℕ) (far : ℕ → ℕ) (xs : List ℕ) → Below count xs → AreRows count (map (seen far) xs)
seen_rows count far [] b = tt
seen_rows count far (x ∷ xs) (l, b) = (l, seen_rows count far xs b)

inside_from : (f : ℕ → ℕ) (n : ℕ) (all xs : List ℕ) → Below n xs → ((r : ℕ) → r < n → has all (f r) ≡ true) → (p : ℕ) → has (map f xs) p ≡ true → has all p ≡ true
inside_from f n all [] b there p h = absurd (false≢true h)
inside_from f n all (x ∷ xs) (l, b) there p h = elim (has_cases (f x) p (map f xs) h) [
  | inl e ↦ subst (λ (t : ℕ). has all t ≡ true) (sym (eqb-true p (f x) e)) (there x l)
  | inr later ↦ inside_from f n all xs b there p later
]

module _ (params : Params) (nodes : List Node) (query : List ℕ) (width : ℕ) (sound : AreNodes params nodes) where
  abbrev rows : Rows
  rows = rows_of params nodes

  abbrev points : List Point
  points = (graph_of nodes).points

  abbrev near : List ℕ
  near = near_rows rows query width (first_row nodes)

  inside_points : (row : ℕ) → row < length nodes → row < length points
  inside_points row l = let size = length_points nodes in omega arith

  tag_is : (row : ℕ) → row < length nodes → (node_at nodes row).tag ≡ tag_of points (row_pid nodes row)
  tag_is row l =
      sym (ap (tag_of points) (sym (pid_is nodes row))
      ∙ tag_at points row (point_of nodes nothing) (rises_are params nodes sound) (inside_points row l)
      ∙ ap (λ (x : Point). x.tag) (get_or-map (point_of nodes) nodes row nothing (point_of nodes nothing) l))

  far_is : (row : ℕ) → row < length nodes → far_row rows query row ≡ far_from points query (row_pid nodes row)
  far_is row l =
      sym (ap (far_from points query) (sym (pid_is nodes row)) ∙ (renames_are params nodes sound query row l).far row (inside_points row l))

  point_is : (row : ℕ) → row < length nodes → row_point nodes (seen (far_row rows query) row) ≡ rank (far_from points query) (tag_of points) (row_pid nodes row)
  point_is row l =
      ap (λ t. (let x : Ranked = record { pid = row_pid nodes row; tag = t; distance = far_row rows query row } in x)) (tag_is row l)
      ∙ ap (λ d. (let x : Ranked = record { pid = row_pid nodes row; tag = tag_of points (row_pid nodes row); distance = d } in x)) (far_is row l)

near_below_from : (params : Params) (nodes : List Node) (query : List ℕ) (width : ℕ) → AreNodes params nodes → Below (length nodes) (near_rows (rows_of params nodes) query width (first_row nodes))
near_below_from params [] query width sound = tt
near_below_from params (x ∷ rest) query width sound =
    let nodes : List Node = x ∷ rest in
    let points : List Point = (graph_of nodes).points in
    let g : Ground = ground_at (rows_of params nodes) query 0 in
    let h : Ground = ground points query (pid_at points 0) in
    let w : Renames (pid_at points) (length points) g h = renames_are params nodes sound query 0 (omega arith) in
    subst (λ n. Below n (near_rows (rows_of params nodes) query width (Some 0))) (length_points nodes)
    (below_near (pid_at points) (length points) g h w width (visited_rows (rows_of params nodes) query width (Some 0)) (below_visited (pid_at points) (length points) g h w width (length nodes)))

module _ (params : Params) (nodes : List Node) (query : List ℕ) (width : ℕ) (sound : AreNodes params nodes) where
  near_below : Below (length nodes) (near_rows (rows_of params nodes) query width (first_row nodes))
  near_below = near_below_from params nodes query width sound

  -- a walk's items
  pub items_rows : (items : List Item) → items ≡ map (seen (far_row (rows_of params nodes) query)) (near_rows (rows_of params nodes) query width (first_row nodes)) → AreRows (length nodes) items
  items_rows items is = subst (AreRows (length nodes)) (sym is) (seen_rows (length nodes) (far_row (rows_of params nodes) query) (near_rows (rows_of params nodes) query width (first_row nodes)) near_below)

  pub items_points : (dead : List ℕ) (items : List Item) → items ≡ map (seen (far_row (rows_of params nodes) query)) (near_rows (rows_of params nodes) query width (first_row nodes)) → alive dead (map (row_point nodes) items) ≡ near_points dead (graph_of nodes) query width
  items_points dead items is =
      let near : List ℕ = near_rows (rows_of params nodes) query width (first_row nodes) in
      let far : ℕ → ℕ = far_from (graph_of nodes).points query in
      let tag : ℕ → ℕ = tag_of (graph_of nodes).points in
      ap (alive dead)
      (ap (map (row_point nodes)) is
      ∙ map_map (row_point nodes) (seen (far_row (rows_of params nodes) query)) near
      ∙ map_below (λ r. row_point nodes (seen (far_row (rows_of params nodes) query) r)) (λ r. rank far tag (row_pid nodes r)) (length nodes) near near_below (point_is params nodes query width sound)
      ∙ sym (map_map (rank far tag) (row_pid nodes) near)
      ∙ ap (map (rank far tag)) (sym (near_is params nodes query width sound)))
      ∙ alive_ranks far tag dead (near_to (graph_of nodes) query width)

  pub near_inside : AreInside query width (graph_of nodes)
  near_inside p h =
      inside_from (row_pid nodes) (length nodes) (pids_of (graph_of nodes).points) (near_rows (rows_of params nodes) query width (first_row nodes)) near_below
      (λ r l. ap (has (pids_of (graph_of nodes).points)) (sym (pid_is nodes r)) ∙ has_pid_at (graph_of nodes).points r (let size = length_points nodes in omega arith))
      p (ap (λ (t : List ℕ). has t p) (sym (near_is params nodes query width sound)) ∙ h)

-- what a walk leaves, by the rows and the query that it was given
pub walk_left : (params : Params) (nodes : List Node) (read : Rows) (given query : List ℕ) (cleared : PoolView) (width : ℕ) (items : List Item) → items ≡ map (seen (far_row read given)) (near_rows read given cleared.limit read.start) → read ≡ rows_of params nodes → given ≡ query → cleared ≡ record { limit = width; items = []; met = [] } → items ≡ map (seen (far_row (rows_of params nodes) query)) (near_rows (rows_of params nodes) query width (first_row nodes))
walk_left params nodes read given query cleared width items left same asked clear =
    left
    ∙ ap (λ (r : Rows). map (seen (far_row r given)) (near_rows r given cleared.limit r.start)) same
    ∙ ap (λ (q : List ℕ). map (seen (far_row (rows_of params nodes) q)) (near_rows (rows_of params nodes) q cleared.limit (first_row nodes))) asked
    ∙ ap (λ (p : PoolView). map (seen (far_row (rows_of params nodes) query)) (near_rows (rows_of params nodes) query p.limit (first_row nodes))) clear

-- ---- graphs one at a time

pub graphs_more : {A : Type 0} (limit : ℕ) (f : A → List Ranked) (xs : List A) (i : ℕ) (x : A) (init old new : List Ranked) → i < length xs → x ≡ get_or xs i x → old ≡ with_all limit (flat_map f (take i xs)) init → new ≡ with_all limit (f x) old → new ≡ with_all limit (flat_map f (take (i + 1) xs)) init
graphs_more limit f xs i x init old new l at before more =
    more
    ∙ ap (with_all limit (f x)) before
    ∙ sym (with_all-append limit (flat_map f (take i xs)) (f x) init)
    ∙ ap (λ (t : List Ranked). with_all limit t init)
    (ap (λ t. flat_map f (take i xs) ++ t) (sym (append-nil (f x)))
    ∙ sym (flat_map-append f (take i xs) (x ∷ []))
    ∙ ap (flat_map f) (ap (λ y. take i xs ++ y ∷ []) at ∙ sym (take_more xs i x l)))

pub all_more : {A : Type 0} (P : A → Type 0) (xs : List A) (i : ℕ) (x : A) → i < length xs → x ≡ get_or xs i x → AllByRecursion P (take i xs) → P x → AllByRecursion P (take (i + 1) xs)
all_more P xs i x l at a p = subst (AllByRecursion P) (ap (λ y. take i xs ++ y ∷ []) at ∙ sym (take_more xs i x l)) (all_append P (take i xs) (x ∷ []) a (p, tt))

-- one of a list in which all hold
pub one_of : {A : Type 0} (P : A → Type 0) (xs : List A) (i : ℕ) (x : A) → i < length xs → x ≡ get_or xs i x → AllByRecursion P xs → P x
one_of P [] i x l at a = absurd (omega arith)
one_of P (y ∷ xs) zero x l at (p, a) = subst P (sym at) p
one_of P (y ∷ xs) (suc i) x l at (p, a) = one_of P xs i x (omega arith) at a

pub shared_at : {A B : Type 0} (f : A → B) (xs : List A) (i : ℕ) (a : A) (x : B) → i < length xs → a ≡ get_or xs i a → x ≡ f a → x ≡ get_or (map f xs) i x
shared_at f xs i a x l at e = e ∙ ap f at ∙ sym (get_or-map f xs i a x l)
