-- What a collect of a whole view leaves.
use Rattle.std.proofs.Common.{◌≡◌, ℕ, zero, suc, ◌+◌, ◌-◌, ◌≤◌, ◌<◌, Bool, true, false, cond, not, List, [], ◌∷◌, ◌++◌, refl, sym, ap, ap₂, ◌∙◌, subst, arith, map, filter, take, length, length-append, get_or, append_assoc}
use Rattle.std.specs.Prelude.{Option, Some, None, flat_map}
use Rattle.std.proofs.lemmas.List.{append-nil, map-append, take_more, take_all, length-map, get_or-map}
use Rattle.std.proofs.lemmas.List.Elements.{filter-append}
use Rattle.ann_types.specs.Order.{has}
use Rattle.ann_types.specs.Codes.{Book}
use Rattle.ann_types.specs.Graph.{Point, Graph, empty_graph, pids_of}
use Rattle.ann_types.specs.Merge.{survivors, without}
use Rattle.ann_types.specs.Fold.{all_points, new_point}
use Rattle.ann_types.specs.declared.new_point.NewPoint.{NewPoint}
use Rattle.ann_types.specs.declared.params.Params.{Params}
use Rattle.ann_vault.specs.Reads.{more_reads}
use Rattle.ann_block.specs.Node.{NodeFields}
use Rattle.ann_segment.specs.Directory.{Item}
use Rattle.ann_segment.specs.Segment.{SegmentView}
use Rattle.ann_segment.specs.Holds.{Holds}
use Rattle.ann_segment.proofs.Holding.{holds_count, holds_row}
use Rattle.ann_view.specs.View.{IndexView, whole, item_pids, segment_pids, pids_in}
use Rattle.ann_view.specs.Holding.{HoldsGraph}
use Rattle.ann_view.specs.Collected.{AddsSegment, StopsInSegment, Begins, Counts, Gathering, HasBegun, HasCollected, Reads, alive_in, live_points, new_pids, pid_in, points_read, row_point_in, rows_below, told_points, undeleted}
use Rattle.ann_view.proofs.Collecting.{alive_append, rows_count}

-- ---- rows and lists

-- what stands in the rows below a number
map_rows : {A : Type 0} (f : ℕ → A) (xs : List A) (d : A) (n : ℕ) → n ≤ length xs → ((row : ℕ) → row < length xs → f row ≡ get_or xs row d) → map f (rows_below n) ≡ take n xs
map_rows f xs d zero l same = refl
map_rows f xs d (suc n) l same =
    map-append f (rows_below n) (n ∷ [])
    ∙ ap₂ (λ (s t : List _). s ++ t) (map_rows f xs d n (omega arith) same) (ap (λ y. y ∷ []) (same n (omega arith)))
    ∙ sym (take_more xs n d (omega arith))
    ∙ ap (λ (k : ℕ). take k xs) (let e : n + 1 ≡ suc n = omega arith in e)

all_rows : {A : Type 0} (f : ℕ → A) (xs : List A) (d : A) (n : ℕ) → n ≡ length xs → ((row : ℕ) → row < length xs → f row ≡ get_or xs row d) → map f (rows_below n) ≡ xs
all_rows f xs d n l same = map_rows f xs d n (omega arith) same ∙ take_all n xs (omega arith)

-- the rows below a number begin those below a greater one
rows_begin : (k n : ℕ) → Begins (rows_below n) (rows_below (n + k))
rows_begin zero n = ([], ap rows_below (let e : n + 0 ≡ n = omega arith in e) ∙ sym (append-nil (rows_below n)))
rows_begin (suc k) n =
    let before = rows_begin k n in (
      before.0 ++ (n + k) ∷ [],
      ap rows_below (let e : n + suc k ≡ suc (n + k) = omega arith in e)
          ∙ ap (λ (t : List ℕ). t ++ (n + k) ∷ []) before.1
          ∙ append_assoc (rows_below n) before.0 ((n + k) ∷ []),
    )

rows_to : (n m : ℕ) → n ≤ m → Begins (rows_below n) (rows_below m)
rows_to n m l = subst (λ (k : ℕ). Begins (rows_below n) (rows_below k)) (let e : n + (m - n) ≡ m = omega arith in e) (rows_begin (m - n) n)

-- beginnings of what is made of lists
begins_map : {A B : Type 0} (f : A → B) (front all : List A) → Begins front all → Begins (map f front) (map f all)
begins_map f front all b = (map f b.0, ap (map f) b.1 ∙ map-append f front b.0)

begins_filter : {A : Type 0} (p : A → Bool) (front all : List A) → Begins front all → Begins (filter p front) (filter p all)
begins_filter p front all b = (filter p b.0, ap (filter p) b.1 ∙ filter-append p front b.0)

begins_more : {A : Type 0} (front all more : List A) → Begins front all → Begins front (all ++ more)
begins_more front all more b = (b.0 ++ more, ap (λ t. t ++ more) b.1 ∙ append_assoc front b.0 more)

-- ---- Pids

pids_alive : (dead : List ℕ) (points : List Point) → new_pids (alive_in dead points) ≡ without dead (pids_of points)
pids_alive dead [] = refl
pids_alive dead (x ∷ points) = elim (has dead x.pid) as (λ t. new_pids (map new_point (cond (not t) (x ∷ survivors dead points) (survivors dead points))) ≡ cond (not t) (x.pid ∷ without dead (pids_of points)) (without dead (pids_of points))) [
  | true ↦ pids_alive dead points
  | false ↦ ap (λ t. x.pid ∷ t) (pids_alive dead points)
]

without_append : (dead xs ys : List ℕ) → without dead (xs ++ ys) ≡ without dead xs ++ without dead ys
without_append dead xs ys = filter-append (λ p. not (has dead p)) xs ys

row_pids_are : {S : Type 0} (segment : SegmentView S) → map (pid_in segment) (rows_below (length segment.items)) ≡ item_pids segment.items
row_pids_are segment =
    let size = length-map segment.items (λ (x : Item). x.0) in
    all_rows (pid_in segment) (item_pids segment.items) 0 (length segment.items) (omega arith)
    (λ row l. sym (get_or-map (λ (x : Item). x.0) segment.items row (0, []) 0 (omega arith)))

-- ---- the graph that the segment holds

undeleted_alive : (dead : List ℕ) (points : List Point) → undeleted dead (map new_point points) ≡ alive_in dead points
undeleted_alive dead [] = refl
undeleted_alive dead (x ∷ points) = elim (has dead x.pid) as (λ t. cond (not t) (new_point x ∷ undeleted dead (map new_point points)) (undeleted dead (map new_point points)) ≡ map new_point (cond (not t) (x ∷ survivors dead points) (survivors dead points))) [
  | true ↦ undeleted_alive dead points
  | false ↦ ap (λ t. new_point x ∷ t) (undeleted_alive dead points)
]

rows_held : {S : Type 0} (params : Params) (book : Book) (bytes : List ℕ) (segment : SegmentView S) (graph : Graph) → length book ≡ params.m → Holds params book bytes segment graph → map (row_point_in segment bytes params.d) (rows_below (length segment.items)) ≡ map new_point graph.points
rows_held params book bytes segment graph parts h =
    let count = holds_count params book bytes segment graph h in
    let size = length-map graph.points new_point in
    let none : NewPoint = record { pid = 0; tag = 0; vector = [] } in
    all_rows (row_point_in segment bytes params.d) (map new_point graph.points) none (length segment.items) (omega arith)
    (λ row l.
    let is = holds_row params book bytes segment graph h parts row (omega arith) in
    (λ i. record { pid = ap (λ (x : Item). x.0) is.item i; tag = ap (λ (n : NodeFields). n.tag) is.node i; vector = ap (λ (n : NodeFields). n.vector) is.node i })
    ∙ sym (get_or-map new_point graph.points row (record { pid = 0; tag = 0; vector = []; links = [] }) none (omega arith)))

module _ {S : Type 0} (tells : Type 0) (bytes : S → List ℕ) (base : IndexView S) (bare : base.memory.lti ≡ empty_graph) (parts : length base.book.book ≡ base.params.m) where
  abbrev dead : List ℕ
  dead = base.memory.dead

  abbrev own : List Point
  own = all_points base.memory

  -- the view with this segment
  abbrev over : Option (SegmentView S) → IndexView S
  over segment = record base { segment = segment }

  read_held : (segment : Option (SegmentView S)) (lti : Graph) → HoldsGraph bytes (over segment) lti → points_read bytes base.params dead segment ≡ alive_in dead lti.points
  read_held None lti holds = ap (λ (g : Graph). alive_in dead g.points) (sym holds)
  read_held (Some segment) lti holds = ap (undeleted dead) (rows_held base.params base.book.book (bytes segment.seal) segment lti parts holds) ∙ undeleted_alive dead lti.points

  -- the points that the bytes have are the live ones of the graph
  told_is : (segment : Option (SegmentView S)) (lti : Graph) → HoldsGraph bytes (over segment) lti → told_points bytes (over segment) ≡ live_points (whole (over segment) lti)
  told_is segment lti holds =
      ap (λ (t : List NewPoint). t ++ alive_in dead own) (read_held segment lti holds)
      ∙ sym (alive_append dead lti.points own)
      ∙ ap (alive_in dead) (sym all_are)
    where
      all_are : all_points (whole (over segment) lti) ≡ lti.points ++ own
      all_are =
          append_assoc lti.points (flat_map (λ (g : Graph). g.points) base.memory.ros) base.memory.rw.points
          ∙ ap (λ (g : Graph). lti.points ++ (g.points ++ flat_map (λ (x : Graph). x.points) base.memory.ros ++ base.memory.rw.points)) (sym bare)

  pids_joined : (segment : Option (SegmentView S)) → without dead (segment_pids segment) ++ new_pids (alive_in dead own) ≡ without dead (pids_in segment base.memory)
  pids_joined segment = ap (λ (t : List ℕ). without dead (segment_pids segment) ++ t) (pids_alive dead own) ∙ sym (without_append dead (segment_pids segment) (pids_of own))

  -- ---- a collect

  -- the whole of it
  pub collected : (segment : Option (SegmentView S)) (mid end : List NewPoint) (old new : Counts) → AddsSegment tells bytes segment base.params dead (record { points = []; counts = old }) (record { points = mid; counts = new }) → end ≡ mid ++ alive_in dead own → HasCollected tells bytes (over segment) end old new
  collected None mid end old new same more =
      let all : end ≡ alive_in dead own = more ∙ ap (λ (x : Gathering). x.points ++ alive_in dead own) same in
      record {
        pids = ap new_pids all ∙ pids_joined None;
        memory = ([], all);
        told = λ t. all;
        sound = λ t. tt;
        held = λ t lti holds. all ∙ told_is None lti holds;
        reads = ap (λ (x : Gathering). x.counts.reads) same;
        calm = ap (λ (x : Gathering). x.counts.faults) same;
      }
  collected (Some segment) mid end old new added more =
      let told : tells → end ≡ told_points bytes (over (Some segment)) = λ t. more ∙ ap (λ (x : List NewPoint). x ++ alive_in dead own) (added.points.told t) in
      record {
        pids =
            ap new_pids more
            ∙ map-append (λ (x : NewPoint). x.pid) mid (alive_in dead own)
            ∙ ap (λ (t : List ℕ). t ++ new_pids (alive_in dead own)) (added.points.pids ∙ ap (without dead) (row_pids_are segment))
            ∙ pids_joined (Some segment);
        memory = (mid, more);
        told = told;
        sound = added.sound;
        held = λ t lti holds. told t ∙ told_is (Some segment) lti holds;
        reads = added.reads ∙ ap (λ (n : ℕ). more_reads n old.reads) (rows_count (length segment.items));
        calm = added.calm;
      }

  -- a part of it, from a part of the told points and of the Pids
  begun_by : (segment : Option (SegmentView S)) (points : List NewPoint) → Begins (new_pids points) (without dead (pids_in segment base.memory)) → (tells → Begins points (told_points bytes (over segment))) → HasBegun tells bytes (over segment) points
  begun_by segment points pids told = record {
    pids = pids;
    told = told;
    held = λ t lti holds. subst (Begins points) (told_is segment lti holds) (told t);
  }

  -- it stopped at a row
  pub begun_at_row : (segment : Option (SegmentView S)) (points : List NewPoint) → StopsInSegment tells bytes segment base.params dead [] points → HasBegun tells bytes (over segment) points
  begun_at_row None points stops = absurd stops
  begun_at_row (Some segment) points stops =
      let rows = rows_to stops.row (length segment.items) stops.within in
      let point : List ℕ → ℕ → NewPoint = λ (b : List ℕ). row_point_in segment b base.params.d in
      begun_by (Some segment) points
      (subst (λ (t : List ℕ). Begins t (without dead (pids_in (Some segment) base.memory))) (sym stops.points.pids)
      (subst (Begins (without dead (map (pid_in segment) (rows_below stops.row)))) (ap (λ (t : List ℕ). without dead t ++ new_pids (alive_in dead own)) (row_pids_are segment) ∙ pids_joined (Some segment))
      (begins_more _ _ (new_pids (alive_in dead own)) (begins_filter (λ p. not (has dead p)) _ _ (begins_map (pid_in segment) _ _ rows)))))
      (λ t. subst (λ (xs : List NewPoint). Begins xs (told_points bytes (over (Some segment)))) (sym (stops.points.told t))
      (begins_more _ _ (alive_in dead own) (begins_filter (λ (x : NewPoint). not (has dead x.pid)) _ _ (begins_map (point (bytes segment.seal)) _ _ rows))))

  -- it stopped among the points in memory
  pub begun_in_memory : (segment : Option (SegmentView S)) (mid points : List NewPoint) (old new : Counts) → AddsSegment tells bytes segment base.params dead (record { points = []; counts = old }) (record { points = mid; counts = new }) → Begins points (mid ++ alive_in dead own) → HasBegun tells bytes (over segment) points
  begun_in_memory segment mid points old new added begins =
      let all = collected segment mid (mid ++ alive_in dead own) old new added refl in
      begun_by segment points
      (subst (Begins (new_pids points)) all.pids (begins_map (λ (x : NewPoint). x.pid) points (mid ++ alive_in dead own) begins))
      (λ t. subst (Begins points) (all.told t) begins)

  -- what was read till then
  pub reads_of : (segment : Option (SegmentView S)) (mid : List NewPoint) (old new : Counts) → AddsSegment tells bytes segment base.params dead (record { points = []; counts = old }) (record { points = mid; counts = new }) → Reads old new
  reads_of None mid old new same = record { reads = (0, ap (λ (x : Gathering). x.counts.reads) same); calm = ap (λ (x : Gathering). x.counts.faults) same }
  reads_of (Some segment) mid old new added = record { reads = (length (rows_below (length segment.items)), added.reads); calm = added.calm }
