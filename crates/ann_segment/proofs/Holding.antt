-- What stands in the rows of a segment that holds a graph.
use Rattle.std.proofs.Common.{◌≡◌, ◌≢◌, ℕ, zero, suc, ◌+◌, ◌-◌, ◌*◌, ◌^◌, ◌≤◌, ◌<◌, ◌==◌, true, false, List, [], ◌∷◌, ◌++◌, None, map, length, take, drop, get_or, inl, inr, eqb, eq-eqb, Bool, ◌||◌, refl, sym, ap, ap₂, subst, ◌∙◌, arith, length-append}
use Rattle.std.specs.Prelude.{All}
use Rattle.std.specs.List.{flat_map, slice_range, AllByRecursion}
use Rattle.std.proofs.lemmas.List.{get_or-map, length-map, take_at, drop_at, drop-drop}
use Rattle.std.proofs.lemmas.Bool.{cases_order, false≢true}
use Rattle.std.proofs.lemmas.List.Sums.{position_or_len_is}
use Rattle.std.proofs.lemmas.List.Elements.{recursion_from_All, All-from_recursion}
use Rattle.ann_bytes.specs.LittleEndian.{bytes_of}
use Rattle.ann_types.specs.Order.{has}
use Rattle.ann_types.specs.Graph.{Point, Graph, pids_of}
use Rattle.ann_types.specs.Codes.{Book, code}
use Rattle.ann_types.specs.declared.params.Params.{Params}
use Rattle.ann_types.proofs.Ordered.{has_here, has_later}
use Rattle.ann_types.proofs.Sets.{Rises, all_weaker, increasing_from_rises}
use Rattle.ann_types.proofs.Renamed.{Below}
use Rattle.ann_types.specs.Rows.{pid_at}
use Rattle.ann_types.proofs.Rowed.{pids_rise_at, pid_of_at, has_pid_at, row_of as row_with}
use Rattle.ann_types.proofs.Coded.{length_code}
use Rattle.ann_types.proofs.Graphs.{AreLinked, IsLinked, linked_from_graph}
use Rattle.ann_block.specs.Block.{zeros}
use Rattle.ann_block.specs.Node.{IsNodeOf, node_bytes, node_of, judge_node}
use Rattle.ann_block.proofs.Cleared.{length-zeros}
use Rattle.ann_types.proofs.Booleans.{same_true, not_same}
use Rattle.ann_block.proofs.Listed.{length-numbers}
use Rattle.ann_block.proofs.Nodes.{node_accepted, node_read_back}
use Rattle.ann_segment.specs.Directory.{Item, item_of, directory_blocks}
use Rattle.ann_segment.specs.Segment.{SegmentView, node_block}
use Rattle.ann_segment.specs.Text.{row_of, header_for, items_for, node_for, front_bytes, segment_text}
use Rattle.ann_segment.specs.Holds.{Holds}
use Rattle.ann_segment.proofs.Rows.{front_long}

pub no_point : Point
no_point = record { pid = 0; tag = 0; vector = []; links = [] }

-- ---- rows of Pids

-- the row of the Pid in a row
pub row_is : (points : List Point) (r : ℕ) → Rises (pids_of points) → r < length points → row_of points (pid_at points r) ≡ r
row_is points r rises below =
    let size = length-map points (λ (x : Point). x.pid) in
    let rise = pids_rise_at points rises in
    position_or_len_is (λ p. p == pid_at points r) (pids_of points) r 0 (omega arith)
    (λ k less. not_same (pid_at points k) (pid_at points r) (λ e. let up = rise k r less below in absurd (omega arith)))
    (λ _. same_true (pid_at points r) (pid_at points r) refl)

-- every Pid of a graph has a row, which has this Pid
pub record HasRow (points : List Point) (pid : ℕ) : Type 0 where
  pub below : row_of points pid < length points
  pub back : pid_at points (row_of points pid) ≡ pid

pub has_row : (points : List Point) (pid : ℕ) → Rises (pids_of points) → has (pids_of points) pid ≡ true → HasRow points pid
has_row points pid rises there =
    let got = row_with points pid there in
    let is : row_of points pid ≡ got.0 = ap (row_of points) (sym got.2) ∙ row_is points got.0 rises got.1 in
    record {
      below = subst (λ (r : ℕ). r < length points) (sym is) got.1;
      back = ap (pid_at points) is ∙ got.2;
    }

-- rows are in order as their Pids
rows_rise : (points : List Point) (p q : ℕ) → Rises (pids_of points) → has (pids_of points) p ≡ true → has (pids_of points) q ≡ true → p < q → row_of points p < row_of points q
rows_rise points p q rises first second less =
    let a = has_row points p rises first in
    let b = has_row points q rises second in
    let rise = pids_rise_at points rises in
    elim (cases_order (row_of points p) (row_of points q)) [
      | inl e ↦ (let same : p ≡ q = sym a.back ∙ ap (pid_at points) e ∙ b.back in absurd (omega arith))
      | inr c ↦ elim c [
        | inl l ↦ l
        | inr l ↦ (let up = rise (row_of points q) (row_of points p) l a.below in let x = a.back in let y = b.back in absurd (omega arith))
      ]
    ]

-- a Pid is at least its row
least_pid : (b : ℕ) (xs : List ℕ) (r : ℕ) → AllByRecursion (λ y. b ≤ y) xs → Rises xs → r < length xs → b + r ≤ get_or xs r 0
least_pid b [] r a w l = absurd (omega arith)
least_pid b (x ∷ xs) zero (h, a) w l = omega arith
least_pid b (x ∷ xs) (suc r) (h, a) (above, w) l =
    let more : (suc b) + r ≤ get_or xs r 0 = least_pid (suc b) xs r (weaker xs above) w (omega arith) in omega arith
  where
    weaker : (ys : List ℕ) → AllByRecursion (λ y. x < y) ys → AllByRecursion (λ y. suc b ≤ y) ys
    weaker [] t = tt
    weaker (y ∷ ys) (k, t) = (omega arith, weaker ys t)

-- ---- the neighbours of a point, as rows

all_mapped : {A B : Type 0} (P : A → Type 0) (Q : B → Type 0) (f : A → B) (xs : List A) → ((x : A) → P x → Q (f x)) → AllByRecursion P xs → AllByRecursion Q (map f xs)
all_mapped P Q f [] each a = tt
all_mapped P Q f (x ∷ xs) each (h, a) = (each x h, all_mapped P Q f xs each a)

all_inside : (all xs : List ℕ) → ((p : ℕ) → has xs p ≡ true → has all p ≡ true) → AllByRecursion (λ p. has all p ≡ true) xs
all_inside all [] inside = tt
all_inside all (x ∷ xs) inside = (inside x (has_here x x xs (eq-eqb x x refl)), all_inside all xs (λ p h. inside p (has_later x p xs h)))

rows_ascend : (points : List Point) (links : List ℕ) → Rises (pids_of points) → AllByRecursion (λ p. has (pids_of points) p ≡ true) links → Rises links → Rises (map (row_of points) links)
rows_ascend points [] rises inside up = tt
rows_ascend points (x ∷ links) rises (h, inside) (above, up) =
    (all_mapped (λ p. (has (pids_of points) p ≡ true) × (x < p)) (λ r. row_of points x < r) (row_of points) links (λ p k. rows_rise points x p rises h k.0 k.1) (both links inside above), rows_ascend points links rises inside up)
  where
    both : (xs : List ℕ) → AllByRecursion (λ p. has (pids_of points) p ≡ true) xs → AllByRecursion (λ y. x < y) xs → AllByRecursion (λ p. (has (pids_of points) p ≡ true) × (x < p)) xs
    both [] a b = tt
    both (y ∷ ys) (h, a) (k, b) = ((h, k), both ys a b)

other_links : (p : ℕ) (xs : List ℕ) → has xs p ≡ false → AllByRecursion (λ q. q ≢ p) xs
other_links p [] h = tt
other_links p (x ∷ xs) h = (λ e. false≢true (sym h ∙ has_here x p xs (eq-eqb p x (sym e))), other_links p xs (or_false (eqb p x) (has xs p) h))
  where
    or_false : (a b : Bool) → (a || b) ≡ false → b ≡ false
    or_false true b h = absurd (false≢true (sym h))
    or_false false b h = h

-- the Pids of these rows are the neighbours
pub names_back : (points : List Point) (links : List ℕ) → Rises (pids_of points) → AllByRecursion (λ p. has (pids_of points) p ≡ true) links → map (pid_at points) (map (row_of points) links) ≡ links
names_back points [] rises inside = refl
names_back points (x ∷ links) rises (h, inside) = ap₂ ◌∷◌ (has_row points x rises h).back (names_back points links rises inside)

-- rows of Pids of the graph are rows of it
pub below_mapped : (points : List Point) (links : List ℕ) → Rises (pids_of points) → AllByRecursion (λ p. has (pids_of points) p ≡ true) links → Below (length points) (map (row_of points) links)
below_mapped points links rises inside = all_mapped (λ p. has (pids_of points) p ≡ true) (λ r. r < length points) (row_of points) links (λ p h. (has_row points p rises h).below) inside

-- what stands in a row as a node is in the format
node_of_point : (points : List Point) (params : Params) (x : Point) (row : ℕ) → Rises (pids_of points) → row_of points x.pid ≡ row → has (pids_of points) x.pid ≡ true → IsLinked (pids_of points) x.pid x.links → length x.vector ≡ params.d → length x.links ≤ params.r → IsNodeOf row (length points) params (record { tag = x.tag; vector = x.vector; neighbours = map (row_of points) x.links })
node_of_point points params x row rises is there linked long few =
    let inside = all_inside (pids_of points) x.links linked.inside in
    let size = length-map x.links (row_of points) in
    record {
      dimension = long;
      degree = omega arith;
      others = All-from_recursion (λ n. (n ≢ row) × (n < length points)) (map (row_of points) x.links)
          (all_mapped (λ p. (has (pids_of points) p ≡ true) × (p ≢ x.pid)) (λ n. (n ≢ row) × (n < length points)) (row_of points) x.links
          (λ p k. (λ e. k.1 (sym (has_row points p rises k.0).back ∙ ap (pid_at points) (e ∙ sym is) ∙ (has_row points x.pid rises there).back), (has_row points p rises k.0).below))
          (both x.links inside (other_links x.pid x.links linked.other)));
      ascending = increasing_from_rises (map (row_of points) x.links) (rows_ascend points x.links rises inside linked.rises);
    }
  where
    both : (xs : List ℕ) → AllByRecursion (λ p. has (pids_of points) p ≡ true) xs → AllByRecursion (λ p. p ≢ x.pid) xs → AllByRecursion (λ p. (has (pids_of points) p ≡ true) × (p ≢ x.pid)) xs
    both [] a b = tt
    both (y ∷ ys) (h, a) (k, b) = ((h, k), both ys a b)

-- ---- the blocks of the nodes

node_long : (pid tag : ℕ) (vector links : List ℕ) → length vector ≤ 1024 → length links ≤ 128 → length (node_bytes pid tag vector links) ≡ 4096
unfolding node_bytes
node_long pid tag vector links short sparse =
    omega (arith, length-append vector (flat_map (bytes_of 4) links ++ (zeros (4080 - length vector - 4 * length links) ++ [])), length-append (flat_map (bytes_of 4) links) (zeros (4080 - length vector - 4 * length links) ++ []), length-append (zeros (4080 - length vector - 4 * length links)) [], length-numbers links, length-zeros (4080 - length vector - 4 * length links), short, sparse)

-- the block of one of some nodes
nth_block : {A : Type 0} (f : A → List ℕ) (xs : List A) (r : ℕ) (d : A) → AllByRecursion (λ x. length (f x) ≡ 4096) xs → r < length xs → take 4096 (drop (4096 * r) (flat_map f xs)) ≡ f (get_or xs r d)
nth_block f [] r d a l = absurd (omega arith)
nth_block f (x ∷ xs) zero d (h, a) l = take_at (f x) (flat_map f xs) 4096 h
nth_block f (x ∷ xs) (suc r) d (h, a) l =
    ap (take 4096) (ap (λ (n : ℕ). drop n (f x ++ flat_map f xs)) (let e : 4096 * suc r ≡ 4096 + 4096 * r = omega arith in e)
    ∙ sym (drop-drop (4096 * r) 4096 (f x ++ flat_map f xs))
    ∙ ap (drop (4096 * r)) (drop_at (f x) (flat_map f xs) 4096 h))
    ∙ nth_block f xs r d a (omega arith)

-- a block behind so many others
block_behind : (front back : List ℕ) (before row : ℕ) → length front ≡ 4096 * before → slice_range (front ++ back) (4096 * (before + row)) (4096 * (before + row) + 4096) ≡ take 4096 (drop (4096 * row) back)
block_behind front back before row long =
    ap₂ (λ (n at : ℕ). take n (drop at (front ++ back)))
    (let e : (4096 * (before + row) + 4096) - 4096 * (before + row) ≡ 4096 = omega arith in e)
    (let e : 4096 * (before + row) ≡ 4096 * before + 4096 * row = omega arith in e)
    ∙ ap (take 4096) (sym (drop-drop (4096 * row) (4096 * before) (front ++ back)) ∙ ap (drop (4096 * row)) (drop_at front back (4096 * before) long))

-- the blocks of all
pub blocks_long : {A : Type 0} (f : A → List ℕ) (xs : List A) → AllByRecursion (λ x. length (f x) ≡ 4096) xs → length (flat_map f xs) ≡ 4096 * length xs
blocks_long f [] a = refl
blocks_long f (x ∷ xs) (h, a) = let rest = blocks_long f xs a in omega (arith, length-append (f x) (flat_map f xs))

-- codes have the parameters' length
pub items_coded : (params : Params) (book : Book) (graph : Graph) → length book ≡ params.m → All (λ item. length item.1 ≡ params.m) (items_for book graph)
items_coded params book graph parts =
    All-from_recursion (λ item. length item.1 ≡ params.m) (items_for book graph) (all_mapped (λ (x : Point). Unit {0}) (λ (item : Item). length item.1 ≡ params.m) (λ (x : Point). (x.pid, code book x.vector)) graph.points (λ x t. length_code book x.vector ∙ parts) (all_units graph.points))
  where
    all_units : (xs : List Point) → AllByRecursion (λ x. Unit {0}) xs
    all_units [] = tt
    all_units (x ∷ xs) = (tt, all_units xs)

-- ---- what stands in a row of a segment that holds a graph

-- the point of a row
abbrev pub point_at : Graph → ℕ → Point
point_at graph row = get_or graph.points row (record { pid = 0; tag = 0; vector = []; links = [] })

pub record IsRowOf {S : Type 0} (params : Params) (book : Book) (bytes : List ℕ) (segment : SegmentView S) (graph : Graph) (row : ℕ) : Type 0 where
  pub item : item_of segment.items row ≡ ((point_at graph row).pid, code book (point_at graph row).vector)
  pub node : node_of params.d (slice_range bytes (4096 * node_block segment row) (4096 * node_block segment row + 4096)) ≡ record { tag = (point_at graph row).tag; vector = (point_at graph row).vector; neighbours = map (row_of graph.points) (point_at graph row).links }
  pub sound : judge_node (slice_range bytes (4096 * node_block segment row) (4096 * node_block segment row + 4096)) (item_of segment.items row).0 row (length segment.items) params ≡ None
  pub links : AllByRecursion (λ p. has (pids_of graph.points) p ≡ true) (point_at graph row).links
  pub vector : length (point_at graph row).vector ≡ params.d

module _ {S : Type 0} (params : Params) (book : Book) (bytes : List ℕ) (segment : SegmentView S) (graph : Graph) (h : Holds params book bytes segment graph) where
  pub holds_linked : AreLinked graph.points
  holds_linked = linked_from_graph graph h.sound.sound

  pub holds_count : length segment.items ≡ length graph.points
  holds_count = ap length h.items ∙ length-map graph.points (λ (x : Point). (x.pid, code book x.vector))

  holds_rises : Rises (pids_of graph.points)
  holds_rises = holds_linked.rises

  -- rows have four bytes
  small_row : (row : ℕ) → row < length graph.points → row < 2 ^ 32
  small_row row below =
      let size = length-map graph.points (λ (x : Point). x.pid) in
      let at : 0 + row ≤ pid_at graph.points row = least_pid 0 (pids_of graph.points) row (none (pids_of graph.points)) holds_rises (omega arith) in
      let is = pid_of_at graph.points row (point_at graph row) below in
      let fits = (h.numbers row (point_at graph row) below).0 in omega (arith, at, is, fits)
    where
      none : (xs : List ℕ) → AllByRecursion (λ y. 0 ≤ y) xs
      none [] = tt
      none (x ∷ xs) = (omega arith, none xs)

  vector_at : (row : ℕ) (d : Point) → row < length graph.points → length (get_or graph.points row d).vector ≤ 1024
  vector_at row d below = let long = h.sound.vectors row d below in let most = params.in_limits.components in omega arith

  links_at : (row : ℕ) (d : Point) → row < length graph.points → length (map (row_of graph.points) (get_or graph.points row d).links) ≤ 128
  links_at row d below = let few = h.sound.degrees row d below in let size = length-map (get_or graph.points row d).links (row_of graph.points) in let most = params.in_limits.neighbours in omega arith

  pub all_long : AllByRecursion (λ x. length (node_for graph.points x) ≡ 4096) graph.points
  all_long = recursion_from_All (λ x. length (node_for graph.points x) ≡ 4096) graph.points
      (λ row d below. let x : Point = get_or graph.points row d in node_long x.pid x.tag x.vector (map (row_of graph.points) x.links) (vector_at row d below) (links_at row d below))

  module _ (parts : length book ≡ params.m) where
    pub front_is_long : length (front_bytes (header_for params graph segment.number) (items_for book graph)) ≡ 4096 * (1 + directory_blocks (length segment.items) segment.m)
    front_is_long =
        front_long (header_for params graph segment.number) (items_for book graph)
        (length-map graph.points (λ (x : Point). (x.pid, code book x.vector)))
        (items_coded params book graph parts)
        ∙ ap₂ (λ (n m : ℕ). 4096 * (1 + directory_blocks n m)) (sym holds_count) (sym h.code_bytes)

    -- the block of a row is the node block of its point
    pub holds_block : (row : ℕ) → row < length graph.points → slice_range bytes (4096 * node_block segment row) (4096 * node_block segment row + 4096) ≡ node_for graph.points (point_at graph row)
    unfolding segment_text
    holds_block row below =
        ap (λ (b : List ℕ). slice_range b (4096 * node_block segment row) (4096 * node_block segment row + 4096)) h.text
        ∙ block_behind (front_bytes (header_for params graph segment.number) (items_for book graph)) (flat_map (node_for graph.points) graph.points) (1 + directory_blocks (length segment.items) segment.m) row front_is_long
        ∙ nth_block (node_for graph.points) graph.points row (record { pid = 0; tag = 0; vector = []; links = [] }) all_long below

    -- Each row has its point, in a block that is in the format.
    pub holds_row : (row : ℕ) → row < length segment.items → IsRowOf params book bytes segment graph row
    holds_row row within =
        let below : row < length graph.points = omega (arith, within, holds_count) in
        let x : Point = point_at graph row in
        let pid : pid_at graph.points row ≡ x.pid = pid_of_at graph.points row (record { pid = 0; tag = 0; vector = []; links = [] }) below in
        let there : has (pids_of graph.points) x.pid ≡ true = subst (λ (p : ℕ). has (pids_of graph.points) p ≡ true) pid (has_pid_at graph.points row below) in
        let is_row : row_of graph.points x.pid ≡ row = ap (row_of graph.points) (sym pid) ∙ row_is graph.points row holds_rises below in
        let linked : IsLinked (pids_of graph.points) x.pid x.links = all_at (λ y. IsLinked (pids_of graph.points) y.pid y.links) graph.points row (record { pid = 0; tag = 0; vector = []; links = [] }) holds_linked.linked below in
        let inside = all_inside (pids_of graph.points) x.links linked.inside in
        let long : length x.vector ≡ params.d = h.sound.vectors row (record { pid = 0; tag = 0; vector = []; links = [] }) below in
        let few : length x.links ≤ params.r = h.sound.degrees row (record { pid = 0; tag = 0; vector = []; links = [] }) below in
        let fits = h.numbers row (record { pid = 0; tag = 0; vector = []; links = [] }) below in
        let links : List ℕ = map (row_of graph.points) x.links in
        let rows_fit : (i : ℕ) → get_or links i 0 < 2 ^ 32 = λ i. small_at links i (all_weaker (λ r. r < length graph.points) (λ r. r < 2 ^ 32) links small_row (below_mapped graph.points x.links holds_rises inside)) in
        let short = vector_at row (record { pid = 0; tag = 0; vector = []; links = [] }) below in
        let sparse = links_at row (record { pid = 0; tag = 0; vector = []; links = [] }) below in
        let item : item_of segment.items row ≡ (x.pid, code book x.vector) =
        ap (λ (items : List Item). item_of items row) h.items ∙ get_or-map (λ (y : Point). (y.pid, code book y.vector)) graph.points row (record { pid = 0; tag = 0; vector = []; links = [] }) (0, []) below in
        let block = holds_block row below in
        record {
          item = item;
          node = ap (node_of params.d) block ∙ ap (λ (n : ℕ). node_of n (node_for graph.points x)) (sym long) ∙ node_read_back x.pid x.tag x.vector links fits.0 fits.1 short sparse rows_fit;
          sound =
              ap₂ (λ (b : List ℕ) (p : ℕ). judge_node b p row (length segment.items) params) block (ap (λ (i : Item). i.0) item)
              ∙ ap (λ (n : ℕ). judge_node (node_for graph.points x) x.pid row n params) holds_count
              ∙ node_accepted x.pid x.tag x.vector links fits.0 fits.1 short sparse rows_fit row (length graph.points) params (node_of_point graph.points params x row holds_rises is_row there linked long few);
          links = inside;
          vector = long;
        }
      where
        all_at : {A : Type 0} (P : A → Type 0) (xs : List A) (r : ℕ) (d : A) → AllByRecursion P xs → r < length xs → P (get_or xs r d)
        all_at P [] r d a l = absurd (omega arith)
        all_at P (x ∷ xs) zero d (h, a) l = h
        all_at P (x ∷ xs) (suc r) d (h, a) l = all_at P xs r d a (omega arith)

        small_at : (xs : List ℕ) (i : ℕ) → AllByRecursion (λ r. r < 2 ^ 32) xs → get_or xs i 0 < 2 ^ 32
        small_at [] i a = omega arith
        small_at (x ∷ xs) zero (h, a) = h
        small_at (x ∷ xs) (suc i) (h, a) = small_at xs i a
