-- Rounds by the rows of a segment are the rounds of the graph that it holds.
use Rattle.std.proofs.Common.{◌≡◌, ℕ, zero, suc, ◌<◌, true, false, cond, not, List, [], ◌∷◌, ◌++◌, None, Some, map, filter, length, get_or, refl, sym, ap, ap₂, subst, ◌∙◌, arith}
use Rattle.std.specs.Prelude.{All, Option, Result, Ok, Err, OnOk, IfErr}
use Rattle.ann_beam.specs.declared.refused.SearchRefused.{SearchRefused}
use Rattle.ann_beam.specs.declared.refused.SearchRefused.TheVariants.{Dimension, Disk, BadSegment, Shut}
use Rattle.std.specs.Option.{option_map}
use Rattle.std.specs.List.{AllByRecursion}
use Rattle.std.proofs.lemmas.List.{get_or-map, length-map}
use Rattle.std.proofs.lemmas.List.Elements.{recursion_from_All}
use Rattle.ann_types.specs.Order.{has}
use Rattle.ann_types.specs.Distance.{distance}
use Rattle.ann_types.specs.Walk.{Ground, near}
use Rattle.ann_types.specs.Rounds.{round, rounds_on, rounds_of, rounds_from, rounds}
use Rattle.ann_types.specs.Graph.{Point, Graph, with_vector, pids_of, links_of, tag_of, far_from, ground}
use Rattle.ann_types.specs.Codes.{Book, code, decoded, decoded_points}
use Rattle.ann_types.specs.Merge.{without}
use Rattle.ann_types.specs.declared.params.Params.{Params}
use Rattle.ann_types.proofs.Options.{none_some, some_is}
use Rattle.ann_types.proofs.Sets.{Rises}
use Rattle.ann_types.proofs.Graphs.{IsEntry, entry_from_graph}
use Rattle.ann_types.proofs.Merges.{pids_decoded}
use Rattle.ann_types.proofs.Coded.{HasWidth, IsCode, code_is_code, length_code}
use Rattle.ann_types.proofs.Renamed.{Below, Renames, below_append, below_take, below_filter, below_near, rounds_map}
use Rattle.ann_types.specs.Rows.{pid_at}
use Rattle.ann_types.proofs.Rowed.{pid_of_at, links_at, tag_at, far_at, renames_at}
use Rattle.ann_pq.specs.Codebook.{CodebookView}
use Rattle.ann_pq.specs.Tables.{AreTablesOf, looked_up}
use Rattle.ann_pq.proofs.Sums.{guided_is}
use Rattle.ann_block.specs.Node.{NodeFields, judge_node}
use Rattle.ann_segment.specs.Directory.{Item, item_of}
use Rattle.ann_segment.specs.Segment.{SegmentView}
use Rattle.ann_segment.specs.Text.{row_of}
use Rattle.ann_segment.specs.Holds.{Holds}
use Rattle.ann_segment.proofs.Holding.{IsRowOf, point_at, has_row, names_back, below_mapped, holds_linked, holds_count, holds_row}
use Rattle.ann_beam.specs.Ranking.{Ranked, rank, with_all}
use Rattle.ann_vault.specs.Reads.{more_reads}
use Rattle.ann_beam.specs.Candidates.{far_row}
use Rattle.ann_segment.specs.Rows.{IsBadNode, block_at, links_in, node_in}
use Rattle.ann_beam.specs.Visits.{alive, point_in}
use Rattle.ann_beam.specs.Quest.{Standing}
use Rattle.ann_beam.specs.Progress.{Sight, Route, HasVisited, ground_at, sight_in}
use Rattle.ann_beam.specs.Refusals.{HasGone, IsRefusedFor}
use Rattle.ann_beam.specs.Found.{IsSearched, rows_from}

-- ---- codes

code_fits : (book : Book) (code : List ℕ) (k : ℕ) → AllByRecursion (λ part. length part ≡ 256) book → IsCode book code → k < length code → get_or code k 0 < 256
code_fits [] [] k a c l = absurd (omega arith)
code_fits [] (n ∷ code) k a c l = elim c [ ]
code_fits (part ∷ book) [] k a c l = absurd (omega arith)
code_fits (part ∷ book) (n ∷ code) zero (h, a) (m, c) l = omega arith
code_fits (part ∷ book) (n ∷ code) (suc k) (h, a) (m, c) l = code_fits book code k a c (omega arith)

has_width : (width : ℕ) (book : Book) → AllByRecursion (λ part. length part ≡ 256) book → AllByRecursion (λ part. All (λ centroid. length centroid ≡ width) part) book → HasWidth width book
has_width width [] a b = tt
has_width width (part ∷ book) (h, a) (k, b) = ((omega arith, recursion_from_All (λ c. length c ≡ width) part k), has_width width book a b)

-- The distance by tables of a code is the guided distance.
guided_by : (book : Book) (query vector : List ℕ) (tables : List (List ℕ)) → AreTablesOf book query tables → length tables ≡ length book → looked_up tables (code book vector) ≡ distance query (decoded book vector)
guided_by book query vector tables are same =
    let parts = recursion_from_All (λ part. length part ≡ 256) book are.shape.centroids in
    let wide = recursion_from_All (λ part. All (λ centroid. length centroid ≡ are.width) part) book are.shape.widths in
    guided_is book query (code book vector) tables are (length_code book vector ∙ sym same)
    (λ k l. code_fits book (code book vector) k parts (code_is_code _ book vector are.width (has_width are.width book parts wide)) l)

-- ---- rounds stay among the rows

module _ (f : ℕ → ℕ) (n : ℕ) (g h : Ground) (w : Renames f n g h) where
  below_rounds_on : (width b k : ℕ) (v : List ℕ) → Below n v → Below n (rounds_on g width b k v)
  below_rounds_on width b zero v a = a
  below_rounds_on width b (suc k) v a =
      elim (round g width b v) as (λ ps. Below n ps → Below n (elim ps as (λ _. List ℕ) [ [] ↦ v | q ∷ qs ↦ rounds_on g width b k (v ++ q ∷ qs) ])) [
        | [] ↦ λ c. a
        | q ∷ qs ↦ λ c. below_rounds_on width b k (v ++ q ∷ qs) (below_append n v (q ∷ qs) a c)
      ] (below_take n b (filter (λ r. not (has v r)) (near g width v)) (below_filter n (λ r. not (has v r)) (near g width v) (below_near f n g h w width v a)))

  below_rounds : (width b count : ℕ) → Below n (rounds_of g width b count)
  below_rounds width b count = below_rounds_on width b count [] tt

-- ---- points

-- a map by two functions that agree on rows
map_same : {A : Type 0} (n : ℕ) (f g : ℕ → A) (rows : List ℕ) → ((r : ℕ) → r < n → f r ≡ g r) → Below n rows → map f rows ≡ map g rows
map_same n f g [] same b = refl
map_same n f g (r ∷ rows) same (h, b) = ap₂ ◌∷◌ (same r h) (map_same n f g rows same b)

map_map : {A : Type 0} (f : ℕ → A) (g : ℕ → ℕ) (rows : List ℕ) → map (λ r. f (g r)) rows ≡ map f (map g rows)
map_map f g [] = refl
map_map f g (r ∷ rows) = ap (λ t. f (g r) ∷ t) (map_map f g rows)

alive_ranked : (dead : List ℕ) (far tag : ℕ → ℕ) (pids : List ℕ) → alive dead (map (rank far tag) pids) ≡ map (rank far tag) (without dead pids)
alive_ranked dead far tag [] = refl
alive_ranked dead far tag (p ∷ pids) = elim (has dead p) as (λ t. cond (not t) (rank far tag p ∷ alive dead (map (rank far tag) pids)) (alive dead (map (rank far tag) pids)) ≡ map (rank far tag) (cond (not t) (p ∷ without dead pids) (without dead pids))) [
  | true ↦ alive_ranked dead far tag pids
  | false ↦ ap (λ t. rank far tag p ∷ t) (alive_ranked dead far tag pids)
]

-- ---- a segment that holds a graph

module _ {S : Type 0} (params : Params) (book : Book) (bytes : List ℕ) (segment : SegmentView S) (graph : Graph) (h : Holds params book bytes segment graph) (parts : length book ≡ params.m) where
  abbrev pub ground_by : List (List ℕ) → ℕ → Ground
  ground_by tables entry = record { entry = entry; links = links_in segment bytes params.d; far = far_row tables segment.items }

  known : List Point
  known = decoded_points book graph.points

  same_pids : pids_of (decoded_points book graph.points) ≡ pids_of graph.points
  same_pids = pids_decoded (record { params = params; book = book }) graph.points

  same_count : length (decoded_points book graph.points) ≡ length graph.points
  same_count = length-map graph.points (λ (x : Point). with_vector (decoded book x.vector) x)

  rises : Rises (pids_of graph.points)
  rises = (holds_linked params book bytes segment graph h).rises

  row_at : (row : ℕ) → row < length graph.points → IsRowOf params book bytes segment graph row
  row_at row below = holds_row params book bytes segment graph h parts row (let count = holds_count params book bytes segment graph h in omega arith)

  -- the decoded point of a row
  decoded_at : (row : ℕ) → row < length graph.points → get_or (decoded_points book graph.points) row (point_at graph row) ≡ with_vector (decoded book (point_at graph row).vector) (point_at graph row)
  decoded_at row below = get_or-map (λ (x : Point). with_vector (decoded book x.vector) x) graph.points row (record { pid = 0; tag = 0; vector = []; links = [] }) (point_at graph row) below

  -- what is ranked of rows is what the definition ranks of their Pids
  same_point : (query : List ℕ) (row : ℕ) → row < length graph.points → point_in segment bytes params.d query row ≡ rank (far_from graph.points query) (tag_of graph.points) (pid_at graph.points row)
  same_point query row below =
      let is = row_at row below in
      let d : Point = record { pid = 0; tag = 0; vector = []; links = [] } in
      let pid : (item_of segment.items row).0 ≡ pid_at graph.points row = ap (λ (i : Item). i.0) is.item ∙ sym (pid_of_at graph.points row d below) in
      let tag : (node_in segment bytes params.d row).tag ≡ tag_of graph.points (pid_at graph.points row) = ap (λ (n : NodeFields). n.tag) is.node ∙ sym (tag_at graph.points row d rises below) in
      let far : distance query (node_in segment bytes params.d row).vector ≡ far_from graph.points query (pid_at graph.points row) = ap (λ (n : NodeFields). distance query n.vector) is.node ∙ sym (far_at graph.points query row d rises below) in
      λ i. record { pid = pid i; tag = tag i; distance = far i }

  ranked_rows : (query dead rows : List ℕ) → Below (length graph.points) rows → alive dead (map (point_in segment bytes params.d query) rows) ≡ map (rank (far_from graph.points query) (tag_of graph.points)) (without dead (map (pid_at graph.points) rows))
  ranked_rows query dead rows below =
      ap (alive dead) (map_same (length graph.points) (point_in segment bytes params.d query) (λ r. rank (far_from graph.points query) (tag_of graph.points) (pid_at graph.points r)) rows (same_point query) below ∙ map_map (rank (far_from graph.points query) (tag_of graph.points)) (pid_at graph.points) rows)
      ∙ alive_ranked dead (far_from graph.points query) (tag_of graph.points) (map (pid_at graph.points) rows)

  -- what rounds see of the rows is what they see of the decoded graph
  module _ (tables : List (List ℕ)) (query : List ℕ) (are : AreTablesOf book query tables) (many : length tables ≡ length book) where
    same_far : (row : ℕ) → row < length (decoded_points book graph.points) → far_from (decoded_points book graph.points) query (pid_at (decoded_points book graph.points) row) ≡ far_row tables segment.items row
    same_far row within =
        let below : row < length graph.points = omega (arith, within, same_count) in
        far_at (decoded_points book graph.points) query row (point_at graph row) (subst Rises (sym same_pids) rises) within
        ∙ ap (λ (x : Point). distance query x.vector) (decoded_at row below)
        ∙ sym (ap (λ (i : Item). looked_up tables i.1) (row_at row below).item ∙ guided_by book query (point_at graph row).vector tables are many)

    same_links : (row : ℕ) → row < length (decoded_points book graph.points) → links_of (decoded_points book graph.points) (pid_at (decoded_points book graph.points) row) ≡ map (pid_at (decoded_points book graph.points)) (links_in segment bytes params.d row)
    same_links row within =
        let below : row < length graph.points = omega (arith, within, same_count) in
        let is = row_at row below in
        links_at (decoded_points book graph.points) row (point_at graph row) (subst Rises (sym same_pids) rises) within
        ∙ ap (λ (x : Point). x.links) (decoded_at row below)
        ∙ sym (ap (λ (xs : List ℕ). map (λ r. get_or xs r 0) (links_in segment bytes params.d row)) same_pids
        ∙ ap (λ (n : NodeFields). map (pid_at graph.points) n.neighbours) is.node
        ∙ names_back graph.points (point_at graph row).links rises is.links)

    links_below : (row : ℕ) → row < length (decoded_points book graph.points) → Below (length (decoded_points book graph.points)) (links_in segment bytes params.d row)
    links_below row within =
        let below : row < length graph.points = omega (arith, within, same_count) in
        let is = row_at row below in
        subst (λ (n : ℕ). Below n (links_in segment bytes params.d row)) (sym same_count)
        (subst (λ (n : NodeFields). Below (length graph.points) n.neighbours) (sym is.node) (below_mapped graph.points (point_at graph row).links rises is.links))

    renames : (entry : ℕ) → entry < length graph.points → Renames (pid_at (decoded_points book graph.points)) (length (decoded_points book graph.points)) (ground_by tables entry) (ground (decoded_points book graph.points) query (pid_at (decoded_points book graph.points) entry))
    renames entry below =
        renames_at (decoded_points book graph.points) query entry (links_in segment bytes params.d) (far_row tables segment.items) (subst Rises (sym same_pids) rises) (omega (arith, below, same_count)) same_links links_below same_far

    entry_is : (entry : ℕ) (o : Option ℕ) → IsEntry graph.points o → Some entry ≡ option_map (row_of graph.points) o → (pid : ℕ) × (o ≡ Some pid) × (entry < length graph.points) × (pid_at graph.points entry ≡ pid)
    entry_is entry None there e = absurd (none_some entry (sym e))
    entry_is entry (Some pid) there e =
        let is : entry ≡ row_of graph.points pid = some_is entry (row_of graph.points pid) e in
        let row = has_row graph.points pid rises there in
        (pid, refl, subst (λ (r : ℕ). r < length graph.points) (sym is) row.below, ap (pid_at graph.points) is ∙ row.back)

    -- The Pids that rounds visit are those of the rows that the beam visits.
    same_rounds : (width w entry : ℕ) → segment.entry ≡ Some entry → (rounds book graph query width w ≡ map (pid_at graph.points) (rounds_of (ground_by tables entry) width w (length segment.items))) × Below (length graph.points) (rounds_of (ground_by tables entry) width w (length segment.items))
    same_rounds width w entry begins =
        let got = entry_is entry graph.entry (entry_from_graph graph h.sound.sound) (sym begins ∙ h.entry) in
        let w' = renames entry got.2 in
        let g : Ground = ground_by tables entry in
        let pid : pid_at (decoded_points book graph.points) entry ≡ got.0 = ap (λ (xs : List ℕ). get_or xs entry 0) same_pids ∙ got.3 in
        let count = holds_count params book bytes segment graph h in (
          ap (rounds_from book graph.points query width w) got.1
              ∙ ap (λ (p : ℕ). rounds_of (ground (decoded_points book graph.points) query p) width w (length graph.points)) (sym pid)
              ∙ rounds_map (pid_at (decoded_points book graph.points)) (length (decoded_points book graph.points)) g (ground (decoded_points book graph.points) query (pid_at (decoded_points book graph.points) entry)) w' width w (length graph.points)
              ∙ ap (λ (xs : List ℕ). map (λ r. get_or xs r 0) (rounds_of g width w (length graph.points))) same_pids
              ∙ ap (λ (n : ℕ). map (pid_at graph.points) (rounds_of g width w n)) (sym count),
          subst (λ (n : ℕ). Below n (rounds_of g width w (length segment.items))) same_count
              (below_rounds (pid_at (decoded_points book graph.points)) (length (decoded_points book graph.points)) g (ground (decoded_points book graph.points) query (pid_at (decoded_points book graph.points) entry)) w' width w (length segment.items)),
        )

    -- What was ranked is what the definition ranks, and each of the points was read once.
    pub visits_graph : (dead : List ℕ) (width limit entry : ℕ) (old new : Standing) → segment.entry ≡ Some entry → HasVisited (sight_in (record { segment = segment; params = params; query = query; dead = dead }) bytes tables limit) (rounds_of (ground_by tables entry) width params.w (length segment.items)) old new → (new.result.points ≡ with_all limit (map (rank (far_from graph.points query) (tag_of graph.points)) (without dead (rounds book graph query width params.w))) old.result.points) × (new.reads ≡ more_reads (length (rounds book graph query width params.w)) old.reads)
    visits_graph dead width limit entry old new begins visits =
        let rows : List ℕ = rounds_of (ground_by tables entry) width params.w (length segment.items) in
        let same = same_rounds width params.w entry begins in (
          visits.ranked
              ∙ ap (λ (xs : List Ranked). with_all limit xs old.result.points)
              (ranked_rows query dead rows same.1
              ∙ ap (λ (pids : List ℕ). map (rank (far_from graph.points query) (tag_of graph.points)) (without dead pids)) (sym same.0)),
          visits.reads ∙ ap (λ (n : ℕ). more_reads n old.reads) (sym (ap length same.0 ∙ length-map rows (pid_at graph.points))),
        )

  -- no block is bad
  pub none_bad : (page : List ℕ) (block : ℕ) → IsBadNode segment params page block → page ≡ block_at bytes block → ⊥
  none_bad page block bad is =
      bad.refused (ap (λ (b : List ℕ). judge_node b (item_of segment.items bad.row).0 bad.row (length segment.items) params) (is ∙ ap (block_at bytes) bad.place) ∙ (holds_row params book bytes segment graph h parts bad.row bad.within).sound)

-- a refusal isn't of a block where no block is bad
pub only_disk : {S T : Type 0} (tells : Type 0) (bytes : S → List ℕ) (book : Book) (segment : SegmentView S) (params : Params) (graph : Graph) (old new : Standing) (r : Result T SearchRefused) → length book ≡ params.m → tells → Holds params book (bytes segment.seal) segment graph → IfErr r (IsRefusedFor tells bytes (Some segment) params old new) → IfErr r (λ why. why ≡ Disk)
only_disk tells bytes book segment params graph old new (Ok x) parts told h refused = tt
only_disk tells bytes book segment params graph old new (Err (Dimension got want)) parts told h refused = absurd refused
only_disk tells bytes book segment params graph old new (Err Disk) parts told h refused = refl
only_disk tells bytes book segment params graph old new (Err (BadSegment block)) parts told h refused = absurd (none_bad params book (bytes segment.seal) segment graph h parts new.page block refused.bad (refused.told told))
only_disk tells bytes book segment params graph old new (Err Shut) parts told h refused = absurd refused

-- ---- how a search ends

-- the rows were visited from the entry
pub searched_by : {S T : Type 0} (tells : Type 0) (bytes : S → List ℕ) (segment : SegmentView S) (params : Params) (book : CodebookView) (dead query query' : List ℕ) (width width' entry : ℕ) (tables : List (List ℕ)) (old new : Standing) (result : Result T SearchRefused) → length book.book ≡ params.m → segment.entry ≡ Some entry → query' ≡ query → width' ≡ width → AreTablesOf book.book query' tables → length tables ≡ length book.book → HasGone tells bytes segment params old new result → (tells → OnOk result (HasVisited (sight_in (record { segment = segment; params = params; query = query'; dead = dead }) (bytes segment.seal) tables old.result.limit) (rounds_of (ground_at (sight_in (record { segment = segment; params = params; query = query'; dead = dead }) (bytes segment.seal) tables old.result.limit) entry) width' params.w (length segment.items)) old new)) → IsSearched tells bytes (record { segment = Some segment; params = params; book = book; dead = dead; query = query; width = width }) old new result
searched_by {T = T} tells bytes segment params book dead query query' width width' entry tables old new (Err why) parts begins same wide are many gone visits = record {
  found = tt;
  refused = gone.refused;
  sound = λ told graph h. only_disk {T = T} tells bytes book.book segment params graph old new (Err why) parts told h gone.refused;
}
searched_by {S = S} tells bytes segment params book dead query query' width width' entry tables old new (Ok x) parts begins same wide are many gone visits =
    let route : List ℕ → Route S = λ (q : List ℕ). record { segment = segment; params = params; query = q; dead = dead } in
    let sight : List ℕ → Sight = λ (q : List ℕ). sight_in (route q) (bytes segment.seal) tables old.result.limit in
    let fill : AreTablesOf book.book query tables = subst (λ (q : List ℕ). AreTablesOf book.book q tables) same are in
    let all : tells → HasVisited (sight query) (rounds_of (ground_at (sight query) entry) width params.w (length segment.items)) old new = λ told.
    subst (λ (q : List ℕ). HasVisited (sight q) (rounds_of (ground_at (sight q) entry) width params.w (length segment.items)) old new) same
    (subst (λ (n : ℕ). HasVisited (sight query') (rounds_of (ground_at (sight query') entry) n params.w (length segment.items)) old new) wide (visits told)) in
    record {
      found = record {
        read = gone.read;
        visited = λ told. record {
          tables = tables;
          guided = fill;
          visits = subst (λ (o : Option ℕ). HasVisited (sight query) (rows_from (sight query) width params.w (length segment.items) o) old new) (sym begins) (all told);
        };
        held = λ told graph h.
            let both = visits_graph params book.book (bytes segment.seal) segment graph h parts tables query fill many dead width old.result.limit entry old new begins (all told) in
            record { points = both.0; reads = both.1 };
      };
      refused = tt;
      sound = λ told graph h. tt;
    }
