-- The merge of new points into the long-term graph (StreamingMerge of FreshDiskANN). All distances are between decoded
-- vectors, save that a new point outside the base walks for its own vector.
use Rattle.std.specs.Prelude.{ℕ, ◌/◌, List, [], ◌∷◌, ◌++◌, ◌==◌, not, Option, map, filter, flat_map, fold, take, drop, length, sum_by, slice_get, slice_index, if◌then◌else◌}
use Rattle.std.specs.List.{list_any, range_with_len}
use Rattle.ann_types.specs.Order.{has, top, ascending}
use Rattle.ann_types.specs.Kept.{Rule, rule_of, kept, within}
use Rattle.ann_types.specs.Graph.{Point, Graph, with_vector, empty_graph, pids_of, links_of, far_from, apart_in, visited}
use Rattle.ann_types.specs.Put.{alone, put}
use Rattle.ann_types.specs.Codes.{decoded, decoded_points, decoded_graph}
use Rattle.ann_types.specs.Index.{Index}
use Rattle.ann_types.specs.declared.new_point.NewPoint.{NewPoint}

-- the members of a set that aren't in another
abbrev pub without : List ℕ → List ℕ → List ℕ
without gone set = filter (λ p. not (has gone p)) set

-- ---- Delete phase

-- the points that aren't deleted
abbrev pub survivors : List ℕ → List Point → List Point
survivors gone points = filter (λ x. not (has gone x.pid)) points

-- the candidates for a point's new neighbours: its neighbours and those of each deleted one, without deleted points
-- and without itself
abbrev pub candidates : List Point → List ℕ → Point → List ℕ
candidates points gone x =
    without (x.pid ∷ gone) (x.links ++ flat_map (links_of points) (filter (has gone) x.links))

-- a point keeps its neighbours where none is deleted, and else what it keeps of the candidates
abbrev pub repaired : Rule → (ℕ → ℕ → ℕ) → List Point → List ℕ → Point → Point
repaired rule apart points gone x =
    if list_any (has gone) x.links then record x { links = kept rule apart x.pid (candidates points gone x) }
    else x

-- the points that survive, without deleted neighbours
unfoldable pub delete_phase : Index → List Point → List ℕ → List Point
delete_phase index points gone =
    let known : List Point = decoded_points index.book points in
    map (repaired (rule_of index.params) (apart_in known) points gone) (survivors gone points)

-- ---- The entry of a long-term graph

-- the mean of vectors of d components: in each component the floor of the mean
abbrev pub mean : ℕ → List (List ℕ) → List ℕ
mean d vectors =
    map (λ i. sum_by (λ x. slice_index x i) vectors / length vectors) (range_with_len 0 d)

-- the point whose vector is nearest to the mean of all, ties by Pid; none where there are no points
abbrev pub central : ℕ → List Point → Option ℕ
central d points =
    let middle : List ℕ = mean d (map (λ x. x.vector) points) in
    slice_get (top (far_from points middle) 1 (pids_of points)) 0

-- MeanEntry: that point by decoded vectors
abbrev pub mean_entry : Index → List Point → Option ℕ
mean_entry index points =
    let known : List Point = decoded_points index.book points in
    central index.params.d known

-- a graph with these points, entered at MeanEntry
abbrev pub entered : Index → List Point → Graph
entered index points = record { entry = mean_entry index points; points = points }

-- ---- Base and Insert phase

-- how many new points make the base where none survives
abbrev pub base_size : ℕ
base_size = 1000

-- the graph that new points make by `put` with their decoded vectors, from the empty graph
abbrev pub put_decoded : Index → List NewPoint → Graph
put_decoded index new =
    fold (λ graph x. put index.params graph x.pid x.tag (decoded index.book x.vector)) empty_graph new

-- the vector of a new point
abbrev pub new_vector : List NewPoint → ℕ → List ℕ
new_vector [] p = []
new_vector (x ∷ xs) p = if x.pid == p then x.vector else new_vector xs p

-- a base where none survives: those points with their own vectors again
abbrev pub first_base : Index → List NewPoint → List Point
first_base index new =
    map (λ (x : Point). with_vector (new_vector new x.pid) x) (put_decoded index new).points

-- the base: the survivors, or where there are none what the first new points make; and the new points
-- outside it
abbrev pub base_points : Index → List Point → List NewPoint → List Point
base_points index [] new = first_base index (take base_size new)
base_points index (x ∷ xs) new = x ∷ xs

abbrev pub outside : List Point → List NewPoint → List NewPoint
outside [] new = drop base_size new
outside (x ∷ xs) new = new

unfoldable pub base_of : Index → List Point → List NewPoint → Graph
base_of index points new = entered index (base_points index points new)

-- a new point with what it keeps of the points that a walk of the base for its full vector visits
abbrev pub linked : Index → Graph → NewPoint → Point
linked index base x =
    let known : Graph = decoded_graph index.book base in
    let own : Point = alone x.pid x.tag (decoded index.book x.vector) in
    let apart : ℕ → ℕ → ℕ = apart_in (known.points ++ own ∷ []) in
    let seen : List ℕ = visited known x.vector index.params.l_build in
    record { pid = x.pid; tag = x.tag; vector = x.vector; links = kept (rule_of index.params) apart x.pid seen }

-- the new points outside the base, each linked to the base alone
unfoldable pub insert_phase : Index → Graph → List NewPoint → List Point
insert_phase index base new = map (linked index base) new

-- ---- Patch phase

-- Delta(p): the new points that have p among their neighbours
abbrev pub delta : List Point → ℕ → List ℕ
delta new p = pids_of (filter (λ x. has x.links p) new)

-- a point of the base linked back to these
abbrev pub patched : Rule → (ℕ → ℕ → ℕ) → List Point → Point → Point
patched rule apart new x =
    record x { links = within rule apart x.pid (ascending (x.links ++ delta new x.pid)) }

-- the whole graph: the base's points linked back, and the new points
unfoldable pub patch_phase : Index → List Point → List Point → Graph
patch_phase index base new =
    let known : List Point = decoded_points index.book (base ++ new) in
    entered index (map (patched (rule_of index.params) (apart_in known) new) base ++ new)

-- Merged(lti, new, X): delete phase, base, insert phase and patch phase in turn
unfoldable pub merged : Index → Graph → List NewPoint → List ℕ → Graph
merged index lti new gone =
    let left : List Point = delete_phase index lti.points gone in
    let base : Graph = base_of index left new in
    patch_phase index base.points (insert_phase index base (outside left new))
