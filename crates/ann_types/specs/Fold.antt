-- What a list of entries leaves: the graphs in memory, the long-term graph and the delete list, which are the
-- components of FreshDiskANN.
use Rattle.std.specs.Prelude.{ℕ, List, [], ◌∷◌, ◌++◌, ◌==◌, Option, Some, None, not, map, filter, flat_map, take, drop, length, if◌then◌else◌}
use Rattle.ann_types.specs.Order.{has, ascending}
use Rattle.ann_types.specs.Graph.{Point, Graph, empty_graph, is_empty}
use Rattle.ann_types.specs.Put.{put}
use Rattle.ann_types.specs.Index.{Index}
use Rattle.ann_types.specs.Merge.{without, survivors, merged}
use Rattle.ann_types.specs.Lists.{Names, names_of, BasedList, bare, with_entry, length_of, next_pid, pids_at, live_of}
use Rattle.ann_types.specs.declared.params.Params.{Params}
use Rattle.ann_types.specs.declared.new_point.NewPoint.{NewPoint}
use Rattle.ann_types.specs.declared.entry.Entry.{Entry}
use Rattle.ann_types.specs.declared.entry.Entry.TheVariants.{Insert, Delete, Begin, End, Replace}

-- an open Begin: its position, and what its merge takes: how many of the frozen graphs, counted from the oldest, and
-- which deleted points
pub record Begun : Type 0 where
  pub position : ℕ
  pub frozen : ℕ
  pub gone : List ℕ

-- Fold(h): the graph that takes new points (RW-TempIndex), the frozen graphs in order of age
-- (RO-TempIndexes), the long-term graph (LTI), the deleted points (DeleteList) and the open Begin, if
-- there is one
pub record State : Type 0 where
  pub rw : Graph
  pub ros : List Graph
  pub lti : Graph
  pub dead : List ℕ
  pub begun : Option Begun

-- the points of all graphs of a state, in order of Pid
abbrev pub all_points : State → List Point
all_points s = s.lti.points ++ flat_map (λ (g : Graph). g.points) s.ros ++ s.rw.points

-- the points that aren't deleted, as tag and Pid
abbrev pub alive_of : State → Names
alive_of s = filter (λ e. not (has s.dead e.1)) (names_of (all_points s))

-- the state of a list without entries: the long-term graph is the base's, all else is empty
abbrev pub start : Graph → State
start graph = record { rw = empty_graph; ros = []; lti = graph; dead = []; begun = None }

-- a graph goes to the end of the frozen ones, and the graph that takes new points is empty
abbrev pub frozen : State → Graph → State
frozen s graph = record s { rw = empty_graph; ros = s.ros ++ graph ∷ [] }

-- this graph in the place of `rw`; it freezes where it has freeze_at points
abbrev pub grown : Params → State → Graph → State
grown params s graph = if length graph.points == params.freeze_at then frozen s graph else record s { rw = graph }

-- a point is put into `rw`
abbrev pub inserted : Params → State → ℕ → ℕ → List ℕ → State
inserted params s n tag vector = grown params s (put params s.rw n tag vector)

-- Pids are added to the deleted points
abbrev pub deleted : State → List ℕ → State
deleted s pids = record s { dead = ascending (s.dead ++ pids) }

-- a Begin at a position is open, and keeps the number of frozen graphs and the deleted points of this moment
abbrev pub opened : State → ℕ → State
opened s position =
    record s { begun = Some (record { position = position; frozen = length s.ros; gone = s.dead }) }

-- a Begin at a position: a `rw` that isn't empty freezes first
abbrev pub begun_at : State → ℕ → State
begun_at s position = opened (if is_empty s.rw then s else frozen s s.rw) position

-- a point as a merge takes it, without its neighbours
abbrev pub new_point : Point → NewPoint
new_point x = record { pid = x.pid; tag = x.tag; vector = x.vector }

-- the points that a merge adds: those of its frozen graphs that aren't among its deleted points
abbrev pub new_points : State → Begun → List NewPoint
new_points s b = map new_point (survivors b.gone (flat_map (λ (g : Graph). g.points) (take b.frozen s.ros)))

-- the long-term graph that the open merge makes; without an open Begin it is the one that is there
abbrev pub merge_of : Index → State → Option Begun → Graph
merge_of index s None = s.lti
merge_of index s (Some b) = merged index s.lti (new_points s b) b.gone

-- an End puts a new long-term graph in the place of the old one; the graphs and the deleted points that its merge took
-- leave. Without an open Begin it changes nothing
abbrev pub switched : State → Graph → Option Begun → State
switched s lti None = s
switched s lti (Some b) =
    record { rw = s.rw; ros = drop b.frozen s.ros; lti = lti; dead = without b.gone s.dead; begun = None }

-- the state after one more entry, from the list before it and that list's state
abbrev pub step : Index → BasedList → State → Entry → State
step index h s (Insert by tag vector) = inserted index.params s (next_pid h) tag vector
step index h s (Delete by tag) = deleted s (pids_at (live_of h) tag)
step index h s (Begin by) = begun_at s (length_of h)
step index h s (End by segment) = switched s (merge_of index s s.begun) s.begun
step index h s (Replace by tag vector) =
    inserted index.params (deleted s (pids_at (live_of h) tag)) (next_pid h) tag vector

-- the state after further entries
abbrev pub fold_from : Index → BasedList → State → List Entry → State
fold_from index h s [] = s
fold_from index h s (e ∷ es) = fold_from index (with_entry h e) (step index h s e) es

abbrev pub fold_of : Index → BasedList → State
fold_of index h = fold_from index (bare h.base) (start h.base.graph) h.entries
