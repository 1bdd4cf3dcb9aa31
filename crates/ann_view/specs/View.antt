-- What is seen of a view, and what is true of every view.
use Rattle.std.specs.Prelude.{◌≡◌, ◌≤◌, ◌<◌, ℕ, Bool, false, List, [], ◌++◌, Option, Some, None, MatchOption, All, map}
use Rattle.std.specs.Arc.{arc_value}
use Rattle.std.specs.Option.{option_map}
use Rattle.std.specs.List.Sorted.{IsStrictlyIncreasing}
use Rattle.std.specs.declared.sync.Arc.{Arc}
use Rattle.std.specs.declared.alloc.Global.{Global}
use Rattle.ann_types.specs.Graph.{Graph, empty_graph, pids_of, IsGraphOf}
use Rattle.ann_types.specs.Index.{Index}
use Rattle.ann_types.specs.Fold.{State, all_points, start}
use Rattle.ann_types.specs.Legal.{pid_end}
use Rattle.ann_types.specs.declared.params.Params.{Params}
use Rattle.ann_pq.specs.Codebook.{CodebookView}
use Rattle.ann_segment.specs.Directory.{Item}
use Rattle.ann_segment.specs.Segment.{SegmentView}
use Rattle.ann_view.specs.Temp.{Temp}

-- the index's parameters and codebook; how many entries lead to it and the next Pid; the state without its long-term
-- graph; the segment that holds that graph, if there is one; and whether it was closed
pub record IndexView (S : Type 0) : Type 0 where
  pub params : Params
  pub book : CodebookView
  pub at : ℕ
  pub next : ℕ
  pub memory : State
  pub segment : Option (SegmentView S)
  pub closed : Bool

-- a view with nothing in memory
abbrev pub opening : {S : Type 0} → Params → CodebookView → ℕ → ℕ → Option (SegmentView S) → IndexView S
opening params book at next segment =
    record { params = params; book = book; at = at; next = next; memory = start empty_graph; segment = segment; closed = false }

-- its index, and its state where this is the long-term graph
abbrev pub index_of : {S : Type 0} → IndexView S → Index
index_of view = record { params = view.params; book = view.book.book }

abbrev pub whole : {S : Type 0} → IndexView S → Graph → State
whole view lti = record view.memory { lti = lti }

-- ---- what is true of every view

-- the Pids of a segment
abbrev pub item_pids : List Item → List ℕ
item_pids items = map (λ (x : Item). x.0) items

abbrev pub segment_pids : {S : Type 0} → Option (SegmentView S) → List ℕ
segment_pids None = []
segment_pids (Some segment) = item_pids segment.items

-- all Pids, in order of age
abbrev pub pids_in : {S : Type 0} → Option (SegmentView S) → State → List ℕ
pids_in segment memory = segment_pids segment ++ pids_of (all_points memory)

-- the graphs in memory are graphs of the index, and the long-term graph isn't among them
pub record IsMemory (params : Params) (memory : State) : Type 0 where
  pub lti : memory.lti ≡ empty_graph
  pub rw : IsGraphOf params memory.rw
  pub ros : All (IsGraphOf params) memory.ros

-- Pids rise with age and are below the next one; what it holds is of the index; and an open merge has begun before
pub record IsView {S : Type 0} (view : IndexView S) : Type 0 where
  pub rising : IsStrictlyIncreasing (pids_in view.segment view.memory)
  pub below : All (λ pid. pid < view.next) (pids_in view.segment view.memory)
  pub next : view.next ≤ pid_end
  pub memory : IsMemory view.params view.memory
  pub book : (view.book.d ≡ view.params.d) × (view.book.m ≡ view.params.m)
  pub codes : MatchOption view.segment (Unit {0}) (λ segment. segment.m ≡ view.params.m)
  pub begun : MatchOption view.memory.begun (Unit {0}) (λ b. b.position < view.at)

-- ---- how it is kept

abbrev pub shown : {S : Type 0} → Temp → Arc CodebookView Global → ℕ → ℕ → Option (Arc (SegmentView S) Global) → Bool → IndexView S
shown temp book at next segment closed = record {
  params = temp.params;
  book = book.value;
  at = at;
  next = next;
  memory = temp.state;
  segment = option_map arc_value segment;
  closed = closed;
}
