-- The view of a list, from its base on.
use Rattle.std.specs.Prelude.{◌≡◌, ◌<◌, ℕ, true, false, not, List, Option, Some, None, All}
use Rattle.std.specs.List.{list_all}
use Rattle.ann_types.specs.Codes.{Book}
use Rattle.ann_types.specs.Graph.{Graph, empty_graph}
use Rattle.ann_types.specs.Index.{Index}
use Rattle.ann_types.specs.Legal.{IsLegal}
use Rattle.ann_types.specs.Lists.{BasedList}
use Rattle.ann_types.specs.declared.entry.Entry.{Entry}
use Rattle.ann_types.specs.declared.params.Params.{Params}
use Rattle.ann_laws.specs.Replays.{is_end}
use Rattle.ann_pq.specs.Codebook.{CodebookView}
use Rattle.ann_reopen.specs.Gone.{gone_of}
use Rattle.ann_segment.specs.Directory.{Item}
use Rattle.ann_segment.specs.Holds.{Holds}
use Rattle.ann_segment.specs.Segment.{SegmentView}
use Rattle.ann_view.specs.View.{IndexView, opening}
use Rattle.ann_resume.specs.declared.view.Start.{Start}

-- the position and the next Pid of a base, and its segment; without one it is the empty base
abbrev pub position_of : {S : Type 0} → Option (Start S) → ℕ
position_of None = 0
position_of (Some start) = start.at

abbrev pub next_of : {S : Type 0} → Option (Start S) → ℕ
next_of None = 0
next_of (Some start) = start.next

abbrev pub segment_of : {S : Type 0} → Option (Start S) → Option (SegmentView S)
segment_of None = None
segment_of (Some start) = Some start.segment

-- a segment has codes of the index, and its Pids are below the next one
pub record StartsBelow {S : Type 0} (params : Params) (start : Start S) : Type 0 where
  pub code_bytes : start.segment.m ≡ params.m
  pub below : All (λ (x : Item). x.0 < start.next) start.segment.items

abbrev pub CanStart : {S : Type 0} → Params → Option (Start S) → Type 0
CanStart params None = Unit {0}
CanStart params (Some start) = StartsBelow params start

-- the view of the base without entries
abbrev pub opened_at : {S : Type 0} → Params → CodebookView → Option (Start S) → IndexView S
opened_at params book start = opening params book (position_of start) (next_of start) (segment_of start)

-- a legal list has this base and these entries, none of them an End, which delete these Pids
pub record IsResumedBy {S : Type 0} (params : Params) (book : CodebookView) (start : Option (Start S)) (these : List Entry) (gone : List (Option ℕ)) (h : BasedList) : Type 0 where
  pub legal : let index : Index = record { params = params; book = book.book } in IsLegal index h
  pub position : h.base.position ≡ position_of start
  pub next : h.base.next ≡ next_of start
  pub entries : h.entries ≡ these
  pub no_end : list_all (λ e. not (is_end e)) h.entries ≡ true
  pub deletes : gone ≡ gone_of h

-- the base's segment holds this graph; without one it is empty
abbrev pub HoldsAtStart : {S : Type 0} → (S → List ℕ) → Params → Book → Option (Start S) → Graph → Type 0
HoldsAtStart bytes params book None graph = graph ≡ empty_graph
HoldsAtStart bytes params book (Some start) graph = Holds params book (bytes start.segment.seal) start.segment graph

-- a view is of this index and of this base's segment, and is open
pub record IsResumed {S : Type 0} (these : Params) (codes : CodebookView) (start : Option (Start S)) (view : IndexView S) : Type 0 where
  pub params : view.params ≡ these
  pub book : view.book ≡ codes
  pub segment : view.segment ≡ segment_of start
  pub open_now : view.closed ≡ false
