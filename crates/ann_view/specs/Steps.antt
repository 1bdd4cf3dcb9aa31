-- What each operation makes of a view, and when it may be applied.
use Rattle.std.specs.Prelude.{◌≡◌, ◌<◌, ◌+◌, ℕ, true, List, [], ◌∷◌, Some, None, IsSome, All, length}
use Rattle.ann_types.specs.Graph.{Point, empty_graph}
use Rattle.ann_types.specs.Fold.{State, all_points, inserted, deleted, begun_at, switched}
use Rattle.ann_types.specs.Legal.{pid_end}
use Rattle.ann_segment.specs.Directory.{Item}
use Rattle.ann_segment.specs.Segment.{SegmentView}
use Rattle.ann_view.specs.View.{IndexView}
use Rattle.ann_view.specs.declared.op.Op.{Op}
use Rattle.ann_view.specs.declared.op.Op.TheVariants.{Insert, Delete, Replace, Begin, End, Close}

-- a view with one entry more, which leaves this state in memory
abbrev pub with_entry_more : {S : Type 0} → IndexView S → State → IndexView S
with_entry_more view memory = record view { at = view.at + 1; memory = memory }

-- the same, of an entry that makes a point
abbrev pub with_point_more : {S : Type 0} → IndexView S → State → IndexView S
with_point_more view memory = record view { at = view.at + 1; next = view.next + 1; memory = memory }

-- the state in memory once the open merge ends
abbrev pub ended : State → State
ended memory = switched memory empty_graph memory.begun

-- the same view with another segment
abbrev pub with_segment : {S : Type 0} → IndexView S → SegmentView S → IndexView S
with_segment view segment = record view { segment = Some segment }

-- the view after an operation
abbrev pub applied : {S : Type 0} → IndexView S → Op S → IndexView S
applied view (Insert tag vector) = with_point_more view (inserted view.params view.memory view.next tag vector)
applied view (Delete pid) = with_entry_more view (deleted view.memory (pid ∷ []))
applied view (Replace tag gone vector) =
    with_point_more view (inserted view.params (deleted view.memory (gone ∷ [])) view.next tag vector)
applied view Begin = with_entry_more view (begun_at view.memory view.at)
applied view (End segment) = with_segment (with_entry_more view (ended view.memory)) segment.value
applied view Close = record view { closed = true }

-- a vector has d components, and there is a Pid for its point
pub record FitsIn {S : Type 0} (view : IndexView S) (vector : List ℕ) : Type 0 where
  pub width : length vector ≡ view.params.d
  pub pid : view.next < pid_end

-- a merge is open, and what this segment holds is older than the points that stay in memory
pub record MayEnd {S : Type 0} (view : IndexView S) (segment : SegmentView S) : Type 0 where
  pub begun : IsSome view.memory.begun
  pub code_bytes : segment.m ≡ view.params.m
  pub below : All (λ (x : Item). x.0 < view.next) segment.items
  pub older : All (λ (x : Item). All (λ (y : Point). x.0 < y.pid) (all_points (ended view.memory))) segment.items

-- an operation may be applied
abbrev pub MayApply : {S : Type 0} → IndexView S → Op S → Type 0
MayApply view (Insert tag vector) = FitsIn view vector
MayApply view (Delete pid) = Unit {0}
MayApply view (Replace tag gone vector) = FitsIn view vector
MayApply view Begin = view.memory.begun ≡ None
MayApply view (End segment) = MayEnd view segment.value
MayApply view Close = Unit {0}
