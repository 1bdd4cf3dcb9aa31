-- What the phases of a merge before the last one make, row by row.
use Rattle.std.specs.Prelude.{◌≡◌, ◌≢◌, ◌<◌, ℕ, ◌++◌, Bool, List, [], Option, None, Some, MatchOption, All, map, length, get_or, take, drop}
use Rattle.std.specs.List.Sorted.{IsStrictlyIncreasing}
use Rattle.ann_types.specs.Codes.{decoded}
use Rattle.ann_types.specs.Index.{Index, IsBookOf}
use Rattle.ann_types.specs.Kept.{rule_of}
use Rattle.ann_types.specs.Legal.{pid_end}
use Rattle.ann_types.specs.Merge.{base_size}
use Rattle.ann_types.specs.declared.params.Params.{Params}
use Rattle.ann_types.specs.declared.new_point.NewPoint.{NewPoint}
use Rattle.ann_segment.specs.Directory.{Item}
use Rattle.ann_segment.specs.Segment.{SegmentView}
use Rattle.ann_mdelete.specs.Rows.{AreLists, left_rows, repaired_rows}
use Rattle.ann_minsert.specs.Added.{linked_all}
use Rattle.ann_minsert.specs.Base.{BaseView, IsBase, IsBaseOf}
use Rattle.ann_minsert.specs.Made.{IsMade}
use Rattle.ann_minsert.specs.Mean.{IsCentral}
use Rattle.ann_mplan.specs.Back.{deltas_of}
use Rattle.ann_mplan.specs.Old.{decoded_items, gone_in, lists_in_segment}
use Rattle.ann_mplan.specs.Packing.{rank_in}
use Rattle.ann_mpatch.specs.Plan.{segment_in}
use Rattle.ann_mpatch.specs.declared.plan.PatchPlan.{PatchPlan}

-- the Pids and codes of the old long-term graph's rows; none without a segment
abbrev pub old_items : {S : Type 0} → Option (SegmentView S) → List Item
old_items None = []
old_items (Some segment) = segment.items

-- the codes of the old segment, if there is one, have this many bytes
abbrev pub HasCodes : {S : Type 0} → Option (SegmentView S) → ℕ → Type 0
HasCodes old size = MatchOption old (Unit {0}) (λ segment. segment.m ≡ size)

-- the old segment, the new points and the index belong together; Pids ascend through the segment and then the points
pub record MayMerge {S : Type 0} (index : Index) (old : Option (SegmentView S)) (points : List NewPoint) : Type 0 where
  pub book : IsBookOf index.params index.book
  pub codes : HasCodes old index.params.m
  pub rising : IsStrictlyIncreasing (map (λ (item : Item). item.0) (old_items old) ++ map (λ (x : NewPoint). x.pid) points)
  pub old_small : All (λ (item : Item). item.0 < pid_end) (old_items old)
  pub small : All (λ (x : NewPoint). x.pid < pid_end) points
  pub vectors : All (λ (x : NewPoint). length x.vector ≡ index.params.d) points

-- ---- the old graph, by its rows

-- whether each row is deleted
abbrev pub gone_of : {S : Type 0} → List ℕ → Option (SegmentView S) → List Bool
gone_of dead old = gone_in dead (old_items old)

-- the rows that survive
abbrev pub survivors_of : {S : Type 0} → List ℕ → Option (SegmentView S) → List ℕ
survivors_of dead old = left_rows (gone_of dead old) 0 (length (gone_of dead old))

-- the lists of the old rows are a graph; told, they are those of the sealed blocks
pub record AreOldLists {S : Type 0} (tells : Type 0) (bytes : S → List ℕ) (params : Params) (old : Option (SegmentView S)) (lists : List (List ℕ)) : Type 0 where
  pub count : length lists ≡ length (old_items old)
  pub graph : AreLists params lists
  pub told : tells → MatchOption old (Unit {0}) (λ segment. lists ≡ lists_in_segment segment (bytes segment.seal) params.d)

-- ---- the Delete phase: the lists and the decoded vectors of the survivors, who are known by their ranks

abbrev pub left_lists : {S : Type 0} → Index → List ℕ → Option (SegmentView S) → List (List ℕ) → List (List ℕ)
left_lists index dead old lists =
    let gone : List Bool = gone_of dead old in
    let repaired : List (List ℕ) = repaired_rows (rule_of index.params) lists (decoded_items index.book (old_items old)) gone 0 (length gone) in
    map (map (rank_in (survivors_of dead old))) repaired

abbrev pub left_vectors : {S : Type 0} → Index → List ℕ → Option (SegmentView S) → List (List ℕ)
left_vectors index dead old =
    map (λ row. get_or (decoded_items index.book (old_items old)) row []) (survivors_of dead old)

-- ---- the base, and the new points outside it

-- the base is made of the survivors, or where there are none of the first new points
pub record IsBaseFor (index : Index) (survivors : List ℕ) (lists vectors : List (List ℕ)) (points : List NewPoint) (base : BaseView) (outside : List NewPoint) : Type 0 where
  pub sound : IsBase base
  pub left : survivors ≢ [] → IsBaseOf lists vectors base × (outside ≡ points)
  pub first : survivors ≡ [] → IsMade index.params index.book (take base_size points) base × (outside ≡ drop base_size points)

-- ---- all of it

-- a plan and the row of its entry are what the phases make of an old segment, the deleted points and new points
pub record IsPlanned {S : Type 0} (tells : Type 0) (bytes : S → List ℕ) (index : Index) (dead : List ℕ) (old : Option (SegmentView S)) (points : List NewPoint) (plan : PatchPlan S) (entry : Option ℕ) : Type 0 where
  pub lists : List (List ℕ)
  pub base : BaseView
  pub outside : List NewPoint
  pub read : AreOldLists tells bytes index.params old lists
  pub based : IsBaseFor index (survivors_of dead old) (left_lists index dead old lists) (left_vectors index dead old) points base outside
  pub segment : segment_in plan ≡ old
  pub survivors : plan.survivors.items ≡ survivors_of dead old
  pub points_are : plan.points.items ≡ points
  pub params : plan.params ≡ index.params
  pub own : plan.base ≡ base.lists
  pub links : plan.links ≡ linked_all index.params index.book base outside
  pub added : plan.delta ≡ deltas_of (length base.lists) plan.links
  pub vectors : plan.decoded ≡ base.vectors ++ map (λ (x : NewPoint). decoded index.book x.vector) outside
  pub central : IsCentral index.params.d plan.decoded entry
  pub entered : MatchOption entry (plan.decoded ≡ []) (λ row. row < length plan.decoded)
