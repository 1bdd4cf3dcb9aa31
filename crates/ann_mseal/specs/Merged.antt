-- The header and the directory of the merged rows, and the segment that they belong to.
use Rattle.std.specs.Prelude.{◌≡◌, ℕ, ◌++◌, List, [], Option, None, Some, MatchOption, map, length}
use Rattle.ann_types.specs.Codes.{Book, code}
use Rattle.ann_types.specs.declared.new_point.NewPoint.{NewPoint}
use Rattle.ann_block.specs.declared.header.Header.{Header}
use Rattle.ann_segment.specs.Directory.{Item, item_of}
use Rattle.ann_segment.specs.Segment.{SegmentView}
use Rattle.ann_mlaws.specs.Rows.{old_items}
use Rattle.ann_mpatch.specs.Plan.{segment_in}
use Rattle.ann_mpatch.specs.declared.plan.PatchPlan.{PatchPlan}

-- the Pid and the code of a new point
abbrev pub new_item : Book → NewPoint → Item
new_item book x = (x.pid, code book x.vector)

-- the Pid and the code in each merged row: those of each survivor as they stand in its segment, then those of the new points
abbrev pub merged_items : {S : Type 0} → Book → PatchPlan S → List Item
merged_items book plan =
    map (item_of (old_items (segment_in plan))) plan.survivors.items ++ map (new_item book) plan.points.items

abbrev pub merged_header : {S : Type 0} → PatchPlan S → Option ℕ → ℕ → Header
merged_header plan entry number =
    record { number = number; d = plan.params.d; r = plan.params.r; m = plan.params.m; count = length plan.decoded; start_row = entry }

-- the segment of a merge, whether or not it tells its bytes
pub record IsMerged {S : Type 0} (book : Book) (plan : PatchPlan S) (start : Option ℕ) (wanted : ℕ) (segment : SegmentView S) : Type 0 where
  pub number : segment.number ≡ wanted
  pub code_bytes : segment.m ≡ plan.params.m
  pub entry : segment.entry ≡ start
  pub items : segment.items ≡ merged_items book plan
