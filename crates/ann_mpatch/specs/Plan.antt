-- The merged rows of a plan: the survivors of a segment, and then the new points.
use Rattle.std.specs.Prelude.{◌≡◌, ◌≤◌, ◌<◌, ℕ, ◌+◌, ◌-◌, ◌++◌, min, All, List, [], Option, None, Some, length, map, get_or, take, drop}
use Rattle.std.specs.Arc.{arc_value}
use Rattle.std.specs.List.{range_with_len}
use Rattle.std.specs.List.Sorted.{IsStrictlyIncreasing}
use Rattle.std.specs.Option.{option_map}
use Rattle.ann_types.specs.Order.{ascending}
use Rattle.ann_types.specs.Kept.{rule_of, within}
use Rattle.ann_types.specs.declared.new_point.NewPoint.{NewPoint}
use Rattle.ann_segment.specs.Segment.{SegmentView}
use Rattle.ann_mdelete.specs.Decoded.{apart_of}
use Rattle.ann_mpatch.specs.Source.{Source, source_of}
use Rattle.ann_mpatch.specs.declared.plan.PatchPlan.{PatchPlan}

-- the segment, if there is one
abbrev pub segment_in : {S : Type 0} → PatchPlan S → Option (SegmentView S)
segment_in plan = option_map arc_value plan.segment

-- its rows, where `bytes` are those of a seal
abbrev pub source_for : {S : Type 0} → (S → List ℕ) → PatchPlan S → Source
source_for bytes plan = source_of bytes (segment_in plan)

-- how many rows it has
abbrev pub row_count : {S : Type 0} → Option (SegmentView S) → ℕ
row_count None = 0
row_count (Some segment) = length segment.items

-- ---- the merged rows

-- the row in the segment of a survivor
abbrev pub survivor_at : {S : Type 0} → PatchPlan S → ℕ → ℕ
survivor_at plan row = get_or plan.survivors.items row 0

-- the new point of a later row
abbrev pub new_at : {S : Type 0} → PatchPlan S → ℕ → NewPoint
new_at plan row =
    get_or plan.points.items (row - length plan.survivors.items) (record { pid = 0; tag = 0; vector = [] })

-- the neighbours of a row of the base with the new ones, or what the row keeps of them where they are more than R
abbrev pub patched_list : {S : Type 0} → PatchPlan S → ℕ → List ℕ
patched_list plan row =
    within (rule_of plan.params) (apart_of plan.decoded) row
    (ascending (get_or plan.base row [] ++ get_or plan.delta row []))

-- the lists of the merged rows: those of the base are patched, and the later ones are the links
abbrev pub merged_lists : {S : Type 0} → PatchPlan S → List (List ℕ)
merged_lists plan = map (patched_list plan) (range_with_len 0 (length plan.base)) ++ plan.links

abbrev pub merged_list : {S : Type 0} → PatchPlan S → ℕ → List ℕ
merged_list plan row = get_or (merged_lists plan) row []

-- ---- pieces

-- how many rows the piece from a row on has
abbrev pub piece_size : {S : Type 0} → PatchPlan S → ℕ → ℕ
piece_size plan first = min 256 (length plan.decoded - first)

-- the survivors among so many rows from one on
abbrev pub survivors_in : {S : Type 0} → PatchPlan S → ℕ → ℕ → List ℕ
survivors_in plan first count = take count (drop first plan.survivors.items)

-- ---- what a plan must be

-- rows in ascending order, from one on and below another
pub record AreRowsFrom (low high : ℕ) (list : List ℕ) : Type 0 where
  pub rising : IsStrictlyIncreasing list
  pub inside : All (λ row. (low ≤ row) × (row < high)) list

pub record IsPlan {S : Type 0} (plan : PatchPlan S) : Type 0 where
  -- the survivors are rows of the segment, so without one there are none
  pub survivors : All (λ row. row < row_count (segment_in plan)) plan.survivors.items
  -- each merged row has its vector and its list, and each row of the base its new neighbours
  pub decoded : length plan.decoded ≡ length plan.survivors.items + length plan.points.items
  pub rows : length plan.base + length plan.links ≡ length plan.decoded
  pub pairs : length plan.delta ≡ length plan.base
  -- rows of the base and later ones are linked to the base, and the new neighbours are later rows
  pub base : All (AreRowsFrom 0 (length plan.base)) plan.base
  pub delta : All (AreRowsFrom (length plan.base) (length plan.decoded)) plan.delta
  pub links : All (AreRowsFrom 0 (length plan.base)) plan.links
  pub few : All (λ list. length list ≤ plan.params.r) plan.links
  pub vectors : All (λ x. length x.vector ≡ plan.params.d) plan.points.items
