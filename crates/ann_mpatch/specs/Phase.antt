-- A plan is that of the Patch phase of a merge, by Pids.
use Rattle.std.specs.Prelude.{◌≡◌, ℕ, ◌++◌, List, Option, None, Some, [], map, flat_map, get_or, take, drop}
use Rattle.std.specs.List.Sorted.{IsStrictlyIncreasing}
use Rattle.ann_types.specs.Graph.{Point, Graph, pids_of}
use Rattle.ann_types.specs.Codes.{decoded}
use Rattle.ann_types.specs.Fold.{new_point}
use Rattle.ann_types.specs.Index.{Index, IsBookOf}
use Rattle.ann_types.specs.Merge.{delta, patch_phase}
use Rattle.ann_types.specs.Rows.{pid_at}
use Rattle.ann_segment.specs.Segment.{SegmentView}
use Rattle.ann_segment.specs.Text.{node_for}
use Rattle.ann_segment.specs.Holds.{Holds}
use Rattle.ann_mpatch.specs.Plan.{segment_in}
use Rattle.ann_mpatch.specs.declared.plan.PatchPlan.{PatchPlan}

-- the point in a row of a graph
abbrev pub point_at : Graph → ℕ → Point
point_at graph row = get_or graph.points row (record { pid = 0; tag = 0; vector = []; links = [] })

-- lists of rows as lists of Pids
abbrev pub named : List Point → List (List ℕ) → List (List ℕ)
named points lists = map (map (pid_at points)) lists

-- The merged rows are the points of a base and then new points, the first of them survivors of a long-term graph. By the
-- rows the plan has the neighbours of all, the new points that are linked to each point of the base, and all decoded vectors.
pub record IsPlanOf {S : Type 0} (index : Index) (lti : Graph) (base new : List Point) (plan : PatchPlan S) : Type 0 where
  pub params : plan.params ≡ index.params
  pub book : IsBookOf index.params index.book
  pub rising : IsStrictlyIncreasing (pids_of (base ++ new))
  pub points : map new_point (base ++ new) ≡ map (λ row. new_point (point_at lti row)) plan.survivors.items ++ plan.points.items
  pub own : map (λ x. x.links) base ≡ named (base ++ new) plan.base
  pub added : map (λ x. delta new x.pid) base ≡ named (base ++ new) plan.delta
  pub links : map (λ x. x.links) new ≡ named (base ++ new) plan.links
  pub vectors : plan.decoded ≡ map (λ x. decoded index.book x.vector) (base ++ new)

-- the segment holds a graph, if there is one; `bytes` are those of a seal
abbrev pub HoldsOld : {S : Type 0} → (S → List ℕ) → Index → Option (SegmentView S) → Graph → Type 0
HoldsOld bytes index None lti = Unit {0}
HoldsOld bytes index (Some segment) lti = Holds index.params index.book (bytes segment.seal) segment lti

-- the blocks are those that the text of the merged graph has at the rows of a piece
abbrev pub AreMerged : {S : Type 0} → (S → List ℕ) → PatchPlan S → ℕ → List ℕ → Type 0
AreMerged bytes plan first blocks =
    (index : Index) (lti : Graph) (base new : List Point)
    → IsPlanOf index lti base new plan → HoldsOld bytes index (segment_in plan) lti
    → let points : List Point = (patch_phase index base new).points in
    blocks ≡ flat_map (node_for points) (take 256 (drop first points))
