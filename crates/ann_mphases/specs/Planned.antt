-- What the phases before the last one give.
use Rattle.std.specs.Prelude.{ℕ, List, Option}
use Rattle.ann_types.specs.Graph.{Graph}
use Rattle.ann_types.specs.Index.{Index}
use Rattle.ann_types.specs.declared.new_point.NewPoint.{NewPoint}
use Rattle.ann_segment.specs.Segment.{SegmentView}
use Rattle.ann_mpatch.specs.Plan.{IsPlan}
use Rattle.ann_mpatch.specs.declared.plan.PatchPlan.{PatchPlan}
use Rattle.ann_mlaws.specs.Plan.{IsLti, IsMergePlan}
use Rattle.ann_mlaws.specs.Rows.{IsPlanned}

-- a plan and the row of its entry are what the phases make, row by row, and can be patched; told, they are the definition's
-- for the graph that the old segment holds
pub record PlansMerge {S : Type 0} (tells : Type 0) (bytes : S → List ℕ) (index : Index) (dead : List ℕ) (old : Option (SegmentView S)) (points : List NewPoint) (plan : PatchPlan S) (entry : Option ℕ) : Type 0 where
  pub rows : IsPlanned tells bytes index dead old points plan entry
  pub sound : IsPlan plan
  pub merge : tells → (lti : Graph) → IsLti bytes index old lti → IsMergePlan index lti points dead plan entry
