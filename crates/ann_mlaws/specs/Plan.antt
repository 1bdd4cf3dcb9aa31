-- A plan is that of a merge, by Pids.
use Rattle.std.specs.Prelude.{◌≡◌, ℕ, ◌++◌, List, Option, None, Some, option_map}
use Rattle.ann_types.specs.Graph.{Point, Graph, empty_graph}
use Rattle.ann_types.specs.Index.{Index}
use Rattle.ann_types.specs.Merge.{merged, patch_phase}
use Rattle.ann_types.specs.Rows.{pid_at}
use Rattle.ann_types.specs.declared.new_point.NewPoint.{NewPoint}
use Rattle.ann_segment.specs.Segment.{SegmentView}
use Rattle.ann_segment.specs.Holds.{Holds}
use Rattle.ann_mpatch.specs.Phase.{IsPlanOf}
use Rattle.ann_mpatch.specs.declared.plan.PatchPlan.{PatchPlan}

-- the long-term graph is what the old segment holds; without one it is empty. `bytes` are those of a seal
abbrev pub IsLti : {S : Type 0} → (S → List ℕ) → Index → Option (SegmentView S) → Graph → Type 0
IsLti bytes index None lti = lti ≡ empty_graph
IsLti bytes index (Some segment) lti = Holds index.params index.book (bytes segment.seal) segment lti

-- a plan and the row of its entry are those of the merge of new points and deleted ones into a long-term graph
pub record IsMergePlan {S : Type 0} (index : Index) (lti : Graph) (points : List NewPoint) (dead : List ℕ) (plan : PatchPlan S) (entry : Option ℕ) : Type 0 where
  pub base : List Point
  pub new : List Point
  pub is : IsPlanOf index lti base new plan
  pub graph : merged index lti points dead ≡ patch_phase index base new
  pub entry_is : (patch_phase index base new).entry ≡ option_map (pid_at (base ++ new)) entry
