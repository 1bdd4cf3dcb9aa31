-- The pieces of the Patch phase: 256 merged rows each.
use Rattle.std.specs.Prelude.{◌≡◌, ℕ, ◌+◌, ◌*◌, ◌/◌, List, length}
use Rattle.ann_mpatch.specs.Plan.{piece_size}
use Rattle.ann_mpatch.specs.Phase.{AreMerged}
use Rattle.ann_mpatch.specs.declared.plan.PatchPlan.{PatchPlan}

-- how many pieces the merged rows have
abbrev pub piece_count : {S : Type 0} → PatchPlan S → ℕ
piece_count plan = (length plan.decoded + 255) / 256

-- the node blocks of the piece of a number; told, they are those of the merged graph
pub record IsMergedPiece {S : Type 0} (tells : Type 0) (bytes : S → List ℕ) (plan : PatchPlan S) (number : ℕ) (blocks : List ℕ) : Type 0 where
  pub long : length blocks ≡ 4096 * piece_size plan (256 * number)
  pub merged : tells → AreMerged bytes plan (256 * number) blocks
