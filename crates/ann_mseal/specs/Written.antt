-- A merged segment that is being written.
use Rattle.std.specs.Prelude.{◌≡◌, ℕ, ◌+◌, ◌*◌, ◌++◌, min, List, length, flat_map, take}
use Rattle.ann_types.specs.Graph.{Point, Graph}
use Rattle.ann_types.specs.Index.{Index}
use Rattle.ann_types.specs.Merge.{patch_phase}
use Rattle.ann_segment.specs.Text.{front_bytes, node_for}
use Rattle.ann_segment.specs.Writer.{IsDraftOf, WriterView}
use Rattle.ann_mpatch.specs.Phase.{HoldsOld, IsPlanOf}
use Rattle.ann_mpatch.specs.Plan.{segment_in}
use Rattle.ann_mpatch.specs.declared.plan.PatchPlan.{PatchPlan}

-- ---- one step

-- the writer is of the same segment
pub record IsSameSegment {D : Type 0} (old new : WriterView D) : Type 0 where
  pub header : new.header ≡ old.header
  pub items : new.items ≡ old.items

-- the node blocks that these bytes are were written
abbrev pub HasRows : {D : Type 0} → List ℕ → WriterView D → WriterView D → Type 0
HasRows bytes old new = 4096 * new.written ≡ 4096 * old.written + length bytes

-- these bytes were appended to a draft, which is still current
pub record HasAppended {V D : Type 0} (is_current : V → D → Type 0) (number_of : D → ℕ) (bytes_of : D → List ℕ) (bytes : List ℕ) (vault : V) (old new : D) : Type 0 where
  pub number : number_of new ≡ number_of old
  pub blocks : bytes_of new ≡ bytes_of old ++ bytes
  pub current : is_current vault new

-- ---- all of it so far

-- by every plan of a Patch phase, the draft has the front and the blocks of so many rows of the merged graph
pub record IsDrafted {S : Type 0} (bytes : S → List ℕ) (plan : PatchPlan S) (front : List ℕ) (rows : ℕ) (drafted : List ℕ) : Type 0 where
  pub blocks : (index : Index) (lti : Graph) (base new : List Point) → IsPlanOf index lti base new plan → HoldsOld bytes index (segment_in plan) lti
      → drafted ≡ front ++ flat_map (node_for (patch_phase index base new).points) (take rows (patch_phase index base new).points)

-- what a vault and its seals tell
module _ {V D S : Type 0} (tells : Type 0) (is_current : V → D → Type 0) (number_of : D → ℕ) (bytes_of : D → List ℕ) (sealed : S → List ℕ) where
  -- the rows of so many pieces are written
  pub record IsWriting (plan : PatchPlan S) (pieces : ℕ) (vault : V) (writer : WriterView D) : Type 0 where
    pub rows : writer.header.count ≡ length plan.decoded
    pub written : writer.written ≡ min (256 * pieces) (length plan.decoded)
    pub draft : tells → IsDraftOf is_current number_of bytes_of writer vault
    pub drafted : tells → IsDrafted sealed plan (front_bytes writer.header writer.items) (256 * pieces) (bytes_of writer.draft)
