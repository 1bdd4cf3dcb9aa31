-- The node blocks of merged rows, and how their making ends.
use Rattle.std.specs.Prelude.{◌≡◌, ◌≤◌, ◌<◌, ℕ, suc, ◌+◌, ◌*◌, ◌++◌, ◌∷◌, List, [], Result, OnOk, IfErr, length, get_or}
use Rattle.std.specs.List.{AllByRecursion, concat}
use Rattle.ann_types.specs.declared.new_point.NewPoint.{NewPoint}
use Rattle.ann_types.specs.declared.params.Params.{Params}
use Rattle.ann_fault.specs.Counts.{next_count}
use Rattle.ann_vault.specs.Reads.{more_reads}
use Rattle.ann_block.specs.Node.{node_bytes}
use Rattle.ann_mdelete.specs.declared.refused.WorkRefused.{WorkRefused}
use Rattle.ann_mdelete.specs.declared.refused.WorkRefused.TheVariants.{Disk, BadSegment, Memory}
use Rattle.ann_mpatch.specs.Source.{Source, IsRead, IsSound, point_in}
use Rattle.ann_mpatch.specs.Plan.{merged_list, new_at, source_for, survivor_at, survivors_in}
use Rattle.ann_mpatch.specs.declared.plan.PatchPlan.{PatchPlan}

-- the blocks so far, and the counts of the eye
pub record Standing : Type 0 where
  pub blocks : List ℕ
  pub reads : ℕ
  pub faults : ℕ

abbrev pub standing : List ℕ → ℕ → ℕ → Standing
standing blocks reads faults = record { blocks = blocks; reads = reads; faults = faults }

-- ---- blocks

-- the node block of a point with these rows as its neighbours
abbrev pub block_of : NewPoint → List ℕ → List ℕ
block_of x list = node_bytes x.pid x.tag x.vector list

-- the block of the point in a row of the segment, of which a page was read, with this list
pub record IsOldBlock (tells : Type 0) (source : Source) (params : Params) (row : ℕ) (list block : List ℕ) : Type 0 where
  pub page : List ℕ
  pub read : IsRead tells source params row page
  pub is : block ≡ block_of (point_in source params.d row page) list

-- the block of a merged row
pub record IsBlockOf {S : Type 0} (tells : Type 0) (bytes : S → List ℕ) (plan : PatchPlan S) (row : ℕ) (block : List ℕ) : Type 0 where
  pub old : row < length plan.survivors.items → IsOldBlock tells (source_for bytes plan) plan.params (survivor_at plan row) (merged_list plan row) block
  pub new : length plan.survivors.items ≤ row → block ≡ block_of (new_at plan row) (merged_list plan row)

-- the blocks of so many merged rows from one on were added, and the row of each survivor among them was read once
pub record HasPatched {S : Type 0} (tells : Type 0) (bytes : S → List ℕ) (plan : PatchPlan S) (first size : ℕ) (old new : Standing) : Type 0 where
  pub blocks : List (List ℕ)
  pub count : length blocks ≡ size
  pub each : (i : ℕ) → i < size → IsBlockOf tells bytes plan (first + i) (get_or blocks i [])
  pub added : new.blocks ≡ old.blocks ++ concat blocks
  pub long : length new.blocks ≡ length old.blocks + 4096 * size
  pub reads : new.reads ≡ more_reads (length (survivors_in plan first size)) old.reads
  pub calm : new.faults ≡ old.faults

-- ---- refusals, where rows of the segment are read in turn

-- the next row couldn't be read
pub record HasFailed (tells : Type 0) (source : Source) (params : Params) (rows : List ℕ) (old new : Standing) : Type 0 where
  pub before : List ℕ
  pub row : ℕ
  pub after : List ℕ
  pub rows_are : rows ≡ before ++ row ∷ after
  pub sound : tells → AllByRecursion (IsSound source params) before
  pub reads : new.reads ≡ more_reads (length before) old.reads
  pub faulty : new.faults ≡ next_count old.faults

-- the block of the next row was read and is named; told, it is the first that is outside the format
pub record HasBadBlock (tells : Type 0) (source : Source) (params : Params) (rows : List ℕ) (block : ℕ) (old new : Standing) : Type 0 where
  pub before : List ℕ
  pub row : ℕ
  pub after : List ℕ
  pub rows_are : rows ≡ before ++ row ∷ after
  pub place : block ≡ source.place row
  pub bad : tells → IsSound source params row → ⊥
  pub sound : tells → AllByRecursion (IsSound source params) before
  pub reads : new.reads ≡ more_reads (suc (length before)) old.reads
  pub calm : new.faults ≡ old.faults

-- there was no memory, when some rows had been read
pub record HasStopped (tells : Type 0) (source : Source) (params : Params) (rows : List ℕ) (old new : Standing) : Type 0 where
  pub before : List ℕ
  pub after : List ℕ
  pub rows_are : rows ≡ before ++ after
  pub sound : tells → AllByRecursion (IsSound source params) before
  pub reads : new.reads ≡ more_reads (length before) old.reads
  pub calm : new.faults ≡ old.faults

abbrev pub IsRefusedFor : Type 0 → Source → Params → List ℕ → Standing → Standing → WorkRefused → Type 0
IsRefusedFor tells source params rows old new Disk = HasFailed tells source params rows old new
IsRefusedFor tells source params rows old new (BadSegment block) = HasBadBlock tells source params rows block old new
IsRefusedFor tells source params rows old new Memory = HasStopped tells source params rows old new

-- ---- how calls end

-- the block of the point in a row of the segment was added with this list, and the row was read once
pub record HasAdded (tells : Type 0) (source : Source) (params : Params) (row : ℕ) (list : List ℕ) (old new : Standing) : Type 0 where
  pub block : List ℕ
  pub is : IsOldBlock tells source params row list block
  pub added : new.blocks ≡ old.blocks ++ block
  pub long : length new.blocks ≡ length old.blocks + 4096
  pub reads : new.reads ≡ next_count old.reads
  pub calm : new.faults ≡ old.faults

-- how the making of so many merged rows' blocks ends, from one on
pub record IsPatched {S T : Type 0} (tells : Type 0) (bytes : S → List ℕ) (plan : PatchPlan S) (first size : ℕ) (old new : Standing) (result : Result T WorkRefused) : Type 0 where
  pub patched : OnOk result (HasPatched tells bytes plan first size old new)
  pub refused : IfErr result (IsRefusedFor tells (source_for bytes plan) plan.params (survivors_in plan first size) old new)
