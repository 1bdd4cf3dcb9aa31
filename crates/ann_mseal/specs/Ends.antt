-- How the end of a merge ends.
use Rattle.std.specs.Prelude.{◌≡◌, ◌⊎◌, ℕ, ◌++◌, List, Option, length}
use Rattle.std.specs.FinMap.{insert}
use Rattle.std.specs.Option.{option_map}
use Rattle.ann_types.specs.Codes.{Book}
use Rattle.ann_types.specs.Graph.{Point, Graph}
use Rattle.ann_types.specs.Index.{Index}
use Rattle.ann_types.specs.Merge.{patch_phase}
use Rattle.ann_types.specs.Rows.{pid_at}
use Rattle.ann_fault.specs.Counts.{Rose}
use Rattle.ann_pq.specs.Codebook.{CodebookView}
use Rattle.ann_vault.specs.Held.{Holding}
use Rattle.ann_segment.specs.Directory.{AreRising}
use Rattle.ann_segment.specs.Segment.{IsEntryOf, SegmentView}
use Rattle.ann_segment.specs.Text.{segment_text}
use Rattle.ann_segment.specs.declared.refused.SegmentRefused.{SegmentRefused}
use Rattle.ann_segment.specs.declared.refused.SegmentRefused.TheVariants.{Disk as Unwritten, Memory as NoMemory, BadSegment as BadBlock}
use Rattle.ann_mdelete.specs.declared.refused.WorkRefused.{WorkRefused}
use Rattle.ann_mdelete.specs.declared.refused.WorkRefused.TheVariants.{Disk, BadSegment, Memory}
use Rattle.ann_mpatch.specs.Phase.{HoldsOld, IsPlanOf}
use Rattle.ann_mpatch.specs.Plan.{IsPlan, segment_in}
use Rattle.ann_mpatch.specs.declared.plan.PatchPlan.{PatchPlan}
use Rattle.ann_mlaws.specs.Rows.{HasCodes}
use Rattle.ann_mseal.specs.Merged.{IsMerged, merged_items}

-- the merged rows may be sealed: the plan is sound, the entry is one of them, and their Pids rise; the codebook and the
-- codes of the old segment have the index's sizes
pub record IsSealable {S : Type 0} (book : CodebookView) (plan : PatchPlan S) (entry : Option ℕ) : Type 0 where
  pub sound : IsPlan plan
  pub entered : IsEntryOf (length plan.decoded) entry
  pub rising : AreRising (merged_items book.book plan)
  pub sizes : (book.d ≡ plan.params.d) × (book.m ≡ plan.params.m)
  pub codes : HasCodes (segment_in plan) plan.params.m

-- what the refusal of a segment is for a merge
abbrev pub as_work : SegmentRefused → WorkRefused
as_work Unwritten = Disk
as_work NoMemory = Memory
as_work (BadBlock block) = BadSegment block

-- the bytes of the seal stand under the number, and the seal tells it
pub record IsSealedUnder {S : Type 0} (number_of : S → ℕ) (bytes_of : S → List ℕ) (wanted : ℕ) (seal : S) (old new : Holding) : Type 0 where
  pub number : number_of seal ≡ wanted
  pub held : new ≡ insert old wanted (bytes_of seal)

-- Where the plan and the row of the entry are those of a Patch phase, what is sealed is the text of the merged graph.
abbrev pub SealsMerged : {S : Type 0} → (S → List ℕ) → Book → PatchPlan S → Option ℕ → ℕ → List ℕ → Type 0
SealsMerged bytes book plan entry number sealed =
    (index : Index) (lti : Graph) (base new : List Point)
    → IsPlanOf index lti base new plan → HoldsOld bytes index (segment_in plan) lti
    → index.book ≡ book
    → (patch_phase index base new).entry ≡ option_map (pid_at (base ++ new)) entry
    → sealed ≡ segment_text index.params index.book (patch_phase index base new) number

-- the merged segment is sealed, with the number, entry, Pids and codes of the merged rows; told, the vault holds its bytes
-- under the number, and they are the text of the merged graph
pub record HasSealed {S : Type 0} (tells : Type 0) (number_of : S → ℕ) (bytes : S → List ℕ) (book : Book) (plan : PatchPlan S) (entry : Option ℕ) (number : ℕ) (old new : Holding) (segment : SegmentView S) : Type 0 where
  pub merged : IsMerged book plan entry number segment
  pub sealed : tells → IsSealedUnder number_of bytes number segment.seal old new
  pub text : tells → SealsMerged bytes book plan entry number (bytes segment.seal)

-- what a refusal leaves in the vault: what it held, or, where a device failed, such a text under the number besides
abbrev pub LeavesSealed : (List ℕ → Type 0) → ℕ → Holding → Holding → WorkRefused → Type 0
LeavesSealed is_text number old new Disk =
    (new ≡ old) ⊎ ((text : List ℕ) × is_text text × (new ≡ insert old number text))
LeavesSealed is_text number old new (BadSegment block) = new ≡ old
LeavesSealed is_text number old new Memory = new ≡ old

-- it may be refused so: for a fault of the vault or of an eye, for a bad block that an eye read, or for want of memory.
-- The counts are those of the vault's faults, and `caused` is what the eyes may be the cause of
abbrev pub IsUnsealed : (WorkRefused → Type 0) → ℕ → ℕ → WorkRefused → Type 0
IsUnsealed caused before now Disk = Rose before now ⊎ caused Disk
IsUnsealed caused before now (BadSegment block) = caused (BadSegment block)
IsUnsealed caused before now Memory = Unit {0}

-- a fault of the vault, or want of memory
abbrev pub IsUnwritten : ℕ → ℕ → WorkRefused → Type 0
IsUnwritten before now Disk = Rose before now
IsUnwritten before now (BadSegment block) = ⊥
IsUnwritten before now Memory = Unit {0}

-- a fault of the vault
abbrev pub IsFault : ℕ → ℕ → WorkRefused → Type 0
IsFault before now Disk = Rose before now
IsFault before now (BadSegment block) = ⊥
IsFault before now Memory = ⊥
