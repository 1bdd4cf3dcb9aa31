-- Why a search of a long-term graph is refused.
use Rattle.std.specs.Prelude.{◌≡◌, ℕ, suc, List, Option, Some, None, Result, OnOk, IfErr}
use Rattle.ann_types.specs.declared.params.Params.{Params}
use Rattle.ann_segment.specs.Segment.{SegmentView}
use Rattle.ann_fault.specs.Counts.{next_count}
use Rattle.ann_vault.specs.Reads.{more_reads}
use Rattle.ann_beam.specs.Quest.{Standing}
use Rattle.ann_segment.specs.Rows.{IsBadNode, block_at}
use Rattle.ann_beam.specs.declared.refused.SearchRefused.{SearchRefused}
use Rattle.ann_beam.specs.declared.refused.SearchRefused.TheVariants.{Dimension, Disk, BadSegment, Shut}

-- some reads went well, and none failed
pub record HasRead (old new : Standing) : Type 0 where
  pub reads : (n : ℕ) × (new.reads ≡ more_reads n old.reads)
  pub calm : new.faults ≡ old.faults

-- a read failed, behind some that went well
pub record HasFailed (old new : Standing) : Type 0 where
  pub reads : (n : ℕ) × (new.reads ≡ more_reads n old.reads)
  pub faulty : new.faults ≡ next_count old.faults

-- a block of the segment was read, stands on the page, and is outside the format; told, it is what is sealed there
pub record HasBadBlock {S : Type 0} (tells : Type 0) (bytes : S → List ℕ) (segment : SegmentView S) (params : Params) (block : ℕ) (old new : Standing) : Type 0 where
  pub bad : IsBadNode segment params new.page block
  pub told : tells → new.page ≡ block_at (bytes segment.seal) block
  pub reads : (n : ℕ) × (new.reads ≡ more_reads (suc n) old.reads)
  pub calm : new.faults ≡ old.faults

abbrev pub IsBadIn : {S : Type 0} → Type 0 → (S → List ℕ) → Option (SegmentView S) → Params → ℕ → Standing → Standing → Type 0
IsBadIn tells bytes None params block old new = ⊥
IsBadIn tells bytes (Some segment) params block old new = HasBadBlock tells bytes segment params block old new

-- a search of a segment may be refused so
abbrev pub IsRefusedFor : {S : Type 0} → Type 0 → (S → List ℕ) → Option (SegmentView S) → Params → Standing → Standing → SearchRefused → Type 0
IsRefusedFor tells bytes segment params old new (Dimension got want) = ⊥
IsRefusedFor tells bytes segment params old new Disk = HasFailed old new
IsRefusedFor tells bytes segment params old new (BadSegment block) = IsBadIn tells bytes segment params block old new
IsRefusedFor tells bytes segment params old new Shut = ⊥

-- how visits end, whatever is told
pub record HasGone {S T : Type 0} (tells : Type 0) (bytes : S → List ℕ) (segment : SegmentView S) (params : Params) (old new : Standing) (result : Result T SearchRefused) : Type 0 where
  pub read : OnOk result (HasRead old new)
  pub refused : IfErr result (IsRefusedFor tells bytes (Some segment) params old new)
