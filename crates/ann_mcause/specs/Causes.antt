-- How an eye comes out of a merge's work, and with which counts the work may be refused.
use Rattle.std.specs.Prelude.{◌≡◌, ◌≤◌, ◌<◌, ℕ, length}
use Rattle.ann_types.specs.declared.params.Params.{Params}
use Rattle.ann_fault.specs.Counts.{Rose}
use Rattle.ann_mdelete.specs.Refusals.{Counts}
use Rattle.ann_mdelete.specs.declared.refused.WorkRefused.{WorkRefused}
use Rattle.ann_mdelete.specs.declared.refused.WorkRefused.TheVariants.{Disk, BadSegment, Memory}
use Rattle.ann_mpatch.specs.Source.{Source, IsSound}

-- no count falls
pub record HasGone (old new : Counts) : Type 0 where
  pub reads : old.reads ≤ new.reads
  pub faults : old.faults ≤ new.faults

-- what is sealed as the block of a row is outside the format
pub record IsBadBlock (source : Source) (params : Params) (block : ℕ) : Type 0 where
  pub row : ℕ
  pub within : row < length source.items
  pub place : block ≡ source.place row
  pub bad : IsSound source params row → ⊥

-- a fault only where the eye's count of faults rose, and a bad block only where its count of reads did; told, that block
-- is outside the format. Want of memory may come at any time
abbrev pub IsCause : Type 0 → Source → Params → Counts → Counts → WorkRefused → Type 0
IsCause tells source params old new Disk = Rose old.faults new.faults
IsCause tells source params old new (BadSegment block) = Rose old.reads new.reads × (tells → IsBadBlock source params block)
IsCause tells source params old new Memory = Unit {0}
