-- The stock on the way through a merge.
use Rattle.std.specs.Prelude.{◌≡◌, ◌<◌, ◌++◌, ℕ, List, [], ◌∷◌, None, Some, Result, Ok, Err, length, get_or, option_to_list}
use Rattle.ann_types.specs.Lists.{BasedList}
use Rattle.ann_types.specs.declared.entry.Entry.TheVariants.{Begin}
use Rattle.ann_disk.specs.declared.file.LogFile.{Ghosts}
use Rattle.ann_fault.specs.Counts.{Rose}
use Rattle.ann_log.specs.LogView.{LogView}
use Rattle.ann_mcause.specs.Causes.{IsBadBlock}
use Rattle.ann_mpatch.specs.Source.{source_of}
use Rattle.ann_merge.specs.Job.{JobView}
use Rattle.ann_journal.specs.Journal.{index_in}
use Rattle.ann_stock.specs.Stock.{StockView, AtHand, GivenBack, Out, parts_in}
use Rattle.ann_index.specs.Devices.{JobGoesOn}
use Rattle.ann_index.specs.Doubt.{IsInDoubt}
use Rattle.ann_index.specs.Merged.{HasBegun, HasNotBegun}
use Rattle.ann_index.specs.declared.refusal.Merged.{Merged}
use Rattle.ann_index.specs.declared.refusal.MergeRefused.{MergeRefused}
use Rattle.ann_index.specs.declared.refusal.MergeRefused.TheVariants.{Stopped, Nothing, Memory, LogFault, Disk, BadSegment, MemoryLogged}

-- ---- a job is taken

-- what there was to merge by is in the job, which is out
pub record IsOut {V E S : Type 0} (old new : StockView V E S) (job : JobView V E S) : Type 0 where
  pub parts : parts_in old.tools ≡ Some (job.vault, job.eyes)
  pub stock : new ≡ record old { tools = Out }

-- none is, and the stock is as it was; the log by the refusal
module _ {F : Type 0} (D : Ghosts F) (h : BasedList) (log log_now : LogView F) where
  abbrev pub IsUntaken : MergeRefused → Type 0
  IsUntaken (Stopped at) = ⊥
  IsUntaken (Nothing at) = Unit {0}
  IsUntaken Memory = log_now ≡ log
  IsUntaken LogFault = HasNotBegun D (index_in log) h log log_now × IsInDoubt D log_now (Begin 0 ∷ [])
  IsUntaken Disk = ⊥
  IsUntaken (BadSegment block) = ⊥
  IsUntaken (MemoryLogged receipt) = HasBegun D (index_in log) h log log_now

-- ---- it is worked

-- an eye of the job has read; told, this block of the old segment is outside the format
pub record HasMetBad {V E S : Type 0} (tells : Type 0) (bytes : S → List ℕ) (eye_reads : E → ℕ) (old new : JobView V E S) (block : ℕ) : Type 0 where
  pub read : (i : ℕ) × (i < length old.eyes) × ((d : E) → Rose (eye_reads (get_or old.eyes i d)) (eye_reads (get_or new.eyes i d)))
  pub bad : tells → IsBadBlock (source_of bytes new.order.old) new.order.params block

module _ {V E S : Type 0} (tells : Type 0) (bytes : S → List ℕ) (vault_faults : V → ℕ) (eye_reads eye_faults : E → ℕ) (job : JobView V E S) where
  abbrev pub IsUnworked : JobView V E S → MergeRefused → Type 0
  IsUnworked worked (Stopped at) = ⊥
  IsUnworked worked (Nothing at) = ⊥
  IsUnworked worked Memory = Unit {0}
  IsUnworked worked LogFault = ⊥
  IsUnworked worked Disk = Unit {0}
  IsUnworked worked (BadSegment block) = HasMetBad tells bytes eye_reads job worked block
  IsUnworked worked (MemoryLogged receipt) = ⊥

  -- it isn't done, and was given back
  pub record IsUndone (old new : StockView V E S) (why : MergeRefused) : Type 0 where
    pub worked : JobView V E S
    pub goes_on : JobGoesOn vault_faults eye_reads eye_faults job worked
    pub undone : worked.segment ≡ None
    pub stock : new ≡ record old { tools = GivenBack worked }
    pub by_answer : IsUnworked worked why

-- ---- it ends, or not

module _ {V E S : Type 0} (old new : StockView V E S) (job : JobView V E S) where
  pub record IsAtEnd : Type 0 where
    pub at_hand : new.tools ≡ AtHand job.vault job.eyes
    pub retired : new.retired ≡ old.retired ++ option_to_list job.order.old

  pub record IsReturned : Type 0 where
    pub given : new.tools ≡ GivenBack job
    pub retired : new.retired ≡ old.retired

  abbrev pub EndsBy : Result Merged MergeRefused → Type 0
  EndsBy (Ok merged) = IsAtEnd
  EndsBy (Err (Stopped at)) = ⊥
  EndsBy (Err (Nothing at)) = ⊥
  EndsBy (Err Memory) = IsReturned
  EndsBy (Err LogFault) = IsReturned
  EndsBy (Err Disk) = ⊥
  EndsBy (Err (BadSegment block)) = ⊥
  EndsBy (Err (MemoryLogged receipt)) = IsAtEnd
