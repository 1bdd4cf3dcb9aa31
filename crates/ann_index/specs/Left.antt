-- What a merge leaves of its job and of the retired segments, by its answer.
use Rattle.std.specs.Prelude.{◌≡◌, ◌⊎◌, ◌<◌, ◌++◌, ℕ, Bool, List, [], ◌∷◌, None, Some, IsSome, Result, Ok, Err, length, get_or, option_to_list}
use Rattle.ann_types.specs.Index.{Index}
use Rattle.ann_types.specs.Lists.{BasedList}
use Rattle.ann_types.specs.declared.entry.Entry.TheVariants.{Begin}
use Rattle.ann_disk.specs.declared.file.LogFile.{Ghosts}
use Rattle.ann_fault.specs.Counts.{Rose}
use Rattle.ann_log.specs.LogView.{LogView}
use Rattle.ann_vault.specs.Held.{Holding}
use Rattle.ann_mcause.specs.Causes.{IsBadBlock}
use Rattle.ann_mpatch.specs.Source.{source_of}
use Rattle.ann_merge.specs.Job.{JobView}
use Rattle.ann_mbegin.specs.Begun.{IsJobOf}
use Rattle.ann_journal.specs.Journal.{index_in}
use Rattle.ann_stock.specs.Stock.{StockView, ToolsView, AtHand, GivenBack, parts_in}
use Rattle.ann_ledger.specs.Clearing.{IsClearing}
use Rattle.ann_index.specs.Doubt.{IsInDoubt}
use Rattle.ann_index.specs.Merged.{HasBegun, HasEnded, HasNotBegun, HasNotEnded, IsBegun, begun, end_for}
use Rattle.ann_index.specs.declared.refusal.Merged.{Merged}
use Rattle.ann_index.specs.declared.refusal.MergeRefused.{MergeRefused}
use Rattle.ann_index.specs.declared.refusal.MergeRefused.TheVariants.{Stopped, Nothing, Memory, LogFault, Disk, BadSegment, MemoryLogged}

-- ---- the job, which is that of the open Begin

module _ {V E S : Type 0} (index : Index) (h : BasedList) (old new : StockView V E S) (job : JobView V E S) where
  -- it was given back; the retired segments are as they were
  pub record IsBack : Type 0 where
    pub given : new.tools ≡ GivenBack job
    pub of_begin : IsJobOf index (begun index h) job.order
    pub retired : new.retired ≡ old.retired

  pub record IsBackUndone : Type 0 where
    pub back : IsBack
    pub undone : job.segment ≡ None

  pub record IsBackDone : Type 0 where
    pub back : IsBack
    pub done : IsSome job.segment

  -- it has ended: the vault and the eyes are at hand, and its old segment is retired
  pub record IsOver : Type 0 where
    pub at_hand : new.tools ≡ AtHand job.vault job.eyes
    pub of_begin : IsJobOf index (begun index h) job.order
    pub retired : new.retired ≡ old.retired ++ option_to_list job.order.old

-- an eye has read since; told, this block of the job's old segment is outside the format
pub record HasReadBad {V E S : Type 0} (tells : Type 0) (bytes : S → List ℕ) (eye_reads : E → ℕ) (tools : ToolsView V E S) (job : JobView V E S) (block : ℕ) : Type 0 where
  pub vault : V
  pub eyes : List E
  pub had : parts_in tools ≡ Some (vault, eyes)
  pub read : (i : ℕ) × (i < length eyes) × ((d : E) → Rose (eye_reads (get_or eyes i d)) (eye_reads (get_or job.eyes i d)))
  pub bad : tells → IsBadBlock (source_of bytes job.order.old) job.order.params block

-- ---- by the answer

-- `log` and `old` are the log and the stock before the merge
module _ {F V E S : Type 0} (D : Ghosts F) (h : BasedList) (log log_now : LogView F) (old new : StockView V E S) where
  -- there was no memory: nothing was logged, and no job was taken; or the job of the open Begin was given back
  abbrev pub LeavesWanting : Type 0
  LeavesWanting =
      ((log_now ≡ log) × (new ≡ old))
      ⊎ (IsBegun D (index_in log) h log log_now × ((job : JobView V E S) × IsBack (index_in log) h old new job))

  -- the log failed at the Begin, and no job was taken; whether the Begin stands there is in doubt
  pub record FailsAtBegin : Type 0 where
    pub unlogged : HasNotBegun D (index_in log) h log log_now
    pub doubt : IsInDoubt D log_now (Begin 0 ∷ [])
    pub stock : new ≡ old

  -- it failed at the End, and the done job was given back; whether the End stands there is in doubt
  pub record FailsAtEnd : Type 0 where
    pub unlogged : HasNotEnded D (index_in log) h log log_now
    pub doubt : IsInDoubt D log_now (end_for (index_in log) h ∷ [])
    pub job : JobView V E S
    pub back : IsBackDone (index_in log) h old new job

  -- the Begin is logged, and no job was taken; or the End is, and the job has ended
  abbrev pub LeavesLogged : Type 0
  LeavesLogged =
      (HasBegun D (index_in log) h log log_now × (new ≡ old))
      ⊎ (HasEnded D (index_in log) h log log_now × ((job : JobView V E S) × IsOver (index_in log) h old new job))

  -- the job isn't done, and was given back
  abbrev pub LeavesUndone : Type 0
  LeavesUndone = (job : JobView V E S) × IsBackUndone (index_in log) h old new job

  module _ (tells : Type 0) (bytes : S → List ℕ) (held : V → Holding) (vault_faults : V → ℕ) (eye_reads : E → ℕ) where
    -- an eye has read the bad block
    pub record LeavesBad (block : ℕ) : Type 0 where
      pub job : JobView V E S
      pub back : IsBackUndone (index_in log) h old new job
      pub read : HasReadBad tells bytes eye_reads old.tools job block

    -- the job has ended, and then the retired segments were cleared
    pub record LeavesMerged : Type 0 where
      pub job : JobView V E S
      pub between : StockView V E S
      pub over : IsOver (index_in log) h old between job
      pub calm : Bool
      pub cleared : IsClearing tells held vault_faults log_now between new calm

    abbrev pub LeavesBy : Result Merged MergeRefused → Type 0
    LeavesBy (Ok merged) = LeavesMerged
    LeavesBy (Err (Stopped at)) = new ≡ old
    LeavesBy (Err (Nothing at)) = new ≡ old
    LeavesBy (Err Memory) = LeavesWanting
    LeavesBy (Err LogFault) = FailsAtBegin ⊎ FailsAtEnd
    LeavesBy (Err Disk) = LeavesUndone
    LeavesBy (Err (BadSegment block)) = LeavesBad block
    LeavesBy (Err (MemoryLogged receipt)) = LeavesLogged
