-- The steps of a merge.
use Rattle.std.specs.Prelude.{◌≡◌, ◌⊎◌, ◌<◌, ℕ, Bool, true, false, List, [], ◌∷◌, Some, IsSome, IsTrue, Result, Ok, Err, length, get_or}
use Rattle.ann_types.specs.Fold.{fold_of}
use Rattle.ann_types.specs.Lists.{BasedList, length_of, with_entry}
use Rattle.ann_types.specs.declared.entry.Entry.TheVariants.{End}
use Rattle.ann_disk.specs.declared.file.LogFile.{Ghosts}
use Rattle.ann_fault.specs.Counts.{Rose}
use Rattle.ann_log.specs.Appended.{HasAppended, HasNotAppended}
use Rattle.ann_log.specs.LogView.{LogView}
use Rattle.ann_vault.specs.Held.{Holding}
use Rattle.ann_merge.specs.Job.{JobView}
use Rattle.ann_journal.specs.Journal.{JournalView, index_in}
use Rattle.ann_journal.specs.declared.refused.Receipt.{Receipt}
use Rattle.ann_showing.specs.Showing.{Follows}
use Rattle.ann_stock.specs.Stock.{StockView, ToolsView, GivenBack, Out, IsAtHand, parts_in}
use Rattle.ann_ledger.specs.Ledger.{IsJobOn, IsLedgerOf}
use Rattle.ann_index.specs.Index.{KeptView, IsIndexFrom, IsIndexOf}
use Rattle.ann_index.specs.Merged.{HasBegun, IsBegun, IsRefused, begun}
use Rattle.ann_index.specs.declared.refusal.Merged.{Merged}
use Rattle.ann_index.specs.declared.refusal.MergeRefused.{MergeRefused}
use Rattle.ann_index.specs.declared.refusal.MergeRefused.TheVariants.{Stopped, Nothing, Memory, LogFault, Disk, BadSegment, MemoryLogged}

module _ {F V E S : Type 0} (D : Ghosts F) (tells : Type 0) (bytes : S → List ℕ) (held : V → Holding) (vault_faults : V → ℕ) (eye_faults : E → ℕ) (sound : Bool) where
  -- a merge is open, all of the list is shown, and the merge's job is out
  pub record IsUnderWay (g : BasedList) (kept : KeptView F V E S) (job : JobView V E S) : Type 0 where
    pub follows : Follows D bytes sound g g kept.journal kept.view
    pub ledger : IsLedgerOf D tells bytes held sound g kept.journal kept.stock
    pub out : kept.stock.tools ≡ Out
    pub job_is : IsJobOn D tells bytes held sound kept.journal.log g job

  -- ---- it begins

  -- by the job that was given back, or that of the open Begin; what is at hand goes with it
  pub record HasStarted (h : BasedList) (log : LogView F) (tools : ToolsView V E S) (new : KeptView F V E S) (job : JobView V E S) : Type 0 where
    pub open_now : new.journal.log.is_closed ≡ false
    pub begun_is : IsBegun D (index_in log) h log new.journal.log
    pub under_way : IsUnderWay (begun (index_in log) h) new job
    pub parts : parts_in tools ≡ Some (job.vault, job.eyes)

  -- a merge was open, and nothing was done; or a Begin was logged, and is shown
  pub record WasOpen (h : BasedList) (log : LogView F) (new : KeptView F V E S) : Type 0 where
    pub open_merge : IsSome (fold_of (index_in log) h).begun
    pub same_log : new.journal.log ≡ log
    pub index : IsIndexOf D tells bytes held sound h h new

  pub record HasOpened (h : BasedList) (log : LogView F) (new : KeptView F V E S) : Type 0 where
    pub begun_is : HasBegun D (index_in log) h log new.journal.log
    pub open_now : new.journal.log.is_closed ≡ false
    pub index : IsIndexOf D tells bytes held sound (begun (index_in log) h) (begun (index_in log) h) new

  abbrev pub IsOpened : BasedList → LogView F → ToolsView V E S → KeptView F V E S → Result Bool MergeRefused → Type 0
  IsOpened h log tools new (Ok false) = WasOpen h log new
  IsOpened h log tools new (Ok true) = HasOpened h log new
  IsOpened h log tools new (Err why) = IsRefused D tells bytes held vault_faults eye_faults sound h h log tools new why

  abbrev pub IsStart : BasedList → LogView F → ToolsView V E S → KeptView F V E S → Result (JobView V E S) MergeRefused → Type 0
  IsStart h log tools new (Ok job) = HasStarted h log tools new job
  IsStart h log tools new (Err why) = IsRefused D tells bytes held vault_faults eye_faults sound h h log tools new why

  -- ---- it is worked

  -- the cause of a refusal: want of memory; a fault of the vault or of an eye; or a bad block, which none is where the place
  -- is sound
  abbrev pub IsWorkCause : JobView V E S → JobView V E S → MergeRefused → Type 0
  IsWorkCause job worked (Stopped at) = ⊥
  IsWorkCause job worked (Nothing at) = ⊥
  IsWorkCause job worked Memory = Unit {0}
  IsWorkCause job worked LogFault = ⊥
  IsWorkCause job worked Disk =
      Rose (vault_faults job.vault) (vault_faults worked.vault)
      ⊎ ((i : ℕ) × (i < length job.eyes) × ((d : E) → Rose (eye_faults (get_or job.eyes i d)) (eye_faults (get_or worked.eyes i d))))
  IsWorkCause job worked (BadSegment block) = IsTrue sound → ⊥
  IsWorkCause job worked (MemoryLogged receipt) = ⊥

  module _ (g : BasedList) (journal journal_now : JournalView F S) (stock stock_now : StockView V E S) (job : JobView V E S) where
    -- the job is done, and still out
    pub record HasWorkedOut (worked : JobView V E S) : Type 0 where
      pub done : IsSome worked.segment
      pub order : worked.order ≡ job.order
      pub same : (journal_now ≡ journal) × (stock_now ≡ stock)
      pub job_is : IsJobOn D tells bytes held sound journal_now.log g worked

    -- it isn't, and was given back
    pub record IsGivenBack (why : MergeRefused) : Type 0 where
      pub worked : JobView V E S
      pub cause : IsWorkCause job worked why
      pub same : journal_now ≡ journal
      pub tools : stock_now.tools ≡ GivenBack worked
      pub ledger : IsLedgerOf D tells bytes held sound g journal_now stock_now

    abbrev pub IsWorked : Result (JobView V E S) MergeRefused → Type 0
    IsWorked (Ok worked) = HasWorkedOut worked
    IsWorked (Err why) = IsGivenBack why

  -- ---- it ends

  module _ (g : BasedList) (number : ℕ) (old new : KeptView F V E S) where
    pub record HasFinished (merged : Merged) : Type 0 where
      pub appended : HasAppended D old.journal.log (End 0 number ∷ []) new.journal.log
      pub open_now : new.journal.log.is_closed ≡ false
      pub segment : merged.segment ≡ number
      pub place : merged.at ≡ length_of (with_entry g (End 0 number))
      pub at_hand : IsAtHand new.stock.tools
      pub index : IsIndexOf D tells bytes held sound (with_entry g (End 0 number)) (with_entry g (End 0 number)) new

    pub record IsFinishWanting : Type 0 where
      pub log : new.journal.log ≡ old.journal.log
      pub index : IsIndexOf D tells bytes held sound g g new

    pub record HasFinishFailed : Type 0 where
      pub unlogged : HasNotAppended D old.journal.log new.journal.log
      pub closed : new.journal.log.is_closed ≡ true
      pub index : IsIndexOf D tells bytes held sound g g new

    pub record IsFinishUnshown (receipt : Receipt) : Type 0 where
      pub appended : HasAppended D old.journal.log (End 0 number ∷ []) new.journal.log
      pub place : receipt.at ≡ length_of (with_entry g (End 0 number))
      pub open_now : new.journal.log.is_closed ≡ false
      pub index : IsIndexFrom D tells bytes held sound (with_entry g (End 0 number)) g new

    abbrev pub IsFinish : Result Merged MergeRefused → Type 0
    IsFinish (Ok merged) = HasFinished merged
    IsFinish (Err (Stopped at)) = ⊥
    IsFinish (Err (Nothing at)) = ⊥
    IsFinish (Err Memory) = IsFinishWanting
    IsFinish (Err LogFault) = HasFinishFailed
    IsFinish (Err Disk) = ⊥
    IsFinish (Err (BadSegment block)) = ⊥
    IsFinish (Err (MemoryLogged receipt)) = IsFinishUnshown receipt
