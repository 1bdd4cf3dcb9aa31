-- How merges begin and end: what each answer says, and what it leaves.
use Rattle.std.specs.Prelude.{◌≡◌, ◌≢◌, ◌<◌, ◌++◌, ℕ, Bool, true, false, List, [], ◌∷◌, Option, Some, None, IsSome, Result, Ok, Err, length, option_to_list}
use Rattle.ann_types.specs.Fold.{Begun, fold_of}
use Rattle.ann_types.specs.Legal.{has_work}
use Rattle.ann_types.specs.Lists.{BasedList, length_of, with_entry}
use Rattle.ann_types.specs.declared.entry.Entry.TheVariants.{Begin, End}
use Rattle.ann_disk.specs.declared.file.LogFile.{Ghosts}
use Rattle.ann_merge.specs.Job.{JobView}
use Rattle.ann_journal.specs.Journal.{JournalView, index_in}
use Rattle.ann_journal.specs.Logged.{HasLogged, HasNotLogged, IsUntouched}
use Rattle.ann_journal.specs.declared.refused.Receipt.{Receipt}
use Rattle.ann_stock.specs.Stock.{StockView, AtHand, Out, ended}
use Rattle.ann_ledger.specs.declared.refused.NotReady.{NotReady}
use Rattle.ann_ledger.specs.declared.refused.NotReady.TheVariants as ready
use Rattle.ann_ledger.specs.declared.refused.Unopened.{Unopened}
use Rattle.ann_ledger.specs.declared.refused.Unopened.TheVariants as opening
use Rattle.ann_ledger.specs.declared.refused.FinishWhy.{FinishWhy}
use Rattle.ann_ledger.specs.declared.refused.FinishWhy.TheVariants as ending

-- ---- whether a merge may be begun now

module _ {F V E S : Type 0} (h : BasedList) (journal : JournalView F S) (stock : StockView V E S) where
  -- the log is open, and no job is out
  pub record IsReady : Type 0 where
    pub open_now : journal.log.is_closed ≡ false
    pub in_hand : stock.tools ≢ Out

  pub record HasStopped (at : ℕ) : Type 0 where
    pub closed : journal.log.is_closed ≡ true
    pub place : at ≡ length_of h

  pub record IsRunning (since at : ℕ) : Type 0 where
    pub open_now : journal.log.is_closed ≡ false
    pub out : stock.tools ≡ Out
    pub begun : Begun
    pub open_merge : (fold_of (index_in journal.log) h).begun ≡ Some begun
    pub begin : since ≡ begun.position
    pub place : at ≡ length_of h

  -- A closed log stops it, and then a job that is out.
  abbrev pub IsReadiness : {T : Type 0} → Result T NotReady → Type 0
  IsReadiness (Ok done) = IsReady
  IsReadiness (Err (ready.Stopped at)) = HasStopped at
  IsReadiness (Err (ready.Running since at)) = IsRunning since at

-- ---- the Begin

-- the list behind it: with the Begin of a client, where that was logged
abbrev pub list_behind : BasedList → ℕ → Result Bool Unopened → BasedList
list_behind h by (Ok false) = h
list_behind h by (Ok true) = with_entry h (Begin by)
list_behind h by (Err why) = h

module _ {F S : Type 0} (D : Ghosts F) (h : BasedList) (by : ℕ) (old new : JournalView F S) where
  -- a merge is open, and nothing was done
  pub record WasOpen : Type 0 where
    pub open_merge : IsSome (fold_of (index_in old.log) h).begun
    pub same : new ≡ old

  -- none is open, and there is something to merge
  pub record MayOpen : Type 0 where
    pub none : (fold_of (index_in old.log) h).begun ≡ None
    pub work : has_work (fold_of (index_in old.log) h) ≡ true

  pub record HasOpened : Type 0 where
    pub may : MayOpen
    pub logged : HasLogged D h (Begin by ∷ []) old new

  pub record IsIdle (at : ℕ) : Type 0 where
    pub none : (fold_of (index_in old.log) h).begun ≡ None
    pub no_work : has_work (fold_of (index_in old.log) h) ≡ false
    pub place : at ≡ length_of h
    pub same : new ≡ old

  pub record IsUnlogged : Type 0 where
    pub may : MayOpen
    pub untouched : IsUntouched D h old new

  pub record HasFailed : Type 0 where
    pub may : MayOpen
    pub unlogged : HasNotLogged D h old new

  -- An open merge goes on; where there is none, and nothing to merge, nothing begins; and else its Begin is logged.
  abbrev pub IsOpening : Result Bool Unopened → Type 0
  IsOpening (Ok false) = WasOpen
  IsOpening (Ok true) = HasOpened
  IsOpening (Err (opening.Nothing at)) = IsIdle at
  IsOpening (Err opening.Memory) = IsUnlogged
  IsOpening (Err opening.LogFault) = HasFailed

-- ---- the job

-- the vault and the eyes that were at hand are out with a job, which isn't worked yet; or all is as before
module _ {V E S : Type 0} where
  pub record IsTaken (old new : StockView V E S) (job : JobView V E S) : Type 0 where
    pub tools : old.tools ≡ AtHand job.vault job.eyes
    pub undone : (job.segment ≡ None) × (job.faulted ≡ false)
    pub out : new ≡ record old { tools = Out }

  abbrev pub HasTaken : {T : Type 0} → StockView V E S → StockView V E S → Result (JobView V E S) T → Type 0
  HasTaken old new (Ok job) = IsTaken old new job
  HasTaken old new (Err why) = new ≡ old

-- ---- the End

-- a stock is as it was, or has more room
pub record IsSameButRoom {V E S : Type 0} (old new : StockView V E S) : Type 0 where
  pub tools : new.tools ≡ old.tools
  pub retired : new.retired ≡ old.retired

module _ {F V E S : Type 0} (D : Ghosts F) (h : BasedList) (by : ℕ) (job : JobView V E S) (before after : JournalView F S) (old new : StockView V E S) where
  -- the End of the job's segment was logged, and there is room to retire its old segment
  pub record HasEnded (receipt : Receipt) : Type 0 where
    pub open_now : before.log.is_closed ≡ false
    pub logged : HasLogged D h (End by job.order.number ∷ []) before after
    pub place : receipt.at ≡ length_of (with_entry h (End by job.order.number))
    pub stock : IsSameButRoom old new
    pub room : length new.retired < new.room

  -- the End of the job's segment was logged; the vault and the eyes are at hand again, and the old segment is retired
  pub record HasFinished (receipt : Receipt) : Type 0 where
    pub open_now : before.log.is_closed ≡ false
    pub logged : HasLogged D h (End by job.order.number ∷ []) before after
    pub place : receipt.at ≡ length_of (with_entry h (End by job.order.number))
    pub tools : new.tools ≡ (ended old job).tools
    pub retired : new.retired ≡ (ended old job).retired

  pub record IsStopped (at : ℕ) : Type 0 where
    pub closed : before.log.is_closed ≡ true
    pub place : at ≡ length_of h
    pub journal : after ≡ before
    pub stock : new ≡ old

  pub record IsWanting : Type 0 where
    pub open_now : before.log.is_closed ≡ false
    pub untouched : IsUntouched D h before after
    pub stock : IsSameButRoom old new

  pub record IsFaulted : Type 0 where
    pub open_now : before.log.is_closed ≡ false
    pub unlogged : HasNotLogged D h before after
    pub stock : IsSameButRoom old new

  -- why it isn't ended; the job comes back as it was
  abbrev pub IsUnfinished : FinishWhy → Type 0
  IsUnfinished (ending.Stopped at) = IsStopped at
  IsUnfinished ending.Memory = IsWanting
  IsUnfinished ending.LogFault = IsFaulted
