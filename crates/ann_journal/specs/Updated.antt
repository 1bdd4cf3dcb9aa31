-- What an update answers and leaves.
use Rattle.std.specs.Prelude.{◌≡◌, ℕ, true, false, List, Some, None, map, Result, Ok, Err}
use Rattle.ann_types.specs.Judge.{entry_of, judge_all}
use Rattle.ann_types.specs.Lists.{BasedList, length_of, with_entries}
use Rattle.ann_types.specs.declared.change.Change.{Change}
use Rattle.ann_types.specs.declared.entry.Entry.{Entry}
use Rattle.ann_disk.specs.declared.file.LogFile.{Ghosts}
use Rattle.ann_judge.specs.Standing.{refused_at}
use Rattle.ann_judge.specs.declared.refusal.Refusal.{Refusal}
use Rattle.ann_judge.specs.declared.refusal.Refusal.TheVariants as judged
use Rattle.ann_journal.specs.Journal.{JournalView}
use Rattle.ann_journal.specs.Logged.{HasLogged, HasNotLogged, IsUntouched}
use Rattle.ann_journal.specs.declared.refused.Receipt.{Receipt}
use Rattle.ann_journal.specs.declared.refused.UpdateRefused.{UpdateRefused}
use Rattle.ann_journal.specs.declared.refused.UpdateRefused.TheVariants.{Stopped, Dimension, Full, Present, Absent, Memory, LogFault, MemoryLogged}

-- the entries of a client's changes
abbrev pub entries_by : ℕ → List Change → List Entry
entries_by by changes = map (entry_of by) changes

module _ {F S : Type 0} (D : Ghosts F) (h : BasedList) (by : ℕ) (changes : List Change) (old new : JournalView F S) where
  -- the log was open, and all changes are accepted behind the list
  pub record IsAccepted : Type 0 where
    pub open_now : old.log.is_closed ≡ false
    pub judged : judge_all old.log.params h by changes ≡ None

  -- the log was open; this change is the first that is refused, and nothing was logged
  pub record IsJudgedBy (index : ℕ) (refusal : Refusal) (at : ℕ) : Type 0 where
    pub open_now : old.log.is_closed ≡ false
    pub judged : refused_at (judge_all old.log.params h by changes) ≡ Some (index, refusal)
    pub place : at ≡ length_of h
    pub untouched : IsUntouched D h old new

  -- the changes were logged in one frame
  pub record HasUpdated (receipt : Receipt) : Type 0 where
    pub accepted : IsAccepted
    pub logged : HasLogged D h (entries_by by changes) old new
    pub place : receipt.at ≡ length_of (with_entries h (entries_by by changes))

  -- the log is closed
  pub record IsStopped (at : ℕ) : Type 0 where
    pub closed : old.log.is_closed ≡ true
    pub place : at ≡ length_of h
    pub untouched : IsUntouched D h old new

  pub record IsWanting : Type 0 where
    pub accepted : IsAccepted
    pub untouched : IsUntouched D h old new

  pub record HasFailed : Type 0 where
    pub accepted : IsAccepted
    pub unlogged : HasNotLogged D h old new

  -- By the answer: a closed log stops it, then the first refused change; then want of memory, and then a fault of the log. What
  -- is logged waits to be shown.
  abbrev pub IsUpdate : Result Receipt UpdateRefused → Type 0
  IsUpdate (Ok receipt) = HasUpdated receipt
  IsUpdate (Err (Stopped at)) = IsStopped at
  IsUpdate (Err (Dimension index got want at)) = IsJudgedBy index (judged.Dimension got want) at
  IsUpdate (Err (Full index at)) = IsJudgedBy index judged.Full at
  IsUpdate (Err (Present index tag at)) = IsJudgedBy index (judged.Present tag) at
  IsUpdate (Err (Absent index tag at)) = IsJudgedBy index (judged.Absent tag) at
  IsUpdate (Err Memory) = IsWanting
  IsUpdate (Err LogFault) = HasFailed
  IsUpdate (Err (MemoryLogged receipt)) = ⊥

-- a refusal of the change at an index, as an update answers it
abbrev pub IsRefusalOf : ℕ → Refusal → ℕ → UpdateRefused → Type 0
IsRefusalOf index (judged.Dimension got want) at why = why ≡ Dimension index got want at
IsRefusalOf index judged.Full at why = why ≡ Full index at
IsRefusalOf index (judged.Present tag) at why = why ≡ Present index tag at
IsRefusalOf index (judged.Absent tag) at why = why ≡ Absent index tag at
