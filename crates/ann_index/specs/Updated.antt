-- What an update of an index answers and leaves.
use Rattle.std.specs.Prelude.{◌≡◌, ℕ, Bool, true, false, List, Some, Result, Ok, Err}
use Rattle.ann_types.specs.Judge.{judge_all}
use Rattle.ann_types.specs.Lists.{BasedList, length_of, with_entries}
use Rattle.ann_types.specs.declared.change.Change.{Change}
use Rattle.ann_disk.specs.declared.file.LogFile.{Ghosts}
use Rattle.ann_judge.specs.Standing.{refused_at}
use Rattle.ann_judge.specs.declared.refusal.Refusal.{Refusal}
use Rattle.ann_judge.specs.declared.refusal.Refusal.TheVariants as judged
use Rattle.ann_log.specs.Appended.{HasAppended, HasNotAppended}
use Rattle.ann_vault.specs.Held.{Holding}
use Rattle.ann_journal.specs.Updated.{IsAccepted, entries_by}
use Rattle.ann_journal.specs.declared.refused.Receipt.{Receipt}
use Rattle.ann_journal.specs.declared.refused.UpdateRefused.{UpdateRefused}
use Rattle.ann_journal.specs.declared.refused.UpdateRefused.TheVariants.{Stopped, Dimension, Full, Present, Absent, Memory, LogFault, MemoryLogged}
use Rattle.ann_index.specs.Index.{KeptView, IsIndexOf, IsIndexFrom}

-- the list with the changes of the one client, whose number is 0
abbrev pub changed : BasedList → List Change → BasedList
changed h changes = with_entries h (entries_by 0 changes)

module _ {F V E S : Type 0} (D : Ghosts F) (tells : Type 0) (bytes : S → List ℕ) (held : V → Holding) (sound : Bool) (h shown : BasedList) (changes : List Change) (old new : KeptView F V E S) where
  -- the log was open, all changes are accepted behind the list, and they stand there in one frame
  pub record AreLogged (receipt : Receipt) : Type 0 where
    pub accepted : IsAccepted D h 0 changes old.journal new.journal
    pub appended : HasAppended D old.journal.log (entries_by 0 changes) new.journal.log
    pub open_now : new.journal.log.is_closed ≡ false
    pub place : receipt.at ≡ length_of (changed h changes)

  -- they were logged, and are shown
  pub record HasUpdated (receipt : Receipt) : Type 0 where
    pub logged : AreLogged receipt
    pub index : IsIndexOf D tells bytes held sound (changed h changes) (changed h changes) new

  -- they were logged, and some wait to be shown
  pub record IsUnshown (receipt : Receipt) : Type 0 where
    pub logged : AreLogged receipt
    pub index : IsIndexFrom D tells bytes held sound (changed h changes) h new

  -- the log is closed
  pub record IsStopped (at : ℕ) : Type 0 where
    pub closed : old.journal.log.is_closed ≡ true
    pub place : at ≡ length_of h
    pub same : new ≡ old

  -- this change is the first that is refused
  pub record IsJudgedBy (index : ℕ) (refusal : Refusal) (at : ℕ) : Type 0 where
    pub open_now : old.journal.log.is_closed ≡ false
    pub judged : refused_at (judge_all old.journal.log.params h 0 changes) ≡ Some (index, refusal)
    pub place : at ≡ length_of h
    pub log : new.journal.log ≡ old.journal.log
    pub still : IsIndexOf D tells bytes held sound h h new

  -- there was no memory to show what waited, or to log the changes
  pub record IsWanting : Type 0 where
    pub open_now : old.journal.log.is_closed ≡ false
    pub log : new.journal.log ≡ old.journal.log
    pub still : IsIndexFrom D tells bytes held sound h shown new

  -- the log failed, and is closed
  pub record HasFailed : Type 0 where
    pub accepted : IsAccepted D h 0 changes old.journal new.journal
    pub unlogged : HasNotAppended D old.journal.log new.journal.log
    pub closed : new.journal.log.is_closed ≡ true
    pub still : IsIndexOf D tells bytes held sound h h new

  -- By the answer. Only an update that is logged changes the list of the index.
  abbrev pub IsUpdateOf : Result Receipt UpdateRefused → Type 0
  IsUpdateOf (Ok receipt) = HasUpdated receipt
  IsUpdateOf (Err (Stopped at)) = IsStopped at
  IsUpdateOf (Err (Dimension index got want at)) = IsJudgedBy index (judged.Dimension got want) at
  IsUpdateOf (Err (Full index at)) = IsJudgedBy index judged.Full at
  IsUpdateOf (Err (Present index tag at)) = IsJudgedBy index (judged.Present tag) at
  IsUpdateOf (Err (Absent index tag at)) = IsJudgedBy index (judged.Absent tag) at
  IsUpdateOf (Err Memory) = IsWanting
  IsUpdateOf (Err LogFault) = HasFailed
  IsUpdateOf (Err (MemoryLogged receipt)) = IsUnshown receipt
