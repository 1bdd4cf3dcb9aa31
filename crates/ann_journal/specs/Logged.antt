-- What logging a frame of entries leaves.
use Rattle.std.specs.Prelude.{◌≡◌, ◌<◌, ℕ, true, false, not, List, [], ◌∷◌, Result, Ok, Err, length, MatchResult}
use Rattle.std.specs.List.{list_all}
use Rattle.ann_types.specs.Legal.{IsLegal}
use Rattle.ann_types.specs.Lists.{BasedList, with_entries}
use Rattle.ann_types.specs.declared.entry.Entry.{Entry}
use Rattle.ann_types.specs.declared.entry.Entry.TheVariants.{End}
use Rattle.ann_laws.specs.Replays.{is_end}
use Rattle.ann_disk.specs.declared.file.LogFile.{Ghosts}
use Rattle.ann_log.specs.LogView.{LogView}
use Rattle.ann_log.specs.Appended.{HasAppended, HasNotAppended, IsSameLog}
use Rattle.ann_account.specs.Account.{HasRoom, IsSameBut}
use Rattle.ann_account.specs.Steps.{IsNoted, MayEndWith}
use Rattle.ann_segment.specs.Segment.{SegmentView}
use Rattle.ann_state.specs.State.{AreKept}
use Rattle.ann_vault.specs.Held.{Holding}
use Rattle.ann_journal.specs.Journal.{JournalView, IsJournalOf, index_in}
use Rattle.ann_journal.specs.Safe.{IsSafe}
use Rattle.ann_journal.specs.declared.refused.Unlogged.{Unlogged}
use Rattle.ann_journal.specs.declared.refused.Unlogged.TheVariants.{Memory, Fault}

-- a log that is open can take a frame of these entries, behind which its list stays legal
pub record CanLog {F S : Type 0} (D : Ghosts F) (h : BasedList) (entries : List Entry) (journal : JournalView F S) : Type 0 where
  pub journal_is : IsJournalOf D h journal
  pub legal : IsLegal (index_in journal.log) (with_entries h entries)
  pub open_now : journal.log.is_closed ≡ false
  pub some : 0 < length entries
  pub few : length entries < 65

-- and none of them is an End
pub record CanLogAll {F S : Type 0} (D : Ghosts F) (h : BasedList) (entries : List Entry) (journal : JournalView F S) : Type 0 where
  pub frame : CanLog D h entries journal
  pub no_end : list_all (λ e. not (is_end e)) entries ≡ true

-- or the one entry is an End, and its segment may end the open merge
pub record CanLogEnd {F S : Type 0} (D : Ghosts F) (h : BasedList) (by : ℕ) (segment : SegmentView S) (journal : JournalView F S) : Type 0 where
  pub frame : CanLog D h (End by segment.number ∷ []) journal
  pub ends : MayEndWith (index_in journal.log) h by segment journal.account

module _ {F S : Type 0} (D : Ghosts F) (h : BasedList) where
  -- nothing was logged; there may be more room
  pub record IsUntouched (old new : JournalView F S) : Type 0 where
    pub log : new.log ≡ old.log
    pub account : IsSameBut old.account new.account
    pub journal_is : IsJournalOf D h new

  -- the log failed, and is closed; nothing was noted
  pub record HasNotLogged (old new : JournalView F S) : Type 0 where
    pub log : HasNotAppended D old.log new.log
    pub same_log : IsSameLog old.log new.log
    pub closed : new.log.is_closed ≡ true
    pub account : IsSameBut old.account new.account
    pub journal_is : IsJournalOf D h new

  -- the entries stand behind the list, in one frame, and there is room to note them
  pub record HasStored (entries : List Entry) (old new : JournalView F S) : Type 0 where
    pub log : HasAppended D old.log entries new.log
    pub same_log : IsSameLog old.log new.log
    pub open_now : new.log.is_closed ≡ false
    pub account : IsSameBut old.account new.account
    pub room : HasRoom (length entries) new.account

  abbrev pub IsStoreOutcome : {T : Type 0} → List Entry → JournalView F S → JournalView F S → Result T Unlogged → Type 0
  IsStoreOutcome entries old new (Ok done) = HasStored entries old new
  IsStoreOutcome entries old new (Err Memory) = IsUntouched old new
  IsStoreOutcome entries old new (Err Fault) = HasNotLogged old new

  -- the entries stand behind the list, in one frame, and wait to be shown
  pub record HasLogged (entries : List Entry) (old new : JournalView F S) : Type 0 where
    pub log : HasAppended D old.log entries new.log
    pub same_log : IsSameLog old.log new.log
    pub open_now : new.log.is_closed ≡ false
    pub journal_is : IsJournalOf D (with_entries h entries) new
    pub noted : IsNoted (index_in old.log) h entries old.account new.account

  abbrev pub IsLogOutcome : {T : Type 0} → List Entry → JournalView F S → JournalView F S → Result T Unlogged → Type 0
  IsLogOutcome entries old new (Ok done) = HasLogged entries old new
  IsLogOutcome entries old new (Err Memory) = IsUntouched old new
  IsLogOutcome entries old new (Err Fault) = HasNotLogged old new

-- a place is safe for a list, and its vault holds what the list with these entries names
pub record MayGrow {F : Type 0} (D : Ghosts F) (held : Holding) (log : LogView F) (h : BasedList) (entries : List Entry) : Type 0 where
  pub safe : IsSafe D held log h
  pub longer : AreKept held log.params log.book.book (with_entries h entries)

-- a place stays safe: for the list with the entries where they were logged, and else for the list
abbrev pub StaysSafe : {F T R : Type 0} → Ghosts F → Holding → LogView F → BasedList → List Entry → Result T R → Type 0
StaysSafe D held log h entries result = MatchResult result (λ done. IsSafe D held log (with_entries h entries)) (λ why. IsSafe D held log h)
