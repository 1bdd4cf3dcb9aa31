-- What a merge of an index answers and leaves.
use Rattle.std.specs.Prelude.{◌≡◌, ◌⊎◌, ◌<◌, ◌+◌, ◌*◌, ◌++◌, ℕ, Bool, true, false, List, [], ◌∷◌, Option, Some, None, IsTrue, Result, Ok, Err, length, get_or}
use Rattle.ann_types.specs.Fold.{Begun, fold_of}
use Rattle.ann_types.specs.Index.{Index}
use Rattle.ann_types.specs.Legal.{has_work}
use Rattle.ann_types.specs.Lists.{BasedList, length_of, with_entry}
use Rattle.ann_types.specs.declared.entry.Entry.{Entry}
use Rattle.ann_types.specs.declared.entry.Entry.TheVariants.{Begin, End}
use Rattle.ann_disk.specs.declared.file.LogFile.{Ghosts}
use Rattle.ann_fault.specs.Counts.{Rose}
use Rattle.ann_log.specs.Appended.{HasAppended, HasNotAppended}
use Rattle.ann_log.specs.LogView.{LogView, extended}
use Rattle.ann_log.specs.Text.{Held, StandsFor}
use Rattle.ann_vault.specs.Held.{Holding}
use Rattle.ann_journal.specs.Journal.{index_in}
use Rattle.ann_journal.specs.declared.refused.Receipt.{Receipt}
use Rattle.ann_stock.specs.Stock.{ToolsView, IsAtHand, parts_in}
use Rattle.ann_index.specs.Index.{KeptView, IsIndexOf, IsIndexFrom}
use Rattle.ann_index.specs.declared.refusal.Merged.{Merged}
use Rattle.ann_index.specs.declared.refusal.MergeRefused.{MergeRefused}
use Rattle.ann_index.specs.declared.refusal.MergeRefused.TheVariants.{Stopped, Nothing, Memory, LogFault, Disk, BadSegment, MemoryLogged}

-- ---- the entries of a merge

-- the list behind the Begin of the one client, unless a merge is open
abbrev pub begun_by : Option Begun → BasedList → BasedList
begun_by None h = with_entry h (Begin 0)
begun_by (Some begun) h = h

abbrev pub begun : Index → BasedList → BasedList
begun index h = begun_by (fold_of index h).begun h

-- the position of that Begin, or of the one that is open
abbrev pub place_by : Option Begun → BasedList → ℕ
place_by None h = length_of h
place_by (Some begun) h = begun.position

-- the number of the segment that the merge makes, its End, and the list behind that
abbrev pub segment_for : Index → BasedList → ℕ
segment_for index h = 2 * place_by (fold_of index h).begun h + 1

abbrev pub end_for : Index → BasedList → Entry
end_for index h = End 0 (segment_for index h)

abbrev pub ended : Index → BasedList → BasedList
ended index h = with_entry (begun index h) (end_for index h)

-- what it logs: a Begin, unless a merge is open, and an End
abbrev pub begins : Option Begun → List Entry
begins None = Begin 0 ∷ []
begins (Some begun) = []

-- a crash leaves files with what was held, with the Begin, or with the End too
abbrev pub IsOfMerge : Index → BasedList → Held → List ℕ → List ℕ → Type 0
IsOfMerge index h held one two =
    StandsFor held one two
    ⊎ (StandsFor (extended held (begins (fold_of index h).begun)) one two
    ⊎ StandsFor (extended held (begins (fold_of index h).begun ++ end_for index h ∷ [])) one two)

-- ---- what was logged

module _ {F : Type 0} (D : Ghosts F) (index : Index) (h : BasedList) (old : LogView F) where
  -- no merge was open, and there was something to merge
  pub record MayBegin : Type 0 where
    pub none : (fold_of index h).begun ≡ None
    pub work : has_work (fold_of index h) ≡ true

  pub record HasBegun (new : LogView F) : Type 0 where
    pub may : MayBegin
    pub appended : HasAppended D old (Begin 0 ∷ []) new
    pub open_now : new.is_closed ≡ false

  -- a merge was open, and the log is as it was; or a Begin was logged
  abbrev pub IsBegunBy : Option Begun → LogView F → Type 0
  IsBegunBy None new = HasBegun new
  IsBegunBy (Some begun) new = new ≡ old

  abbrev pub IsBegun : LogView F → Type 0
  IsBegun new = IsBegunBy (fold_of index h).begun new

  -- and then its End
  pub record HasEnded (new : LogView F) : Type 0 where
    pub between : LogView F
    pub begun_is : IsBegun between
    pub appended : HasAppended D between (end_for index h ∷ []) new
    pub open_now : new.is_closed ≡ false

  -- the End wasn't logged, since the log failed
  pub record HasNotEnded (new : LogView F) : Type 0 where
    pub between : LogView F
    pub begun_is : IsBegun between
    pub unlogged : HasNotAppended D between new

  -- the Begin wasn't
  pub record HasNotBegun (new : LogView F) : Type 0 where
    pub may : MayBegin
    pub unlogged : HasNotAppended D old new

-- ---- faults of the vault and of the eyes

-- the count of a vault rose, or that of an eye
pub record HaveFaulted {V E S : Type 0} (vault_faults : V → ℕ) (eye_faults : E → ℕ) (old new : ToolsView V E S) : Type 0 where
  pub vault : V
  pub eyes : List E
  pub had : parts_in old ≡ Some (vault, eyes)
  pub vault_now : V
  pub eyes_now : List E
  pub has : parts_in new ≡ Some (vault_now, eyes_now)
  pub rose : Rose (vault_faults vault) (vault_faults vault_now)
      ⊎ ((i : ℕ) × (i < length eyes) × ((d : E) → Rose (eye_faults (get_or eyes i d)) (eye_faults (get_or eyes_now i d))))

-- ---- by the answer

-- `shown` is the part of the list that was shown before the merge, and `log` and `tools` are those before it
module _ {F V E S : Type 0} (D : Ghosts F) (tells : Type 0) (bytes : S → List ℕ) (held : V → Holding) (vault_faults : V → ℕ) (eye_faults : E → ℕ) (sound : Bool) (h shown : BasedList) (log : LogView F) (tools : ToolsView V E S) (new : KeptView F V E S) where
  -- the End is logged, and shown; the vault and the eyes are at hand
  pub record HasMerged (merged : Merged) : Type 0 where
    pub open_now : log.is_closed ≡ false
    pub logged : HasEnded D (index_in log) h log new.journal.log
    pub number : merged.segment ≡ segment_for (index_in log) h
    pub place : merged.at ≡ length_of (ended (index_in log) h)
    pub at_hand : IsAtHand new.stock.tools
    pub index : IsIndexOf D tells bytes held sound (ended (index_in log) h) (ended (index_in log) h) new

  -- the log is closed
  pub record IsStopped (at : ℕ) : Type 0 where
    pub closed : log.is_closed ≡ true
    pub place : at ≡ length_of h

  -- no merge is open, and there is nothing to merge
  pub record IsIdle (at : ℕ) : Type 0 where
    pub open_now : log.is_closed ≡ false
    pub none : (fold_of (index_in log) h).begun ≡ None
    pub no_work : has_work (fold_of (index_in log) h) ≡ false
    pub place : at ≡ length_of h
    pub same_log : new.journal.log ≡ log
    pub index : IsIndexOf D tells bytes held sound h h new

  -- there was no memory, before anything was logged or once a merge was open
  pub record IsWanting : Type 0 where
    pub open_now : log.is_closed ≡ false
    pub left : ((new.journal.log ≡ log) × IsIndexFrom D tells bytes held sound h shown new)
        ⊎ (IsBegun D (index_in log) h log new.journal.log
        × IsIndexOf D tells bytes held sound (begun (index_in log) h) (begun (index_in log) h) new)

  -- there was none behind the Begin, or behind the End, which is logged
  pub record IsBeginUnshown (receipt : Receipt) : Type 0 where
    pub logged : HasBegun D (index_in log) h log new.journal.log
    pub place : receipt.at ≡ length_of (begun (index_in log) h)
    pub index : IsIndexFrom D tells bytes held sound (begun (index_in log) h) h new

  pub record IsEndUnshown (receipt : Receipt) : Type 0 where
    pub logged : HasEnded D (index_in log) h log new.journal.log
    pub place : receipt.at ≡ length_of (ended (index_in log) h)
    pub index : IsIndexFrom D tells bytes held sound (ended (index_in log) h) (begun (index_in log) h) new

  -- the log failed at the Begin, or at the End, and is closed
  pub record HasFailed : Type 0 where
    pub open_before : log.is_closed ≡ false
    pub closed : new.journal.log.is_closed ≡ true
    pub left : (HasNotBegun D (index_in log) h log new.journal.log × IsIndexOf D tells bytes held sound h h new)
        ⊎ (HasNotEnded D (index_in log) h log new.journal.log × IsIndexOf D tells bytes held sound (begun (index_in log) h) (begun (index_in log) h) new)

  -- the merge is open, and its job is kept
  pub record IsUnmerged : Type 0 where
    pub open_now : log.is_closed ≡ false
    pub begun_is : IsBegun D (index_in log) h log new.journal.log
    pub index : IsIndexOf D tells bytes held sound (begun (index_in log) h) (begun (index_in log) h) new

  abbrev pub IsRefused : MergeRefused → Type 0
  IsRefused (Stopped at) = IsStopped at
  IsRefused (Nothing at) = IsIdle at
  IsRefused Memory = IsWanting
  IsRefused LogFault = HasFailed
  IsRefused Disk = IsUnmerged × HaveFaulted vault_faults eye_faults tools new.stock.tools
  IsRefused (BadSegment block) = IsUnmerged × (IsTrue sound → ⊥)
  IsRefused (MemoryLogged receipt) = (log.is_closed ≡ false) × (IsBeginUnshown receipt ⊎ IsEndUnshown receipt)

  -- A closed log stops it; want of memory and faults leave the merge open where its Begin is logged, with its job; and where
  -- the place is sound no block is bad.
  abbrev pub IsMergeOf : Result Merged MergeRefused → Type 0
  IsMergeOf (Ok merged) = HasMerged merged
  IsMergeOf (Err why) = IsRefused why
