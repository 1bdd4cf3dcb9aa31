-- What looking into an index finds.
use Rattle.std.specs.Prelude.{◌≡◌, ◌⊎◌, ◌==◌, ℕ, List, length, Option, Some, None, if◌then◌else◌}
use Rattle.ann_types.specs.Lists.{length_of, live_of}
use Rattle.ann_types.specs.declared.entry.Entry.{Entry}
use Rattle.ann_types.specs.declared.params.Params.{Params}
use Rattle.ann_disk.specs.declared.file.LogFile.{Ghosts}
use Rattle.ann_log.specs.Text.{Held, IsNoIndex, StandsFor, bad_log, log_text}
use Rattle.ann_log.specs.declared.files.Files.{Files}
use Rattle.ann_pq.specs.Codebook.{CodebookView}
use Rattle.ann_preamble.specs.declared.base.Base.{Base}
use Rattle.ann_segment.specs.Segment.{SegmentView}
use Rattle.ann_vault.specs.Held.{Holding}
use Rattle.ann_reopen.specs.declared.judged.Merge.{Merge}
use Rattle.ann_state.specs.List.{list_on, IsListState}
use Rattle.ann_state.specs.Merged.{IsMerged}
use Rattle.ann_state.specs.declared.list.ListState.{ListState}
use Rattle.ann_recover.specs.Loaded.{IsLoadRefused}
use Rattle.ann_recover.specs.Verified.{IsAllRight, IsWrong}
use Rattle.ann_recover.specs.declared.looking.Summary.{Summary}
use Rattle.ann_recover.specs.declared.refused.RecoverWhy.{RecoverWhy}
use Rattle.ann_recover.specs.declared.refused.RecoverWhy.TheVariants.{NoIndex, BadLog, BadSegment, Disk, Memory}

-- the number of the last End's segment, or else of the base's, if it has one
abbrev pub segment_named : Base → Option Merge → Option ℕ
segment_named base None = if base.segment == 0 then None else Some base.segment
segment_named base (Some merge) = Some merge.segment

-- the segments that a list names were opened
pub record AreOpened {S : Type 0} (tells : Type 0) (bytes : S → List ℕ) (held : Holding) (params : Params) (base : Base) (entries : List Entry) (list : ListState S) (merged : Option (SegmentView S)) : Type 0 where
  pub read : IsListState tells bytes held params base entries list
  pub opened : IsMerged tells bytes held params list.judged.merge merged

-- a list was read, with all node blocks of the segments that it names
pub record IsSummed {S : Type 0} (tells : Type 0) (bytes : S → List ℕ) (held : Holding) (params : Params) (book : CodebookView) (base : Base) (entries : List Entry) (summary : Summary) : Type 0 where
  pub list : ListState S
  pub merged : Option (SegmentView S)
  pub are : AreOpened tells bytes held params base entries list merged
  pub base_right : tells → IsAllRight bytes list.segment book params
  pub merge_right : tells → IsAllRight bytes merged book params
  pub entries_are : summary.entries ≡ length_of (list_on base are.read.graph entries)
  pub live_are : summary.live ≡ length (live_of (list_on base are.read.graph entries))
  pub segment_is : summary.segment ≡ segment_named base list.judged.merge

-- the first node block that isn't right, of the base's segment and then of the last End's
pub record IsWrongBlock {S : Type 0} (tells : Type 0) (bytes : S → List ℕ) (held : Holding) (params : Params) (book : CodebookView) (base : Base) (entries : List Entry) (why : RecoverWhy) : Type 0 where
  pub list : ListState S
  pub merged : Option (SegmentView S)
  pub are : AreOpened tells bytes held params base entries list merged
  pub wrong : IsWrong tells bytes list.segment book params why ⊎ ((tells → IsAllRight bytes list.segment book params) × IsWrong tells bytes merged book params why)

-- a list is refused as on opening, or by a node block
abbrev pub IsSumRefused : {S : Type 0} → Type 0 → (S → List ℕ) → Holding → Params → CodebookView → Base → List Entry → RecoverWhy → Type 0
IsSumRefused tells bytes held params book base entries why =
    IsLoadRefused tells bytes held params base entries why ⊎ IsWrongBlock tells bytes held params book base entries why

-- the files stand for a list, and this is what it says
pub record IsInspected {F S : Type 0} (D : Ghosts F) (tells : Type 0) (bytes : S → List ℕ) (held : Holding) (files : Files F) (summary : Summary) : Type 0 where
  pub was : Held
  pub stood : D.tells → StandsFor was (D.seen files.first) (D.seen files.second)
  pub summed : IsSummed tells bytes held was.params was.book was.base was.entries summary

-- the files stand for a list, and it is refused
pub record IsListBad {F S : Type 0} (D : Ghosts F) (tells : Type 0) (bytes : S → List ℕ) (held : Holding) (files : Files F) (why : RecoverWhy) : Type 0 where
  pub was : Held
  pub stood : D.tells → StandsFor was (D.seen files.first) (D.seen files.second)
  pub refused : IsSumRefused tells bytes held was.params was.book was.base was.entries why

abbrev pub IsNotInspected : {F S : Type 0} → Ghosts F → Type 0 → (S → List ℕ) → Holding → Files F → RecoverWhy → Type 0
IsNotInspected D tells bytes held files NoIndex = D.tells → IsNoIndex (D.seen files.first) (D.seen files.second)
IsNotInspected D tells bytes held files (BadLog entry) =
    (D.tells → log_text (D.seen files.first) (D.seen files.second) ≡ bad_log entry)
    ⊎ IsListBad D tells bytes held files (BadLog entry)
IsNotInspected D tells bytes held files (BadSegment block) = IsListBad D tells bytes held files (BadSegment block)
IsNotInspected D tells bytes held files Disk = Unit {0}
IsNotInspected D tells bytes held files Memory = Unit {0}
