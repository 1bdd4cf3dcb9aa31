-- What reading the list of a log makes: its view, its tags, and what is left of its entries.
use Rattle.std.specs.Prelude.{◌≡◌, ◌⊎◌, ℕ, false, List, Option}
use Rattle.std.specs.Option.{option_map}
use Rattle.ann_types.specs.Fold.{Begun, fold_of}
use Rattle.ann_types.specs.Graph.{Graph}
use Rattle.ann_types.specs.Legal.{IsLegal}
use Rattle.ann_types.specs.Lists.{BasedList, live_of}
use Rattle.ann_types.specs.declared.entry.Entry.{Entry}
use Rattle.ann_types.specs.declared.params.Params.{Params}
use Rattle.ann_laws.specs.Replays.{StandsForList}
use Rattle.ann_named.specs.Named.{IsCurrent}
use Rattle.ann_pq.specs.Codebook.{CodebookView}
use Rattle.ann_preamble.specs.declared.base.Base.{Base}
use Rattle.ann_segment.specs.Segment.{SegmentView}
use Rattle.ann_tags.specs.Tags.{map_of}
use Rattle.ann_vault.specs.Held.{Holding}
use Rattle.ann_view.specs.Holding.{HoldsGraph}
use Rattle.ann_view.specs.Stands.{StandsFor, lti_of}
use Rattle.ann_reopen.specs.declared.judged.Merge.{Merge}
use Rattle.ann_base.specs.Grounded.{IsRightlyRefused}
use Rattle.ann_state.specs.List.{list_on, IsGround, IsListState, IsIllegal}
use Rattle.ann_state.specs.Merged.{IsMergeFault}
use Rattle.ann_state.specs.State.{index_with, AreKept, IsLeftOf}
use Rattle.ann_state.specs.declared.list.ListState.{ListState}
use Rattle.ann_recover.specs.declared.load.Loaded.{Loaded}
use Rattle.ann_recover.specs.declared.refused.RecoverWhy.{RecoverWhy}
use Rattle.ann_recover.specs.declared.refused.RecoverWhy.TheVariants.{NoIndex, BadLog, BadSegment, Disk, Memory}

-- a legal list on the base of a log, and the list on its last merge, or itself where none has ended
pub record IsReplayed {S : Type 0} (tells : Type 0) (bytes : S → List ℕ) (held : Holding) (params : Params) (book : CodebookView) (base : Base) (entries : List Entry) (merge : Option Merge) : Type 0 where
  pub graph : Graph
  pub segment : Option (SegmentView S)
  pub ground : IsGround tells bytes held params base graph segment
  pub legal : IsLegal (index_with params book.book) (list_on base graph entries)
  pub left : BasedList
  pub is_left : IsLeftOf (index_with params book.book) (list_on base graph entries) merge left
  pub stands : StandsForList (index_with params book.book) (list_on base graph entries) left

-- the list of a log was read, and this is what it makes
pub record IsLoaded {S : Type 0} (tells : Type 0) (bytes : S → List ℕ) (held : Holding) (params : Params) (book : CodebookView) (base : Base) (entries : List Entry) (loaded : Loaded S) : Type 0 where
  pub list : IsReplayed tells bytes held params book base entries loaded.merge
  pub tail_is : loaded.tail.items ≡ list.left.entries
  pub stands_for : StandsFor loaded.view list.left
  pub index : (loaded.view.params ≡ params) × (loaded.view.book ≡ book)
  pub open_now : loaded.view.closed ≡ false
  pub tags_are : loaded.tags.pids ≡ map_of (live_of list.left)
  pub begun_is : loaded.begun ≡ option_map (λ (b : Begun). b.position) (fold_of (index_with params book.book) list.left).begun
  -- where the vault holds what the list names, the view's segment holds its long-term graph
  pub holds : tells → AreKept held params book.book (list_on base list.graph entries) → HoldsGraph bytes loaded.view (lti_of loaded.view list.left)
  -- and it is the current one of both lists
  pub current : IsCurrent (index_with params book.book) (list_on base list.graph entries) loaded.view.segment
  pub left_current : IsCurrent (index_with params book.book) list.left loaded.view.segment

-- the first block at fault of the segment of the list's last merge
pub record IsBadMerge {S : Type 0} (tells : Type 0) (bytes : S → List ℕ) (held : Holding) (params : Params) (base : Base) (entries : List Entry) (block : ℕ) : Type 0 where
  pub list : ListState S
  pub state : IsListState tells bytes held params base entries list
  pub fault : IsMergeFault tells held params list.judged.merge block

-- The first block of the base's segment that is at fault; or else the first entry that isn't legal; or else the first block of
-- the segment of the last merge that is at fault.
abbrev pub IsLoadRefused : {S : Type 0} → Type 0 → (S → List ℕ) → Holding → Params → Base → List Entry → RecoverWhy → Type 0
IsLoadRefused tells bytes held params base entries NoIndex = ⊥
IsLoadRefused tells bytes held params base entries (BadLog entry) = IsIllegal tells bytes held params base entries entry
IsLoadRefused tells bytes held params base entries (BadSegment block) =
    (tells → IsRightlyRefused held params base.segment base.next block)
    ⊎ IsBadMerge tells bytes held params base entries block
IsLoadRefused tells bytes held params base entries Disk = Unit {0}
IsLoadRefused tells bytes held params base entries Memory = Unit {0}
