-- What an index is resumed from, and that it stands for the list of the log.
use Rattle.std.specs.Prelude.{◌≡◌, ℕ, ◌+◌, false, List, length, Option, Some, None}
use Rattle.std.specs.List.{list_any}
use Rattle.std.specs.Option.{option_map}
use Rattle.ann_types.specs.Codes.{Book}
use Rattle.ann_types.specs.Fold.{Begun, fold_of}
use Rattle.ann_types.specs.Index.{Index}
use Rattle.ann_types.specs.Lists.{BasedList, length_of, live_of}
use Rattle.ann_types.specs.declared.params.Params.{Params}
use Rattle.ann_laws.specs.Replays.{is_end, LastMerge, StandsForList}
use Rattle.ann_named.specs.Named.{IsCurrent}
use Rattle.ann_pq.specs.Codebook.{CodebookView}
use Rattle.ann_tags.specs.Tags.{map_of}
use Rattle.ann_vault.specs.Held.{Holding}
use Rattle.ann_reopen.specs.Judged.{IsLastMerge}
use Rattle.ann_reopen.specs.declared.judged.Merge.{Merge}
use Rattle.ann_resume.specs.Cut.{on_merge}
use Rattle.ann_resume.specs.Resumed.{CanStart, IsResumedBy, HoldsAtStart, position_of, segment_of}
use Rattle.ann_base.specs.Front.{IsSealedAs}
use Rattle.ann_state.specs.declared.state.State.{State}

abbrev pub index_with : Params → Book → Index
index_with params book = record { params = params; book = book }

-- The vault holds what a list names: the text of its base's graph, and that of the graph that its last merge made.
pub record AreKept (held : Holding) (params : Params) (book : Book) (h : BasedList) : Type 0 where
  pub base : (h.base.segment ≡ 0 → ⊥) → IsSealedAs held params h.base.segment book h.base.graph
  pub merged : (m : LastMerge h) → IsSealedAs held params m.segment book (fold_of (index_with params book) h).lti

-- the list on the graph of its last merge, or itself where none has ended
abbrev pub IsLeftOf : Index → BasedList → Option Merge → BasedList → Type 0
IsLeftOf index h None g = (list_any is_end h.entries ≡ false) × (g ≡ h)
IsLeftOf index h (Some merge) g = (last : IsLastMerge h merge) × (g ≡ on_merge index h merge last)

-- the view of a state is that of a list which stands for this one
pub record IsResumable {S : Type 0} (tells : Type 0) (bytes : S → List ℕ) (held : Holding) (params : Params) (book : CodebookView) (h : BasedList) (merge : Option Merge) (state : State S) : Type 0 where
  pub left : BasedList
  pub is_left : IsLeftOf (index_with params book.book) h merge left
  pub stands : StandsForList (index_with params book.book) h left
  pub resumed : IsResumedBy params book state.start state.entries.items state.gone.items left
  -- its segment holds the graph of that list's base, where the vault holds what the list names
  pub holds : tells → AreKept held params book.book h → HoldsAtStart bytes params book.book state.start left.base.graph
  -- and it is the current one of both lists
  pub current : IsCurrent (index_with params book.book) h (segment_of state.start)
  pub left_current : IsCurrent (index_with params book.book) left (segment_of state.start)

-- a state is that of a list of an index with these parameters, whose last merge this is
pub record IsState {S : Type 0} (tells : Type 0) (bytes : S → List ℕ) (held : Holding) (params : Params) (h : BasedList) (merge : Option Merge) (state : State S) : Type 0 where
  pub can_start : CanStart params state.start
  pub long : position_of state.start + length state.entries.items ≡ length_of h
  pub tags : state.tags.pids ≡ map_of (live_of h)
  pub begun : (index : Index) → index.params ≡ params → state.begun ≡ option_map (λ (b : Begun). b.position) (fold_of index h).begun
  pub resumable : (book : CodebookView) → IsResumable tells bytes held params book h merge state
