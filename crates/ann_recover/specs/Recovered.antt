-- What opening an index again gives, and what a crash leaves meanwhile.
use Rattle.std.specs.Prelude.{◌≡◌, ◌⊎◌, ◌+◌, ℕ, false, List, length, Option, Some, None}
use Rattle.std.specs.Option.{option_map}
use Rattle.std.specs.FinMap.{retain_keys}
use Rattle.ann_types.specs.Fold.{Begun, fold_of}
use Rattle.ann_types.specs.Legal.{IsLegal}
use Rattle.ann_types.specs.Lists.{BasedList, live_of}
use Rattle.ann_disk.specs.declared.file.LogFile.{Ghosts}
use Rattle.ann_log.specs.LogView.{LogView, files_of, held_of}
use Rattle.ann_log.specs.Pairs.{ReadAsBefore}
use Rattle.ann_log.specs.Renewed.{renewed}
use Rattle.ann_log.specs.Text.{Held, StandsAt, StandsFor}
use Rattle.ann_log.specs.Told.{MayLeave}
use Rattle.ann_log.specs.declared.files.Files.{Files}
use Rattle.ann_named.specs.Named.{IsCurrent}
use Rattle.ann_preamble.specs.declared.base.Base.{Base}
use Rattle.ann_tags.specs.Tags.{TagsView, map_of}
use Rattle.ann_vault.specs.Held.{Holding}
use Rattle.ann_view.specs.Holding.{HoldsGraph}
use Rattle.ann_view.specs.Stands.{lti_of, StandsFor as IsViewOf}
use Rattle.ann_view.specs.View.{IndexView, index_of}
use Rattle.ann_reopen.specs.declared.judged.Merge.{Merge}
use Rattle.ann_resume.specs.Removed.{is_named}
use Rattle.ann_state.specs.List.{base_on, list_on}
use Rattle.ann_state.specs.State.{AreKept}
use Rattle.ann_recover.specs.Loaded.{IsReplayed}
use Rattle.ann_recover.specs.Renewal.{renewal_of, number_of}

module _ {F : Type 0} (D : Ghosts F) where
  -- two files stood for this, at this generation
  pub record HaveStood (files : Files F) (was : Held) (generation : ℕ) : Type 0 where
    pub stood : D.tells → StandsAt generation was (D.seen files.first) (D.seen files.second)

-- the log has its list on its last merge now, where it was written anew with a base; or else its list as it was
abbrev pub IsNow : {F : Type 0} → Option Base → ℕ → BasedList → BasedList → LogView F → BasedList → Type 0
IsNow None generation was left log h = (h ≡ was) × (log.generation ≡ generation)
IsNow (Some base) generation was left log h = (h ≡ left) × (log.generation ≡ generation + 1)

-- the log's base over the list's graph, and the list's entries, are the list
pub record IsListOf {F : Type 0} (D : Ghosts F) (log : LogView F) (h : BasedList) : Type 0 where
  pub base : h.base ≡ base_on log.base h.base.graph
  pub count : log.count ≡ length h.entries
  pub entries : D.tells → log.list ≡ h.entries

-- a view is of this list of the log's index and on its current segment, and these are its live tags and its open Begin
pub record IsShown {F S : Type 0} (log : LogView F) (view : IndexView S) (tags : TagsView) (begun : Option ℕ) (h : BasedList) : Type 0 where
  pub index : (view.params ≡ log.params) × (view.book ≡ log.book)
  pub open_now : (log.is_closed ≡ false) × (view.closed ≡ false)
  pub legal : IsLegal (index_of view) h
  pub stands : IsViewOf view h
  pub current : IsCurrent (index_of view) h view.segment
  pub tags_are : tags.pids ≡ map_of (live_of h)
  pub begun_is : begun ≡ option_map (λ (b : Begun). b.position) (fold_of (index_of view) h).begun

-- The list of a log was read, and its view was made; the log has it, or was written anew on its last merge.
pub record IsRevived {F S : Type 0} (D : Ghosts F) (tells : Type 0) (bytes : S → List ℕ) (held after : Holding) (was : Held) (generation : ℕ) (log : LogView F) (view : IndexView S) (tags : TagsView) (begun : Option ℕ) : Type 0 where
  pub merge : Option Merge
  pub replayed : IsReplayed tells bytes held was.params was.book was.base was.entries merge
  pub h : BasedList
  pub index : (log.params ≡ was.params) × (log.book ≡ was.book)
  pub now : IsNow (renewal_of was.base generation merge) generation (list_on was.base replayed.graph was.entries) replayed.left log h
  pub list : IsListOf D log h
  pub shown : IsShown log view tags begun h
  -- where the vault holds what the list names, the view's segment holds its long-term graph
  pub holds : tells → AreKept held was.params was.book.book (list_on was.base replayed.graph was.entries) → HoldsGraph bytes view (lti_of view h)
  -- a crash now leaves what the log holds
  pub leaves : MayLeave D (files_of log) (StandsFor (held_of log))
  -- all segments are removed that neither the log's base nor the last End names
  pub removed : tells → after ≡ retain_keys held (is_named log.base.segment (number_of merge))

-- An index was opened again: the files stood for a list, and it was revived.
pub record IsRecovered {F S : Type 0} (D : Ghosts F) (tells : Type 0) (bytes : S → List ℕ) (held after : Holding) (files : Files F) (log : LogView F) (view : IndexView S) (tags : TagsView) (begun : Option ℕ) : Type 0 where
  pub was : Held
  pub generation : ℕ
  pub stood : HaveStood D files was generation
  pub revived : IsRevived D tells bytes held after was generation log view tags begun

-- ---- crashes

-- the files stand for a list on its last merge, with which the log was to be written anew
pub record AreOfMerge {S : Type 0} (tells : Type 0) (bytes : S → List ℕ) (held : Holding) (was : Held) (generation : ℕ) (one two : List ℕ) : Type 0 where
  pub merge : Option Merge
  pub replayed : IsReplayed tells bytes held was.params was.book was.base was.entries merge
  pub base : Base
  pub must : renewal_of was.base generation merge ≡ Some base
  pub stands : StandsFor (renewed was base replayed.left.entries) one two

-- the files stand for a list, or for it on its last merge
abbrev pub AreOfList : {S : Type 0} → Type 0 → (S → List ℕ) → Holding → Held → ℕ → List ℕ → List ℕ → Type 0
AreOfList tells bytes held was generation one two = StandsFor was one two ⊎ AreOfMerge tells bytes held was generation one two

-- a crash between leaves files that read as they might have before, or that are of the list for which they stood
pub record AreOfRead {F S : Type 0} (D : Ghosts F) (tells : Type 0) (bytes : S → List ℕ) (held : Holding) (files : Files F) (one two : List ℕ) : Type 0 where
  pub was : Held
  pub generation : ℕ
  pub stood : HaveStood D files was generation
  pub are : AreOfList tells bytes held was generation one two

abbrev pub AreLeft : {F S : Type 0} → Ghosts F → Type 0 → (S → List ℕ) → Holding → Files F → List ℕ → List ℕ → Type 0
AreLeft D tells bytes held files one two =
    ReadAsBefore (D.unsynced files.first) (D.unsynced files.second) one two
    ⊎ AreOfRead D tells bytes held files one two
