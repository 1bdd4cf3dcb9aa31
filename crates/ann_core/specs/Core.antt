-- What is seen of a core, and when it is in a state of the definition.
use Rattle.std.specs.Prelude.{◌≡◌, ℕ, ◌≤◌, Bool, List, [], ◌∷◌, Option, map, take, length, if◌then◌else◌}
use Rattle.ann_types.specs.Index.{Index}
use Rattle.ann_types.specs.declared.entry.Entry.{Entry}
use Rattle.ann_types.specs.declared.params.Params.{Params}
use Rattle.ann_pq.specs.Codebook.{CodebookView}
use Rattle.ann_segment.specs.Holds.{Fits}
use Rattle.ann_segment.specs.Text.{segment_text}
use Rattle.ann_state.specs.State.{index_with}
use Rattle.ann_core_laws.specs.State.{Piece, Kept, CoreState}
use Rattle.ann_core_laws.specs.Events.{done, steps_from, state_after}
use Rattle.ann_core_laws.specs.Facts.{CoreFacts}
use Rattle.ann_core_laws.specs.declared.event.Event.{Event}
use Rattle.ann_core_laws.specs.declared.step.Step.{Step}
use Rattle.ann_core.specs.Kept.{Text, texts_of}
use Rattle.ann_core.specs.declared.state.State.{State}

-- the index, the logged list, how many of its entries are shown, for each reader the number that it has pinned or none, the
-- numbers of the finished pieces, whether the open merge is sealed, and the bytes of the kept segments
pub record CoreView : Type 0 where
  pub params : Params
  pub book : CodebookView
  pub list : List Entry
  pub shown : ℕ
  pub pins : List (Option ℕ)
  pub pieces : List ℕ
  pub sealed : Bool
  pub kept : List Text

abbrev pub seen : State → CoreView
seen s = record {
  params = s.params;
  book = s.book.value;
  list = s.list.items;
  shown = s.shown;
  pins = s.pins.items;
  pieces = s.pieces.items;
  sealed = s.sealed;
  kept = texts_of s.kept.items;
}

-- bytes are the text of the graph of a kept segment, under its number
pub record IsTextOf (index : Index) (text : Text) (kept : Kept) : Type 0 where
  pub number : text.number ≡ kept.number
  pub fits : Fits index.params index.book kept.graph
  pub bytes : text.bytes ≡ segment_text index.params index.book kept.graph kept.number

abbrev pub AreTextsOf : Index → List Text → List Kept → Type 0
AreTextsOf index [] [] = Unit {0}
AreTextsOf index [] (k ∷ ks) = ⊥
AreTextsOf index (t ∷ ts) [] = ⊥
AreTextsOf index (t ∷ ts) (k ∷ ks) = IsTextOf index t k × AreTextsOf index ts ks

-- A core of an index is in a state: it has its list, what is shown, its pins and the numbers of its pieces, and keeps the texts
-- of the graphs of its segments. The core facts are true of it.
pub record IsCoreOf (index : Index) (core : CoreView) (c : CoreState) : Type 0 where
  pub index_is : index ≡ index_with core.params core.book.book
  pub sizes : (core.book.d ≡ core.params.d) × (core.book.m ≡ core.params.m)
  pub list : core.list ≡ c.list
  pub shown : core.shown ≡ c.shown
  pub pins : core.pins ≡ c.pins
  pub pieces : core.pieces ≡ map (λ (x : Piece). x.number) c.pieces
  pub sealed : core.sealed ≡ c.sealed
  pub kept : AreTextsOf index core.kept c.kept
  pub facts : CoreFacts index c

-- a core comes to a state by a step
pub record ComesTo (index : Index) (next : CoreState × Step) (core : CoreView) (step : Step) : Type 0 where
  pub step_is : step ≡ next.1
  pub state : IsCoreOf index core next.0

-- all that is logged is shown
abbrev pub show_step : CoreState → CoreState × Step
show_step c = done (record c { shown = length c.list })

-- with another list, and no finished piece where a merge begins
abbrev pub with_list : CoreView → List Entry → Bool → CoreView
with_list v list begins = record v { list = list; pieces = if begins then [] else v.pieces }

-- events were taken: each came to its step; or for want of memory some first ones of them were
pub record HasRun (index : Index) (c : CoreState) (events : List Event) (core : CoreView) (steps : List Step) : Type 0 where
  pub steps_are : steps ≡ steps_from index c events
  pub state : IsCoreOf index core (state_after index c events)

pub record HasStopped (index : Index) (c : CoreState) (events : List Event) (core : CoreView) : Type 0 where
  pub count : ℕ
  pub within : count ≤ length events
  pub state : IsCoreOf index core (state_after index c (take count events))
