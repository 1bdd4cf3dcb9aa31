-- What is seen of a pinned view.
use Rattle.std.specs.Prelude.{◌≡◌, ℕ, List, Option, MatchOption}
use Rattle.std.specs.Arc.{arc_value}
use Rattle.std.specs.Option.{option_map}
use Rattle.std.specs.declared.sync.Arc.{Arc}
use Rattle.std.specs.declared.alloc.Global.{Global}
use Rattle.ann_types.specs.declared.params.Params.{Params}
use Rattle.ann_pq.specs.Codebook.{CodebookView}
use Rattle.ann_segment.specs.Segment.{SegmentView}
use Rattle.ann_view.specs.View.{IndexView}

-- what a search of the long-term graph needs of a view
pub record PinnedView (S : Type 0) : Type 0 where
  pub params : Params
  pub book : CodebookView
  pub at : ℕ
  pub dead : List ℕ
  pub segment : Option (SegmentView S)

abbrev pub pinned : {S : Type 0} → IndexView S → PinnedView S
pinned view = record { params = view.params; book = view.book; at = view.at; dead = view.memory.dead; segment = view.segment }

-- what it holds has the index's sizes
pub record ArePinned {S : Type 0} (pin : PinnedView S) : Type 0 where
  pub book : (pin.book.d ≡ pin.params.d) × (pin.book.m ≡ pin.params.m)
  pub codes : MatchOption pin.segment (Unit {0}) (λ segment. segment.m ≡ pin.params.m)

-- how it is kept
abbrev pub kept : {S : Type 0} → Params → Arc CodebookView Global → ℕ → List ℕ → Option (Arc (SegmentView S) Global) → PinnedView S
kept params book at dead segment = record { params = params; book = book.value; at = at; dead = dead; segment = option_map arc_value segment }
