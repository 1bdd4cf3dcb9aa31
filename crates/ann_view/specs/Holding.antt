-- When a view's segment holds a long-term graph.
use Rattle.std.specs.Prelude.{ℕ, List}
use Rattle.ann_types.specs.Graph.{Graph}
use Rattle.ann_types.specs.Lists.{BasedList}
use Rattle.ann_types.specs.Fold.{fold_of, merge_of}
use Rattle.ann_segment.specs.Holds.{Holds}
use Rattle.ann_beam.specs.Quest.{HoldsIn}
use Rattle.ann_view.specs.View.{IndexView, index_of}
use Rattle.ann_view.specs.declared.op.Op.{Op}
use Rattle.ann_view.specs.declared.op.Op.TheVariants.{Insert, Delete, Replace, Begin, End, Close}

-- `bytes` are those of a seal
abbrev pub HoldsGraph : {S : Type 0} → (S → List ℕ) → IndexView S → Graph → Type 0
HoldsGraph bytes view lti = HoldsIn bytes view.params view.book.book view.segment lti

-- the segment of an End holds the graph that the merge of this list makes
abbrev pub BringsMerge : {S : Type 0} → (S → List ℕ) → IndexView S → BasedList → Op S → Type 0
BringsMerge bytes view h (Insert tag vector) = Unit {0}
BringsMerge bytes view h (Delete pid) = Unit {0}
BringsMerge bytes view h (Replace tag gone vector) = Unit {0}
BringsMerge bytes view h Begin = Unit {0}
BringsMerge bytes view h (End segment) =
    Holds view.params view.book.book (bytes segment.value.seal) segment.value (merge_of (index_of view) (fold_of (index_of view) h) (fold_of (index_of view) h).begun)
BringsMerge bytes view h Close = Unit {0}
