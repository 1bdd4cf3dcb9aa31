-- When a segment may end the open merge of a list.
use Rattle.std.specs.Prelude.{◌≡◌, ℕ, List, true, Some}
use Rattle.ann_types.specs.Fold.{fold_of, merge_of}
use Rattle.ann_types.specs.Index.{Index}
use Rattle.ann_types.specs.Legal.{may_follow}
use Rattle.ann_types.specs.Lists.{BasedList, next_pid}
use Rattle.ann_types.specs.declared.entry.Entry.TheVariants.{End}
use Rattle.ann_segment.specs.Holds.{Holds}
use Rattle.ann_segment.specs.Segment.{SegmentView}
use Rattle.ann_view.specs.View.{IndexView, index_of}
use Rattle.ann_view.specs.Stands.{StandsFor}
use Rattle.ann_view.specs.Steps.{MayEnd}
use Rattle.ann_mlaws.specs.Plan.{IsLti}
use Rattle.ann_merge.specs.Job.{Order}
use Rattle.ann_named.specs.Named.{AreBelow}

-- An End that names it may follow the list, each view that stands for the list may end its merge by it, and its Pids are
-- below the next one; told, it holds the graph that the list's merge makes, where the old segment holds the list's graph.
pub record MayEndMerge {S : Type 0} (tells : Type 0) (bytes : S → List ℕ) (index : Index) (h : BasedList) (order : Order S) (segment : SegmentView S) : Type 0 where
  pub follows : (by : ℕ) → may_follow index.params h (fold_of index h) (End by segment.number) ≡ true
  pub views : (view : IndexView S) → index_of view ≡ index → StandsFor view h → MayEnd view segment
  pub below : AreBelow (next_pid h) (Some segment)
  pub holds : tells → IsLti bytes index order.old (fold_of index h).lti
      → Holds index.params index.book (bytes segment.seal) segment (merge_of index (fold_of index h) (fold_of index h).begun)
