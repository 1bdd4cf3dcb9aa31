-- The job of a list's open Begin.
use Rattle.std.specs.Prelude.{◌≡◌, ◌+◌, ◌*◌, ◌<◌, ℕ, Option, Some, MatchOption, map, take}
use Rattle.ann_segment.specs.Segment.{SegmentView}
use Rattle.ann_types.specs.Fold.{Begun, fold_of}
use Rattle.ann_types.specs.Index.{Index}
use Rattle.ann_types.specs.Lists.{BasedList, next_pid, upto}
use Rattle.ann_frozen.specs.Frozen.{FrozenView}
use Rattle.ann_table.specs.Node.{graph_of}
use Rattle.ann_named.specs.Named.{IsNamed, AreBelow}
use Rattle.ann_merge.specs.Job.{Order}

-- What a merge takes is what the open Begin of a list keeps: the segment that the list names, which is older, the frozen
-- graphs of that moment, and its deleted points; and its number is by the position of that Begin.
pub record IsJobOf {S : Type 0} (index : Index) (h : BasedList) (order : Order S) : Type 0 where
  pub begun : Begun
  pub open_now : (fold_of index h).begun ≡ Some begun
  pub numbered : order.number ≡ 2 * begun.position + 1
  pub of_index : (order.params ≡ index.params) × (order.book.book ≡ index.book)
  pub gone : order.gone ≡ begun.gone
  pub frozen : map (λ (f : FrozenView). graph_of f.nodes) order.frozen ≡ take begun.frozen (fold_of index h).ros
  pub named : IsNamed h order.old
  pub older : AreBelow (next_pid (upto h begun.position)) order.old

-- the number of a segment, if there is one, is below this one
abbrev pub IsNumberedBelow : {S : Type 0} → ℕ → Option (SegmentView S) → Type 0
IsNumberedBelow number segment = MatchOption segment (Unit {0}) (λ s. s.number < number)
