-- What the open merge of a core takes and makes, and its pieces by their numbers.
use Rattle.std.specs.Prelude.{◌≡◌, ℕ, Bool, List, Some, ◌==◌}
use Rattle.std.specs.List.{list_any, list_all, range_with_len}
use Rattle.ann_types.specs.Fold.{Begun, fold_of}
use Rattle.ann_types.specs.Index.{Index}
use Rattle.ann_mbegin.specs.Begun.{IsJobOf}
use Rattle.ann_merge.specs.Job.{Order}
use Rattle.ann_mlaws.specs.Plan.{IsLti}
use Rattle.ann_segment.specs.Holds.{Holds}
use Rattle.ann_segment.specs.Segment.{SegmentView}
use Rattle.ann_vault.specs.Seal.{seal_bytes}
use Rattle.ann_vault.specs.declared.shelf.MemorySeal.{MemorySeal}
use Rattle.ann_core_laws.specs.State.{CoreState, logged, open_begin, segment_of}
use Rattle.ann_core_laws.specs.Facts.{made_graph}

-- what a merge takes is the job of the list's open Begin, and begins with the list's long-term graph
pub record IsInputOf (index : Index) (c : CoreState) (order : Order MemorySeal) : Type 0 where
  pub job : IsJobOf index (logged c.list) order
  pub lti : IsLti seal_bytes index order.old (fold_of index (logged c.list)).lti

-- a segment is the one that the open merge makes: it has its number, and holds its graph
pub record IsMadeBy (index : Index) (c : CoreState) (segment : SegmentView MemorySeal) : Type 0 where
  pub begun : Begun
  pub open_now : open_begin index c ≡ Some begun
  pub numbered : segment.number ≡ segment_of begun
  pub holds : Holds index.params index.book (seal_bytes segment.seal) segment (made_graph index c.list)

-- pieces by their numbers
abbrev pub is_finished_in : List ℕ → ℕ → Bool
is_finished_in pieces number = list_any (λ n. n == number) pieces

abbrev pub are_finished : List ℕ → ℕ → Bool
are_finished pieces count = list_all (is_finished_in pieces) (range_with_len 0 count)
