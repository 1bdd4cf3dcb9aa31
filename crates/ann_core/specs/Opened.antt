-- What opening a list of entries on the empty base gives.
use Rattle.std.specs.Prelude.{◌≡◌, List, Option}
use Rattle.std.specs.Option.{option_map}
use Rattle.ann_types.specs.Fold.{Begun, fold_of}
use Rattle.ann_types.specs.Index.{Index}
use Rattle.ann_types.specs.Legal.{IsLegal}
use Rattle.ann_types.specs.declared.entry.Entry.{Entry}
use Rattle.ann_types.specs.declared.params.Params.{Params}
use Rattle.ann_named.specs.Named.{IsCurrent}
use Rattle.ann_pq.specs.Codebook.{CodebookView}
use Rattle.ann_reopen.specs.Judged.{IsJudged}
use Rattle.ann_reopen.specs.declared.judged.Judged.{Judged}
use Rattle.ann_segment.specs.Segment.{SegmentView}
use Rattle.ann_state.specs.Merged.{IsMerged}
use Rattle.ann_state.specs.State.{index_with, AreKept}
use Rattle.ann_vault.specs.Held.{Holding}
use Rattle.ann_vault.specs.Seal.{seal_bytes}
use Rattle.ann_vault.specs.declared.shelf.MemorySeal.{MemorySeal}
use Rattle.ann_view.specs.Holding.{HoldsGraph}
use Rattle.ann_view.specs.Stands.{StandsFor, lti_of}
use Rattle.ann_core_laws.specs.State.{logged}
use Rattle.ann_core.specs.declared.prefix.Opened.{Opened}

-- entries were judged, and the segment of their last merge was opened from what a vault holds
pub record IsRead (held : Holding) (params : Params) (entries : List Entry) (judged : Judged) (merged : Option (SegmentView MemorySeal)) : Type 0 where
  pub judged_are : (index : Index) → index.params ≡ params → IsJudged index (logged entries) judged
  pub opened : IsMerged (Unit {0}) seal_bytes held params judged.merge merged

-- The view stands for the list, and its segment is the one that the list names; where the vault holds the list's long-term
-- graph under that number, the segment holds it.
pub record IsOpened (held : Holding) (params : Params) (book : CodebookView) (entries : List Entry) (opened : Opened) : Type 0 where
  pub legal : IsLegal (index_with params book.book) (logged entries)
  pub index : (opened.view.params ≡ params) × (opened.view.book ≡ book)
  pub stands : StandsFor opened.view (logged entries)
  pub begun : opened.begun ≡ option_map (λ (b : Begun). b.position) (fold_of (index_with params book.book) (logged entries)).begun
  pub current : IsCurrent (index_with params book.book) (logged entries) opened.view.segment
  pub holds : AreKept held params book.book (logged entries) → HoldsGraph seal_bytes opened.view (lti_of opened.view (logged entries))
