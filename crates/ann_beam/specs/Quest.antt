-- What a search of a long-term graph goes by, and what it changes.
use Rattle.std.specs.Prelude.{◌≡◌, ℕ, List, length, Option, Some, None, MatchOption}
use Rattle.ann_types.specs.Codes.{Book}
use Rattle.ann_types.specs.Graph.{Graph, empty_graph}
use Rattle.ann_types.specs.declared.ask.Ask.{Ask}
use Rattle.ann_types.specs.declared.params.Params.{Params}
use Rattle.ann_pq.specs.Codebook.{CodebookView}
use Rattle.ann_segment.specs.Segment.{SegmentView}
use Rattle.ann_segment.specs.Holds.{Holds}
use Rattle.ann_beam.specs.Ranking.{RankingView}

-- the segment, if there is one; its index; the deleted points; and a query with the width of its search
pub record Quest (S : Type 0) : Type 0 where
  pub segment : Option (SegmentView S)
  pub params : Params
  pub book : CodebookView
  pub dead : List ℕ
  pub query : List ℕ
  pub width : ℕ

abbrev pub quest_of : {S : Type 0} → Option (SegmentView S) → Params → CodebookView → List ℕ → Ask → Quest S
quest_of segment params book dead ask =
    record { segment = segment; params = params; book = book; dead = dead; query = ask.vector; width = ask.l }

-- all have the sizes of the index
pub record Fits {S : Type 0} (quest : Quest S) : Type 0 where
  pub width : length quest.query ≡ quest.params.d
  pub book : (quest.book.d ≡ quest.params.d) × (quest.book.m ≡ quest.params.m)
  pub codes : MatchOption quest.segment (Unit {0}) (λ segment. segment.m ≡ quest.params.m)

-- the result and the page of the desk, and the counts of the eye
pub record Standing : Type 0 where
  pub result : RankingView
  pub page : List ℕ
  pub reads : ℕ
  pub faults : ℕ

-- the segment holds this graph, or there is no segment and no point; `bytes` are those of a seal
abbrev pub HoldsIn : {S : Type 0} → (S → List ℕ) → Params → Book → Option (SegmentView S) → Graph → Type 0
HoldsIn bytes params book None graph = graph ≡ empty_graph
HoldsIn bytes params book (Some segment) graph = Holds params book (bytes segment.seal) segment graph
