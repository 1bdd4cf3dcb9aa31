-- A segment holds a graph.
use Rattle.std.specs.Prelude.{◌≡◌, ◌≢◌, ◌<◌, ◌^◌, All, List, length, ℕ, Result, MatchResult}
use Rattle.std.specs.Option.{option_map}
use Rattle.ann_types.specs.Graph.{Point, Graph, IsGraphOf}
use Rattle.ann_types.specs.Codes.{Book}
use Rattle.ann_types.specs.Index.{IsBookOf}
use Rattle.ann_types.specs.declared.params.Params.{Params}
use Rattle.ann_segment.specs.Segment.{SegmentView}
use Rattle.ann_segment.specs.Text.{items_for, row_of, segment_text}
use Rattle.ann_segment.specs.declared.refused.SegmentRefused.{SegmentRefused}
use Rattle.ann_segment.specs.declared.refused.SegmentRefused.TheVariants.{BadSegment}

-- Pids have four bytes, and tags eight
abbrev pub AreNumbered : List Point → Type 0
AreNumbered points = All (λ x. (x.pid < 2 ^ 32) × (x.tag < 2 ^ 64)) points

-- the bytes of its seal are the text of a graph of the index, and its Pids, codes and entry are the graph's
pub record Holds {S : Type 0} (params : Params) (book : Book) (bytes : List ℕ) (segment : SegmentView S) (graph : Graph) : Type 0 where
  pub sound : IsGraphOf params graph
  pub numbers : AreNumbered graph.points
  pub text : bytes ≡ segment_text params book graph segment.number
  pub items : segment.items ≡ items_for book graph
  pub entry : segment.entry ≡ option_map (row_of graph.points) graph.entry
  pub code_bytes : segment.m ≡ params.m

-- a graph of the index that fits a segment: its rows have four bytes
pub record Fits (params : Params) (book : Book) (graph : Graph) : Type 0 where
  pub belongs : IsBookOf params book
  pub sound : IsGraphOf params graph
  pub numbers : AreNumbered graph.points
  pub rows : length graph.points < 2 ^ 32

-- where the bytes are the text of a graph, the segment holds it, and no block is named as bad
abbrev pub OpensText : {S : Type 0} → ℕ → Params → List ℕ → Result (SegmentView S) (SegmentRefused × S) → Type 0
OpensText number params bytes result =
    (book : Book) (graph : Graph) → Fits params book graph → bytes ≡ segment_text params book graph number
    → MatchResult result
    (λ segment. Holds params book bytes segment graph)
    (λ refused. (block : ℕ) → refused.0 ≢ BadSegment block)
