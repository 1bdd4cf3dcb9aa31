-- What is seen of a piece, which is some rows of a segment side by side.
use Rattle.std.specs.Prelude.{◌≡◌, ◌<◌, ◌+◌, ◌-◌, ◌*◌, min, ℕ, List, [], None, map, length, get_or, slice_range}
use Rattle.std.specs.List.{range_with_len}
use Rattle.ann_types.specs.Rows.{AreNeighbours}
use Rattle.ann_types.specs.declared.params.Params.{Params}
use Rattle.ann_block.specs.Node.{NodeFields, node_of}
use Rattle.ann_segment.specs.Segment.{SegmentView, node_block}
use Rattle.ann_segment.specs.Rows.{block_at, judged}

-- the tags and the lists of its rows, and the blocks that were read
pub record LoadedView : Type 0 where
  pub tags : List ℕ
  pub lists : List (List ℕ)
  pub page : List ℕ

-- how many of so many rows the piece from this one on has
abbrev pub piece_rows : ℕ → ℕ → ℕ
piece_rows count first = min 256 (count - first)

-- ---- the rows of node blocks side by side

abbrev pub node_on : Params → List ℕ → ℕ → NodeFields
node_on params page i = node_of params.d (block_at page i)

abbrev pub tags_on : Params → List ℕ → ℕ → List ℕ
tags_on params page rows = map (λ i. (node_on params page i).tag) (range_with_len 0 rows)

abbrev pub lists_on : Params → List ℕ → ℕ → List (List ℕ)
lists_on params page rows = map (λ i. (node_on params page i).neighbours) (range_with_len 0 rows)

-- so many rows of a segment from one on: each block is the node block of its row, and the tags and lists are those of the
-- blocks
pub record IsPiece {S : Type 0} (segment : SegmentView S) (params : Params) (first rows : ℕ) (piece : LoadedView) : Type 0 where
  pub format : (i : ℕ) → i < rows → judged segment params (block_at piece.page i) (first + i) ≡ None
  pub tagged : piece.tags ≡ tags_on params piece.page rows
  pub listed : piece.lists ≡ lists_on params piece.page rows
  pub neighbours : (i : ℕ) → i < rows → AreNeighbours params (length segment.items) (first + i) (get_or piece.lists i [])

-- the node blocks of the piece from this row on, as they are sealed
abbrev pub piece_bytes : {S : Type 0} → SegmentView S → List ℕ → ℕ → List ℕ
piece_bytes segment bytes first =
    let start : ℕ = 4096 * node_block segment first in
    slice_range bytes start (start + 4096 * piece_rows (length segment.items) first)
