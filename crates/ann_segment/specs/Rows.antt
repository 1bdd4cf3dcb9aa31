-- The rows of a segment with known bytes.
use Rattle.std.specs.Prelude.{◌≡◌, ◌≢◌, ℕ, ◌+◌, ◌*◌, ◌<◌, List, Option, None, length, slice_range}
use Rattle.ann_types.specs.declared.params.Params.{Params}
use Rattle.ann_block.specs.Node.{NodeFields, node_of, judge_node}
use Rattle.ann_block.specs.declared.refused.BlockRefused.{BlockRefused}
use Rattle.ann_segment.specs.Directory.{item_of}
use Rattle.ann_segment.specs.Segment.{SegmentView, node_block}

-- a block of some bytes
abbrev pub block_at : List ℕ → ℕ → List ℕ
block_at bytes block = slice_range bytes (4096 * block) (4096 * block + 4096)

-- the block of a row of a segment with these bytes
abbrev pub row_block : {S : Type 0} → SegmentView S → List ℕ → ℕ → List ℕ
row_block segment bytes row = block_at bytes (node_block segment row)

-- the node in a row of a segment with these bytes, for vectors of d components
abbrev pub node_in : {S : Type 0} → SegmentView S → List ℕ → ℕ → ℕ → NodeFields
node_in segment bytes d row = node_of d (row_block segment bytes row)

-- the neighbours of a row of a segment with these bytes
abbrev pub links_in : {S : Type 0} → SegmentView S → List ℕ → ℕ → ℕ → List ℕ
links_in segment bytes d row = (node_in segment bytes d row).neighbours

-- why a page isn't the node block of a row; none where it is
abbrev pub judged : {S : Type 0} → SegmentView S → Params → List ℕ → ℕ → Option BlockRefused
judged segment params page row = judge_node page (item_of segment.items row).0 row (length segment.items) params

-- a page isn't the node block of the row that has this block
pub record IsBadNode {S : Type 0} (segment : SegmentView S) (params : Params) (page : List ℕ) (block : ℕ) : Type 0 where
  pub row : ℕ
  pub within : row < length segment.items
  pub place : block ≡ node_block segment row
  pub refused : judged segment params page row ≢ None
