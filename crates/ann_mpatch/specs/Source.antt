-- The rows of a segment, as a merge reads them.
use Rattle.std.specs.Prelude.{◌≡◌, ℕ, List, [], Option, None, Some, length}
use Rattle.ann_types.specs.declared.new_point.NewPoint.{NewPoint}
use Rattle.ann_types.specs.declared.params.Params.{Params}
use Rattle.ann_block.specs.Node.{judge_node, node_of}
use Rattle.ann_segment.specs.Directory.{Item, item_of}
use Rattle.ann_segment.specs.Segment.{SegmentView, node_block}
use Rattle.ann_segment.specs.Rows.{row_block}

-- the Pid and the code in each row, where the node block of a row stands, and what is sealed there
pub record Source : Type 0 where
  pub items : List Item
  pub place : ℕ → ℕ
  pub sealed : ℕ → List ℕ

-- `bytes` are those of a seal
abbrev pub source_in : {S : Type 0} → (S → List ℕ) → SegmentView S → Source
source_in bytes segment =
    record { items = segment.items; place = node_block segment; sealed = row_block segment (bytes segment.seal) }

-- without a segment there are no rows
abbrev pub source_of : {S : Type 0} → (S → List ℕ) → Option (SegmentView S) → Source
source_of bytes None = record { items = []; place = λ _. 0; sealed = λ _. [] }
source_of bytes (Some segment) = source_in bytes segment

-- a page is the node block of a row
abbrev pub IsBlock : Source → Params → ℕ → List ℕ → Type 0
IsBlock source params row page =
    judge_node page (item_of source.items row).0 row (length source.items) params ≡ None

-- what is sealed as the block of a row is in the format
abbrev pub IsSound : Source → Params → ℕ → Type 0
IsSound source params row = IsBlock source params row (source.sealed row)

-- a page was read of a row: it is its node block, and told, it is what is sealed there
pub record IsRead (tells : Type 0) (source : Source) (params : Params) (row : ℕ) (page : List ℕ) : Type 0 where
  pub block : IsBlock source params row page
  pub told : tells → page ≡ source.sealed row

-- the point of a row by its page, without its neighbours
abbrev pub point_in : Source → ℕ → ℕ → List ℕ → NewPoint
point_in source d row page =
    record { pid = (item_of source.items row).0; tag = (node_of d page).tag; vector = (node_of d page).vector }
