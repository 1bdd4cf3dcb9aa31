-- The tags of a segment's first rows, as they are loaded.
use Rattle.std.specs.Prelude.{◌≡◌, ◌≤◌, ◌<◌, ◌+◌, ℕ, true, false, List, ◌++◌, map, length, take, get_or}
use Rattle.std.specs.List.{range_with_len}
use Rattle.ann_types.specs.Order.{has}
use Rattle.ann_types.specs.declared.params.Params.{Params}
use Rattle.ann_block.specs.Node.{NodeFields}
use Rattle.ann_segment.specs.Segment.{SegmentView, node_block}
use Rattle.ann_segment.specs.Rows.{node_in}
use Rattle.ann_tags.specs.Tags.{Pids, map_of}
use Rattle.ann_base.specs.Faults.{IsFormed, IsFirstBadNode}
use Rattle.ann_base.specs.Nodes.{AreNodes, named, tags_of}
use Rattle.ann_base.specs.declared.refused.BaseRefused.{BaseRefused}
use Rattle.ann_base.specs.declared.refused.BaseRefused.TheVariants.{BadSegment, Disk, Memory}

-- no tag stands twice
abbrev pub AreDistinct : List ℕ → Type 0
AreDistinct tags = (row : ℕ) → row < length tags → has (take row tags) (get_or tags row 0) ≡ false

-- a map has the tags of the first rows, which differ
pub record HasTags {S : Type 0} (segment : SegmentView S) (tags : List ℕ) (found : Pids) : Type 0 where
  pub few : length tags ≤ length segment.items
  pub differ : AreDistinct tags
  pub pids : found ≡ map_of (named segment tags)

-- one of further tags is the first that stands before it; this names its block
pub record IsRepeatOf {S : Type 0} (segment : SegmentView S) (tags more : List ℕ) (block : ℕ) : Type 0 where
  pub at : ℕ
  pub within : at < length more
  pub place : block ≡ node_block segment (length tags + at)
  pub repeated : has (tags ++ take at more) (get_or more at 0) ≡ true
  pub first : AreDistinct (tags ++ take at more)

-- further tags may be refused so
abbrev pub IsAddRefused : {S : Type 0} → SegmentView S → List ℕ → List ℕ → BaseRefused → Type 0
IsAddRefused segment tags more (BadSegment block) = IsRepeatOf segment tags more block
IsAddRefused segment tags more Disk = ⊥
IsAddRefused segment tags more Memory = ⊥

-- the nodes of the first rows are these, and a map has their tags; told, they are what is sealed
pub record HasNodes {S : Type 0} (tells : Type 0) (bytes : S → List ℕ) (segment : SegmentView S) (params : Params) (nodes : List NodeFields) (pids : Pids) : Type 0 where
  pub sound : AreNodes segment params nodes
  pub tags : HasTags segment (tags_of nodes) pids
  pub told : tells → nodes ≡ map (node_in segment (bytes segment.seal) params.d) (range_with_len 0 (length nodes))
  pub formed : tells → (row : ℕ) → row < length nodes → IsFormed segment params (bytes segment.seal) row

-- the nodes of so many rows, and their tags
pub record HasFirst {S : Type 0} (tells : Type 0) (bytes : S → List ℕ) (segment : SegmentView S) (params : Params) (n : ℕ) (pids : Pids) : Type 0 where
  pub nodes : List NodeFields
  pub many : length nodes ≡ n
  pub are : HasNodes tells bytes segment params nodes pids

-- the nodes of all rows, and their tags
abbrev pub HasAll : {S : Type 0} → Type 0 → (S → List ℕ) → SegmentView S → Params → Pids → Type 0
HasAll tells bytes segment params pids = HasFirst tells bytes segment params (length segment.items) pids

-- further nodes stand behind these
pub record HasMore {S : Type 0} (tells : Type 0) (bytes : S → List ℕ) (segment : SegmentView S) (params : Params) (nodes : List NodeFields) (count : ℕ) (pids : Pids) : Type 0 where
  pub more : List NodeFields
  pub many : length more ≡ count
  pub are : HasNodes tells bytes segment params (nodes ++ more) pids

-- the node blocks may be refused so
abbrev pub IsLoadRefused : {S : Type 0} → SegmentView S → Params → List ℕ → BaseRefused → Type 0
IsLoadRefused segment params bytes (BadSegment block) = IsFirstBadNode segment params bytes block
IsLoadRefused segment params bytes Disk = Unit {0}
IsLoadRefused segment params bytes Memory = Unit {0}
