-- Which block of a segment is at fault.
use Rattle.std.specs.Prelude.{◌≡◌, ◌≤◌, ◌<◌, ◌+◌, ◌*◌, ◌/◌, ◌⊎◌, ℕ, Bool, true, false, List, None, Some, All, length, map, min}
use Rattle.std.specs.List.{range_with_len}
use Rattle.std.specs.FinMap.{get}
use Rattle.ann_types.specs.Order.{has}
use Rattle.ann_types.specs.declared.params.Params.{Params}
use Rattle.ann_vault.specs.Held.{Holding}
use Rattle.ann_segment.specs.Directory.{Item, item_of, items_in}
use Rattle.ann_segment.specs.Segment.{SegmentView, node_block}
use Rattle.ann_segment.specs.Opening.{IsFront, IsBadBlock, header_in, directory_in}
use Rattle.ann_segment.specs.Rows.{row_block, node_in, judged}

-- the segment that bytes are under a number
abbrev pub segment_in : Params → ℕ → List ℕ → SegmentView (List ℕ)
segment_in params number bytes = record {
  number = number;
  m = params.m;
  entry = (header_in bytes).start_row;
  items = items_in params.m (header_in bytes).count (directory_in (header_in bytes) bytes);
  seal = bytes;
}

-- the directory block with the first byte of the first item whose Pid isn't below the next one
pub record IsFirstHigh {S : Type 0} (segment : SegmentView S) (next block : ℕ) : Type 0 where
  pub row : ℕ
  pub within : row < length segment.items
  pub high : next ≤ (item_of segment.items row).0
  pub first : (earlier : ℕ) → earlier < row → (item_of segment.items earlier).0 < next
  pub begins : block ≡ 1 + row * (4 + segment.m) / 4096

-- the Pids of a segment are below the next one
abbrev pub AreBelow : {S : Type 0} → ℕ → SegmentView S → Type 0
AreBelow next segment = All (λ (x : Item). x.0 < next) segment.items

-- ---- node blocks

-- the block of a row is in the format
abbrev pub IsFormed : {S : Type 0} → SegmentView S → Params → List ℕ → ℕ → Type 0
IsFormed segment params bytes row = judged segment params (row_block segment bytes row) row ≡ None

-- the tag in a row, and whether an earlier row has it
abbrev pub tag_in : {S : Type 0} → SegmentView S → Params → List ℕ → ℕ → ℕ
tag_in segment params bytes row = (node_in segment bytes params.d row).tag

abbrev pub repeats : {S : Type 0} → SegmentView S → Params → List ℕ → ℕ → Bool
repeats segment params bytes row = has (map (tag_in segment params bytes) (range_with_len 0 row)) (tag_in segment params bytes row)

-- the first rows are in the format, and their tags differ
pub record AreSoundRows {S : Type 0} (segment : SegmentView S) (params : Params) (bytes : List ℕ) (n : ℕ) : Type 0 where
  pub formed : (row : ℕ) → row < n → IsFormed segment params bytes row
  pub differ : (row : ℕ) → row < n → repeats segment params bytes row ≡ false

-- where the piece of a row begins, and where it ends
abbrev pub piece_start : ℕ → ℕ
piece_start row = 256 * (row / 256)

abbrev pub piece_end : ℕ → ℕ → ℕ
piece_end count row = min (piece_start row + 256) count

-- a row is the first of its piece whose block isn't in the format
pub record IsFirstUnformed {S : Type 0} (segment : SegmentView S) (params : Params) (bytes : List ℕ) (row : ℕ) : Type 0 where
  pub bad : IsFormed segment params bytes row → ⊥
  pub first : (earlier : ℕ) → piece_start row ≤ earlier → earlier < row → IsFormed segment params bytes earlier

-- all blocks of its piece are in the format, and a row is the first of them whose tag an earlier row has
pub record IsFirstRepeat {S : Type 0} (segment : SegmentView S) (params : Params) (bytes : List ℕ) (row : ℕ) : Type 0 where
  pub formed : (other : ℕ) → piece_start row ≤ other → other < piece_end (length segment.items) row → IsFormed segment params bytes other
  pub repeated : repeats segment params bytes row ≡ true
  pub first : (earlier : ℕ) → piece_start row ≤ earlier → earlier < row → repeats segment params bytes earlier ≡ false

-- the first node block at fault, piece by piece of 256 rows: in a piece a block outside the format comes before a tag that an
-- earlier row has
pub record IsFirstBadNode {S : Type 0} (segment : SegmentView S) (params : Params) (bytes : List ℕ) (block : ℕ) : Type 0 where
  pub row : ℕ
  pub within : row < length segment.items
  pub place : block ≡ node_block segment row
  pub before : AreSoundRows segment params bytes (piece_start row)
  pub fault : IsFirstUnformed segment params bytes row ⊎ IsFirstRepeat segment params bytes row

-- ---- of what a vault holds under a number

-- the segment isn't there, or has a header or directory block that the format refuses, or a Pid that isn't below the next one
abbrev pub IsFrontFault : Holding → Params → ℕ → ℕ → ℕ → Type 0
IsFrontFault held params number next block =
    ((get held number ≡ None) × (block ≡ 0))
    ⊎ ((bytes : List ℕ) × (get held number ≡ Some bytes) × IsBadBlock number params bytes block)
    ⊎ ((bytes : List ℕ) × (get held number ≡ Some bytes) × IsFront number params bytes × IsFirstHigh (segment_in params number bytes) next block)

-- the segment is there, and none of its blocks before the nodes is at fault
pub record IsSoundFront (held : Holding) (params : Params) (number next : ℕ) (bytes : List ℕ) : Type 0 where
  pub there : get held number ≡ Some bytes
  pub front : IsFront number params bytes
  pub below : AreBelow next (segment_in params number bytes)

-- the first block of a base's segment that is at fault
abbrev pub IsBaseFault : Holding → Params → ℕ → ℕ → ℕ → Type 0
IsBaseFault held params number next block =
    IsFrontFault held params number next block
    ⊎ ((bytes : List ℕ) × IsSoundFront held params number next bytes × IsFirstBadNode (segment_in params number bytes) params bytes block)

-- no block of a base's segment is at fault
pub record IsSoundBase (held : Holding) (params : Params) (number next : ℕ) : Type 0 where
  pub bytes : List ℕ
  pub front : IsSoundFront held params number next bytes
  pub nodes : AreSoundRows (segment_in params number bytes) params bytes (length (segment_in params number bytes).items)
