-- What a merge reads of the old long-term graph.
use Rattle.std.specs.Prelude.{◌≡◌, ◌≢◌, ◌<◌, ◌≤◌, ◌+◌, ◌/◌, ℕ, Bool, List, [], None, map, length, get_or}
use Rattle.std.specs.List.{range_with_len}
use Rattle.ann_types.specs.Order.{has}
use Rattle.ann_types.specs.Codes.{Book, decode}
use Rattle.ann_types.specs.Rows.{AreNeighbours}
use Rattle.ann_types.specs.declared.params.Params.{Params}
use Rattle.ann_fault.specs.Counts.{next_count}
use Rattle.ann_vault.specs.Reads.{more_reads}
use Rattle.ann_segment.specs.Directory.{Item}
use Rattle.ann_segment.specs.Segment.{SegmentView, node_block}
use Rattle.ann_segment.specs.Rows.{judged, links_in, row_block}
use Rattle.ann_mdelete.specs.Refusals.{Counts}
use Rattle.ann_mdelete.specs.Rows.{AreLists}
use Rattle.ann_mdelete.specs.declared.refused.WorkRefused.{WorkRefused}
use Rattle.ann_mdelete.specs.declared.refused.WorkRefused.TheVariants.{Disk, BadSegment, Memory}

-- whether each row is deleted
abbrev pub gone_in : List ℕ → List Item → List Bool
gone_in dead items = map (λ item. has dead item.0) items

-- the decoded vector of each row
abbrev pub decoded_items : Book → List Item → List (List ℕ)
decoded_items book items = map (λ item. decode book item.1) items

-- how many pieces so many rows have
abbrev pub pieces_of : ℕ → ℕ
pieces_of count = (count + 255) / 256

-- the lists of all rows of a segment with these bytes
abbrev pub lists_in_segment : {S : Type 0} → SegmentView S → List ℕ → ℕ → List (List ℕ)
lists_in_segment segment bytes d = map (links_in segment bytes d) (range_with_len 0 (length segment.items))

-- the lists are a graph; told, they are those of the sealed blocks, all of which are in the format; each piece was read once
pub record HasLists {S : Type 0} (tells : Type 0) (bytes : S → List ℕ) (segment : SegmentView S) (params : Params) (lists : List (List ℕ)) (old new : Counts) : Type 0 where
  pub count : length lists ≡ length segment.items
  pub graph : AreLists params lists
  pub told : tells → lists ≡ lists_in_segment segment (bytes segment.seal) params.d
  pub sound : tells → (row : ℕ) → row < length segment.items → judged segment params (row_block segment (bytes segment.seal) row) row ≡ None
  pub reads : new.reads ≡ more_reads (pieces_of (length segment.items)) old.reads
  pub calm : new.faults ≡ old.faults

-- a read failed, behind some that went well
pub record HasFailedThen (old new : Counts) : Type 0 where
  pub reads : (n : ℕ) × (new.reads ≡ more_reads n old.reads)
  pub faulty : new.faults ≡ next_count old.faults

-- the block of a row was read; told, it is the first outside the format
pub record IsFirstBad {S : Type 0} (tells : Type 0) (bytes : S → List ℕ) (segment : SegmentView S) (params : Params) (block : ℕ) (old new : Counts) : Type 0 where
  pub row : ℕ
  pub within : row < length segment.items
  pub place : block ≡ node_block segment row
  pub bad : tells → judged segment params (row_block segment (bytes segment.seal) row) row ≢ None
  pub earlier : tells → (below : ℕ) → below < row → judged segment params (row_block segment (bytes segment.seal) below) below ≡ None
  pub reads : new.reads ≡ more_reads (1 + row / 256) old.reads
  pub calm : new.faults ≡ old.faults

-- some reads went well, and none failed
pub record HasReadSome (old new : Counts) : Type 0 where
  pub reads : (n : ℕ) × (new.reads ≡ more_reads n old.reads)
  pub calm : new.faults ≡ old.faults

-- the lists may be refused so
abbrev pub AreUnread : {S : Type 0} → Type 0 → (S → List ℕ) → SegmentView S → Params → Counts → Counts → WorkRefused → Type 0
AreUnread tells bytes segment params old new Disk = HasFailedThen old new
AreUnread tells bytes segment params old new (BadSegment block) = IsFirstBad tells bytes segment params block old new
AreUnread tells bytes segment params old new Memory = HasReadSome old new

-- ---- on the way

-- the lists of the first rows, of so many pieces, each read once
pub record HasFirstLists {S : Type 0} (tells : Type 0) (bytes : S → List ℕ) (segment : SegmentView S) (params : Params) (rows pieces : ℕ) (lists : List (List ℕ)) (old new : Counts) : Type 0 where
  pub count : length lists ≡ rows
  pub neighbours : (row : ℕ) → row < rows → AreNeighbours params (length segment.items) row (get_or lists row [])
  pub told : tells → (row : ℕ) → row < rows → get_or lists row [] ≡ links_in segment (bytes segment.seal) params.d row
  pub sound : tells → (row : ℕ) → row < rows → judged segment params (row_block segment (bytes segment.seal) row) row ≡ None
  pub reads : new.reads ≡ more_reads pieces old.reads
  pub calm : new.faults ≡ old.faults
