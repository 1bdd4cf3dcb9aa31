-- How the loading of a piece ends.
use Rattle.std.specs.Prelude.{◌≡◌, ◌≢◌, ◌<◌, ◌≤◌, ◌+◌, ◌++◌, ◌∷◌, ℕ, List, [], None, length}
use Rattle.ann_types.specs.declared.params.Params.{Params}
use Rattle.ann_types.specs.Rows.{AreNeighbours}
use Rattle.ann_fault.specs.Counts.{next_count}
use Rattle.ann_vault.specs.Reads.{more_reads}
use Rattle.ann_segment.specs.Segment.{SegmentView, node_block}
use Rattle.ann_segment.specs.Rows.{block_at, judged}
use Rattle.ann_mdelete.specs.Loaded.{LoadedView, IsPiece, node_on, piece_rows, piece_bytes}
use Rattle.ann_mdelete.specs.declared.refused.WorkRefused.{WorkRefused}
use Rattle.ann_mdelete.specs.declared.refused.WorkRefused.TheVariants.{Disk, BadSegment, Memory}

-- how often the eye has read, and how often it has failed
pub record Counts : Type 0 where
  pub reads : ℕ
  pub faults : ℕ

abbrev pub counts_of : ℕ → ℕ → Counts
counts_of reads faults = record { reads = reads; faults = faults }

-- one read went well, and none failed
pub record HasRead (old new : Counts) : Type 0 where
  pub read : new.reads ≡ next_count old.reads
  pub calm : new.faults ≡ old.faults

-- a read failed, the first one
pub record HasFailed (old new : Counts) : Type 0 where
  pub unread : new.reads ≡ old.reads
  pub faulty : new.faults ≡ next_count old.faults

-- one read went well or none was made, and none failed
pub record MayHaveRead (old new : Counts) : Type 0 where
  pub reads : (n : ℕ) × (n ≤ 1) × (new.reads ≡ more_reads n old.reads)
  pub calm : new.faults ≡ old.faults

-- the rows from `first` on were read at once; told, the blocks are those that are sealed
pub record HasLoaded {S : Type 0} (tells : Type 0) (bytes : S → List ℕ) (segment : SegmentView S) (params : Params) (first : ℕ) (piece : LoadedView) (old new : Counts) : Type 0 where
  pub rows : IsPiece segment params first (piece_rows (length segment.items) first) piece
  pub told : tells → piece.page ≡ piece_bytes segment (bytes segment.seal) first
  pub counted : HasRead old new

-- a block on the page is the first that isn't the node block of its row
pub record IsBadRow {S : Type 0} (segment : SegmentView S) (params : Params) (first rows : ℕ) (page : List ℕ) (block : ℕ) : Type 0 where
  pub at : ℕ
  pub within : at < rows
  pub place : block ≡ node_block segment (first + at)
  pub bad : judged segment params (block_at page at) (first + at) ≢ None
  pub earlier : (i : ℕ) → i < at → judged segment params (block_at page i) (first + i) ≡ None

-- the same of the rows from `first` on, which were read at once; told, the blocks are those that are sealed
pub record HasBadRow {S : Type 0} (tells : Type 0) (bytes : S → List ℕ) (segment : SegmentView S) (params : Params) (first : ℕ) (page : List ℕ) (block : ℕ) (old new : Counts) : Type 0 where
  pub row : IsBadRow segment params first (piece_rows (length segment.items) first) page block
  pub told : tells → page ≡ piece_bytes segment (bytes segment.seal) first
  pub counted : HasRead old new

-- a piece may be refused so
abbrev pub IsUnloaded : {S : Type 0} → Type 0 → (S → List ℕ) → SegmentView S → Params → ℕ → List ℕ → Counts → Counts → WorkRefused → Type 0
IsUnloaded tells bytes segment params first page old new Disk = HasFailed old new
IsUnloaded tells bytes segment params first page old new (BadSegment block) = HasBadRow tells bytes segment params first page block old new
IsUnloaded tells bytes segment params first page old new Memory = MayHaveRead old new

-- ---- on the way

-- a row is added: its block is in the format
pub record AddsRow {S : Type 0} (segment : SegmentView S) (params : Params) (first at : ℕ) (old new : LoadedView) : Type 0 where
  pub format : judged segment params (block_at old.page at) (first + at) ≡ None
  pub neighbours : AreNeighbours params (length segment.items) (first + at) (node_on params old.page at).neighbours
  pub tagged : new.tags ≡ old.tags ++ (node_on params old.page at).tag ∷ []
  pub listed : new.lists ≡ old.lists ++ (node_on params old.page at).neighbours ∷ []

-- a row may be refused so, after the read: its block isn't the row's node block, or there is no memory
abbrev pub IsRowRefused : {S : Type 0} → SegmentView S → Params → ℕ → ℕ → List ℕ → WorkRefused → Type 0
IsRowRefused segment params first at page Disk = ⊥
IsRowRefused segment params first at page (BadSegment block) =
    (block ≡ node_block segment (first + at)) × (judged segment params (block_at page at) (first + at) ≢ None)
IsRowRefused segment params first at page Memory = Unit {0}

-- so many rows may be refused so, after the read
abbrev pub AreRefused : {S : Type 0} → SegmentView S → Params → ℕ → ℕ → List ℕ → WorkRefused → Type 0
AreRefused segment params first rows page Disk = ⊥
AreRefused segment params first rows page (BadSegment block) = IsBadRow segment params first rows page block
AreRefused segment params first rows page Memory = Unit {0}

-- the read alone may be refused so
abbrev pub IsUnread : Counts → Counts → WorkRefused → Type 0
IsUnread old new Disk = HasFailed old new
IsUnread old new (BadSegment block) = ⊥
IsUnread old new Memory = new ≡ old
