-- Which header and directory blocks are refused when a segment is opened.
use Rattle.std.specs.Prelude.{◌≡◌, ◌≢◌, ℕ, zero, suc, ◌+◌, ◌-◌, ◌*◌, ◌/◌, ◌≤◌, ◌<◌, ◌⊎◌, List, length, take, drop, slice_range, None, Any, Result, MatchResult}
use Rattle.ann_types.specs.declared.params.Params.{Params}
use Rattle.ann_block.specs.Header.{IsHeader, judge_header, header_of}
use Rattle.ann_block.specs.declared.header.Header.{Header}
use Rattle.ann_vault.specs.Reads.{more_reads}
use Rattle.ann_segment.specs.Directory.{AreRising, directory_blocks, items_in, pid_at}
use Rattle.ann_segment.specs.Segment.{SegmentView}
use Rattle.ann_segment.specs.declared.refused.SegmentRefused.{SegmentRefused}
use Rattle.ann_segment.specs.declared.refused.SegmentRefused.TheVariants.{Disk, Memory, BadSegment}

-- the bytes of a segment of so many rows, with codes of m bytes
unfoldable pub segment_length : ℕ → ℕ → ℕ
segment_length count m = 4096 * (1 + directory_blocks count m + count)

-- a header with the expected number and sizes
pub record IsHeaderFor (wanted : ℕ) (params : Params) (header : Header) : Type 0 where
  pub number : header.number ≡ wanted
  pub components : header.d ≡ params.d
  pub neighbours : header.r ≡ params.r
  pub code_bytes : header.m ≡ params.m

-- what the header block of the expected segment of this length is
pub record IsFirstBlock (number : ℕ) (params : Params) (size : ℕ) (block : List ℕ) : Type 0 where
  pub sound : judge_header block ≡ None
  pub expected : IsHeaderFor number params (header_of block)
  pub long : size ≡ segment_length (header_of block).count (header_of block).m

-- the bytes of a segment begin with its header block
abbrev pub BeginsWell : ℕ → Params → List ℕ → Type 0
BeginsWell number params bytes = IsFirstBlock number params (length bytes) (take 4096 bytes)

-- the header with which bytes begin
abbrev pub header_in : List ℕ → Header
header_in bytes = header_of (take 4096 bytes)

-- the directory blocks of bytes
abbrev pub directory_in : Header → List ℕ → List ℕ
directory_in header bytes = slice_range bytes 4096 (4096 + 4096 * directory_blocks header.count header.m)

-- the first byte of an item whose Pid isn't above the one before stands in this block
pub record HasFall (m count : ℕ) (directory : List ℕ) (block : ℕ) : Type 0 where
  pub row : ℕ
  pub within : (1 ≤ row) × (row < count)
  pub falls : pid_at m directory row ≤ pid_at m directory (row - 1)
  pub begins : block ≡ 1 + row * (4 + m) / 4096

-- a byte after the last item isn't 0; these bytes stand in the last block
pub record IsUnfilled (m count : ℕ) (directory : List ℕ) (block : ℕ) : Type 0 where
  pub last : block ≡ directory_blocks count m
  pub other : Any (λ byte. byte ≢ 0) (drop (count * (4 + m)) directory)

-- a directory block is refused
abbrev pub IsRefused : ℕ → ℕ → List ℕ → ℕ → Type 0
IsRefused m count directory block = HasFall m count directory block ⊎ IsUnfilled m count directory block

abbrev pub IsDirectory : ℕ → ℕ → List ℕ → Type 0
IsDirectory m count directory = (block : ℕ) → IsRefused m count directory block → ⊥

-- the first directory block that is refused
pub record IsFirstRefused (m count : ℕ) (directory : List ℕ) (block : ℕ) : Type 0 where
  pub refused : IsRefused m count directory block
  pub first : (earlier : ℕ) → earlier < block → IsRefused m count directory earlier → ⊥

-- the header and the directory are those of the expected segment
pub record IsFront (number : ℕ) (params : Params) (bytes : List ℕ) : Type 0 where
  pub header : BeginsWell number params bytes
  pub directory : IsDirectory (header_in bytes).m (header_in bytes).count (directory_in (header_in bytes) bytes)

-- the first header or directory block that is refused
abbrev pub IsBadBlock : ℕ → Params → List ℕ → ℕ → Type 0
IsBadBlock number params bytes block =
    ((block ≡ 0) × (BeginsWell number params bytes → ⊥))
    ⊎ (BeginsWell number params bytes × IsFirstRefused (header_in bytes).m (header_in bytes).count (directory_in (header_in bytes) bytes) block)

-- where a block is named, it is the first that is refused
abbrev pub IsRefusal : ℕ → Params → List ℕ → SegmentRefused → Type 0
IsRefusal number params bytes why = (block : ℕ) → why ≡ BadSegment block → IsBadBlock number params bytes block

-- ---- what is read

-- a header and directory blocks that were read for a number
pub record IsFrontFor (number : ℕ) (params : Params) (head : Header) (directory : List ℕ) : Type 0 where
  pub header : IsHeader head
  pub expected : IsHeaderFor number params head
  pub rows : length directory ≡ 4096 * directory_blocks head.count head.m
  pub rising : AreRising (items_in head.m head.count directory)

-- they are those of the bytes
pub record IsFrontOf (number : ℕ) (params : Params) (bytes : List ℕ) (head : Header) (blocks : List ℕ) : Type 0 where
  pub front : IsFront number params bytes
  pub header : head ≡ header_in bytes
  pub directory : blocks ≡ directory_in head bytes

-- an opened segment has the number, the parameters' code length and the seal that were given
pub record IsOpened {S : Type 0} (wanted : ℕ) (params : Params) (given : S) (segment : SegmentView S) : Type 0 where
  pub number : segment.number ≡ wanted
  pub code_bytes : segment.m ≡ params.m
  pub seal : segment.seal ≡ given

-- its entry, Pids and codes are those of the bytes, which are in the format up to the nodes
pub record IsOpenedFrom {S : Type 0} (number : ℕ) (params : Params) (bytes : List ℕ) (segment : SegmentView S) : Type 0 where
  pub front : IsFront number params bytes
  pub entry : segment.entry ≡ (header_in bytes).start_row
  pub items : segment.items ≡ items_in params.m (header_in bytes).count (directory_in (header_in bytes) bytes)

-- ---- how often the eye reads: the header block, and then the directory blocks at once

-- how many reads an opening has made that is refused so
abbrev pub MayRead : SegmentRefused → ℕ → Type 0
MayRead Disk n = n ≤ 1
MayRead Memory n = n ≡ 1
MayRead (BadSegment zero) n = n ≤ 1
MayRead (BadSegment (suc block)) n = n ≡ 2

-- an opening has made two reads, or those of its refusal
pub record HasRead {T E : Type 0} (why_of : E → SegmentRefused) (result : Result T E) (before now : ℕ) : Type 0 where
  pub reads : ℕ
  pub as_many : MatchResult result (λ _. reads ≡ 2) (λ refused. MayRead (why_of refused) reads)
  pub counted : now ≡ more_reads reads before
