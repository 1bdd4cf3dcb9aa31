-- What is seen of a segment, and of one that is being written.
use Rattle.std.specs.Prelude.{◌≡◌, ℕ, ◌+◌, ◌*◌, ◌<◌, List, length, slice_range, None, Option, MatchOption, Result, Ok, Err}
use Rattle.ann_types.specs.Codes.{code}
use Rattle.ann_types.specs.declared.params.Params.{Params}
use Rattle.ann_block.specs.Node.{judge_node, node_of}
use Rattle.ann_pq.specs.Codebook.{CodebookView}
use Rattle.ann_segment.specs.Directory.{Item, item_of, AreRising, directory_blocks}
use Rattle.ann_segment.specs.declared.refused.VerifyRefused.{VerifyRefused}
use Rattle.ann_segment.specs.declared.refused.VerifyRefused.TheVariants.{Disk, BadSegment}

-- its number, the bytes of a code, the row of the entry, the Pid and the code in each row, and its seal
pub record SegmentView (S : Type 0) : Type 0 where
  pub number : ℕ
  pub m : ℕ
  pub entry : Option ℕ
  pub items : List Item
  pub seal : S

-- a row is the entry, exactly where there is one
abbrev pub IsEntryOf : ℕ → Option ℕ → Type 0
IsEntryOf count entry = MatchOption entry (count ≡ 0) (λ row. row < count)

-- what is true of every segment
pub record IsSegment {S : Type 0} (segment : SegmentView S) : Type 0 where
  pub rising : AreRising segment.items
  pub entry : IsEntryOf (length segment.items) segment.entry

-- where the node block of a row stands among the blocks
abbrev pub node_block : {S : Type 0} → SegmentView S → ℕ → ℕ
node_block segment row = 1 + directory_blocks (length segment.items) segment.m + row

-- a block of some bytes
abbrev pub sealed_block : List ℕ → ℕ → List ℕ
sealed_block bytes block = slice_range bytes (4096 * block) (4096 * block + 4096)

-- a page is the node block of this Pid in a row of so many, and its vector has this code over the codebook
pub record IsNode (page : List ℕ) (pid row count : ℕ) (wanted : List ℕ) (book : CodebookView) (params : Params) : Type 0 where
  pub block : judge_node page pid row count params ≡ None
  pub dimension : length (node_of params.d page).vector ≡ book.d
  pub coded : code book.book (node_of params.d page).vector ≡ wanted

-- a page is the node block of a row, and the code of its vector is the directory's
abbrev pub IsNodeIn : {S : Type 0} → SegmentView S → ℕ → CodebookView → Params → List ℕ → Type 0
IsNodeIn segment row book params page = IsNode page (item_of segment.items row).0 row (length segment.items) (item_of segment.items row).1 book params

-- what verifying a page as the node block of a row answers; nothing is said of a page that wasn't read
abbrev pub IsVerdict : {S T : Type 0} → SegmentView S → ℕ → CodebookView → Params → List ℕ → Result T VerifyRefused → Type 0
IsVerdict segment row book params page (Ok _) = IsNodeIn segment row book params page
IsVerdict segment row book params page (Err (BadSegment block)) =
    (block ≡ node_block segment row) × (IsNodeIn segment row book params page → ⊥)
IsVerdict segment row book params page (Err Disk) = Unit {0}
