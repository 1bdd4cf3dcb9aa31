-- Node blocks that were read through: each is in the format, and the code of its vector is the directory's.
use Rattle.std.specs.Prelude.{◌≡◌, ◌<◌, ℕ, List, Option, Some, None, length}
use Rattle.ann_types.specs.declared.params.Params.{Params}
use Rattle.ann_pq.specs.Codebook.{CodebookView}
use Rattle.ann_segment.specs.Segment.{SegmentView, IsNodeIn, node_block}
use Rattle.ann_segment.specs.Rows.{row_block}
use Rattle.ann_recover.specs.declared.refused.RecoverWhy.{RecoverWhy}
use Rattle.ann_recover.specs.declared.refused.RecoverWhy.TheVariants.{NoIndex, BadLog, BadSegment, Disk, Memory}

-- the node block of a row is right
abbrev pub IsRight : {S : Type 0} → SegmentView S → CodebookView → Params → List ℕ → ℕ → Type 0
IsRight segment book params bytes row = IsNodeIn segment row book params (row_block segment bytes row)

-- so are those of the first rows
abbrev pub AreRight : {S : Type 0} → SegmentView S → CodebookView → Params → List ℕ → ℕ → Type 0
AreRight segment book params bytes n = (row : ℕ) → row < n → IsRight segment book params bytes row

-- this block is the first that isn't
pub record IsFirstWrong {S : Type 0} (segment : SegmentView S) (book : CodebookView) (params : Params) (bytes : List ℕ) (block : ℕ) : Type 0 where
  pub row : ℕ
  pub within : row < length segment.items
  pub place : block ≡ node_block segment row
  pub before : AreRight segment book params bytes row
  pub wrong : IsRight segment book params bytes row → ⊥

-- told, this block of a segment is the first that isn't; of no segment none is
abbrev pub IsWrongIn : {S : Type 0} → Type 0 → (S → List ℕ) → Option (SegmentView S) → CodebookView → Params → ℕ → Type 0
IsWrongIn tells bytes None book params block = ⊥
IsWrongIn tells bytes (Some segment) book params block = tells → IsFirstWrong segment book params (bytes segment.seal) block

-- the node blocks of a segment are refused so
abbrev pub IsWrong : {S : Type 0} → Type 0 → (S → List ℕ) → Option (SegmentView S) → CodebookView → Params → RecoverWhy → Type 0
IsWrong tells bytes segment book params NoIndex = ⊥
IsWrong tells bytes segment book params (BadLog entry) = ⊥
IsWrong tells bytes segment book params (BadSegment block) = IsWrongIn tells bytes segment book params block
IsWrong tells bytes segment book params Disk = Unit {0}
IsWrong tells bytes segment book params Memory = ⊥

-- all node blocks of a segment are right
abbrev pub IsAllRight : {S : Type 0} → (S → List ℕ) → Option (SegmentView S) → CodebookView → Params → Type 0
IsAllRight bytes None book params = Unit {0}
IsAllRight bytes (Some segment) book params = AreRight segment book params (bytes segment.seal) (length segment.items)
