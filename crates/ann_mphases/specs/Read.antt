-- The lists of a piece of the old long-term graph, as they were read.
use Rattle.std.specs.Prelude.{◌≡◌, ◌*◌, ℕ, List, length}
use Rattle.ann_types.specs.declared.params.Params.{Params}
use Rattle.ann_segment.specs.Segment.{SegmentView}
use Rattle.ann_mdelete.specs.Loaded.{IsPiece, LoadedView, piece_bytes, piece_rows}

-- they are those of some blocks, each the node block of its row; told, the blocks are those that are sealed
pub record IsReadPiece {S : Type 0} (tells : Type 0) (bytes : S → List ℕ) (segment : SegmentView S) (params : Params) (number : ℕ) (lists : List (List ℕ)) : Type 0 where
  pub piece : LoadedView
  pub rows : IsPiece segment params (256 * number) (piece_rows (length segment.items) (256 * number)) piece
  pub told : tells → piece.page ≡ piece_bytes segment (bytes segment.seal) (256 * number)
  pub listed : lists ≡ piece.lists
