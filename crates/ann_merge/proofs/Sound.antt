-- No block is bad where the old segment holds a graph.
use Rattle.std.proofs.Common.{◌≡◌, ℕ, ◌<◌, List, [], ◌∷◌, arith, length}
use Rattle.std.specs.Prelude.{Option, None, Some}
use Rattle.std.specs.FinMap.{get}
use Rattle.ann_types.specs.Graph.{Graph}
use Rattle.ann_types.specs.Index.{Index}
use Rattle.ann_vault.specs.Held.{Holding}
use Rattle.ann_segment.specs.Segment.{SegmentView}
use Rattle.ann_segment.proofs.Holding.{holds_row}
use Rattle.ann_mdelete.specs.declared.refused.WorkRefused.{WorkRefused}
use Rattle.ann_mdelete.specs.declared.refused.WorkRefused.TheVariants.{Disk, BadSegment, Memory}
use Rattle.ann_mpatch.specs.Source.{IsSound, source_of}
use Rattle.ann_mcause.specs.Eyes.{AreCause}
use Rattle.ann_mlaws.specs.Plan.{IsLti}
use Rattle.ann_merge.specs.Job.{IsMergeText, IsStopped, IsWorkRefused, LeavesNumber, NamesNoBlock, Order, index_of}

module _ {S : Type 0} (bytes : S → List ℕ) (index : Index) (lti : Graph) (parts : length index.book ≡ index.params.m) where
  -- each row's block is in the format
  sound_rows : (old : Option (SegmentView S)) → IsLti bytes index old lti → (row : ℕ) → row < length (source_of bytes old).items → IsSound (source_of bytes old) index.params row
  sound_rows None is row below = absurd (omega arith)
  sound_rows (Some segment) held row below = (holds_row index.params index.book (bytes segment.seal) segment lti held parts row below).sound

  module _ {E : Type 0} (reads faults : E → ℕ) (tells : Type 0) (told : tells) (old : Option (SegmentView S)) (held : IsLti bytes index old lti) where
    one_of : (xs : List E) (i : ℕ) → i < length xs → E
    one_of [] i below = absurd (omega arith)
    one_of (x ∷ xs) i below = x

    none_bad : (eyes worked : List E) (block : ℕ) → AreCause reads faults tells (source_of bytes old) index.params eyes worked (BadSegment block) → ⊥
    none_bad eyes worked block (i, below, cause) =
        let bad = (cause (one_of eyes i below)).1 told in
        bad.bad (sound_rows old held bad.row bad.within)

    pub names_none : (before now : ℕ) (eyes worked : List E) (why : WorkRefused) → IsWorkRefused reads faults tells (source_of bytes old) index.params before now eyes worked why → NamesNoBlock why
    names_none before now eyes worked Disk cause = tt
    names_none before now eyes worked (BadSegment block) cause = none_bad eyes worked block cause
    names_none before now eyes worked Memory cause = tt

-- A refusal of the work has its cause, and names no block where the old segment holds a graph.
pub stopped : {S E : Type 0} (tells : Type 0) (bytes : S → List ℕ) (order : Order S) (reads faults : E → ℕ) (before now : ℕ) (eyes worked : List E) (old new : Holding) (why : WorkRefused) → length order.book.book ≡ order.params.m → IsWorkRefused reads faults tells (source_of bytes order.old) order.params before now eyes worked why → (tells → LeavesNumber (IsMergeText bytes order) (get old order.number) (get new order.number) why) → IsStopped tells bytes order (IsWorkRefused reads faults tells (source_of bytes order.old) order.params before now eyes worked) old new why
stopped tells bytes order reads faults before now eyes worked old new why parts cause left = record {
  cause = cause;
  sound = λ told lti held. names_none bytes (index_of order) lti parts reads faults tells told order.old held before now eyes worked why cause;
  left = left;
}
