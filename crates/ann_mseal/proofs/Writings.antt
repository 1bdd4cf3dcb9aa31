-- A merged segment as it is written, window by window.
use Rattle.std.proofs.Common.{◌≡◌, ℕ, ◌+◌, ◌*◌, ◌≤◌, List, sym, ap, ap₂, subst, ◌∙◌, arith, length, min}
use Rattle.std.specs.List.{concat}
use Rattle.std.proofs.lemmas.List.{length-append}
use Rattle.ann_block.specs.declared.header.Header.{Header}
use Rattle.ann_crew.specs.Crew.{ArePieces}
use Rattle.ann_segment.specs.Directory.{directory_blocks}
use Rattle.ann_segment.specs.Text.{front_bytes}
use Rattle.ann_segment.specs.Writer.{WriterView, length_after}
use Rattle.ann_mpatch.specs.declared.plan.PatchPlan.{PatchPlan}
use Rattle.ann_mseal.specs.Pieces.{IsMergedPiece, piece_count}
use Rattle.ann_mseal.specs.Written.{HasAppended, HasRows, IsDrafted, IsSameSegment, IsWriting}
use Rattle.ann_mseal.proofs.Windows.{drafted_more, pieces_long}

longer : (front written more after now size : ℕ) → now ≡ 4096 * (front + written) → 4096 * after ≡ 4096 * written + more → size ≡ now + more → size ≡ 4096 * (front + after)
longer front written more after now size before step all = omega arith

as_many : (before after first last more : ℕ) → 4096 * after ≡ 4096 * before + more → before ≡ first → 4096 * first + more ≡ 4096 * last → after ≡ last
as_many before after first last more step is sum = omega arith

module _ {V D S : Type 0} (tells : Type 0) (is_current : V → D → Type 0) (number_of : D → ℕ) (bytes_of : D → List ℕ) (sealed : S → List ℕ) (plan : PatchPlan S) where
  -- a window more is written
  pub writing_more : (first count : ℕ) (pieces : List (List ℕ)) (before after : V) (old new : WriterView D) → first + count ≤ piece_count plan → ArePieces (IsMergedPiece tells sealed plan) first count pieces → IsWriting tells is_current number_of bytes_of sealed plan first before old → IsSameSegment old new → HasRows (concat pieces) old new → (tells → HasAppended is_current number_of bytes_of (concat pieces) after old.draft new.draft) → IsWriting tells is_current number_of bytes_of sealed plan (first + count) after new
  writing_more first count pieces before after old new within are so_far same rows draft = record {
    rows = ap (λ (h : Header). h.count) same.header ∙ so_far.rows;
    written =
        as_many old.written new.written (min (256 * first) (length plan.decoded)) (min (256 * (first + count)) (length plan.decoded)) (length (concat pieces))
        rows so_far.written (pieces_long tells sealed plan first count pieces within are);
    draft = λ told.
        let was = so_far.draft told in
        let more = draft told in
        record {
          number = more.number ∙ was.number ∙ ap (λ (h : Header). h.number) (sym same.header);
          long =
              longer (1 + directory_blocks old.header.count old.header.m) old.written (length (concat pieces)) new.written (length (bytes_of old.draft)) (length (bytes_of new.draft))
              was.long rows (ap length more.blocks ∙ length-append (bytes_of old.draft) (concat pieces))
              ∙ ap (λ (h : Header). length_after h new.written) (sym same.header);
          current = more.current;
        };
    drafted = λ told.
        subst (λ (front : List ℕ). IsDrafted sealed plan front (256 * (first + count)) (bytes_of new.draft)) (sym (ap₂ front_bytes same.header same.items))
        (drafted_more tells sealed plan (front_bytes old.header old.items) (bytes_of old.draft) (bytes_of new.draft) first count pieces told are (so_far.drafted told) (draft told).blocks);
  }
