-- How the sealing of a merge ends.
use Rattle.std.proofs.Common.{◌≡◌, ℕ, List, ◌++◌, inl, inr, sym, ap, ap₂, subst, ◌∙◌}
use Rattle.std.specs.Prelude.{◌⊎◌, Option, Result, Ok, Err, IfOk, IfErr, IsErrAnd, MatchResult}
use Rattle.std.specs.FinMap.{insert}
use Rattle.std.specs.List.{flat_map}
use Rattle.ann_types.specs.Codes.{Book}
use Rattle.ann_block.specs.declared.header.Header.{Header}
use Rattle.ann_vault.specs.Held.{Holding, MayBeSealed}
use Rattle.ann_segment.specs.Directory.{Item}
use Rattle.ann_segment.specs.Segment.{SegmentView}
use Rattle.ann_segment.specs.Text.{front_bytes, node_for, segment_text}
use Rattle.ann_segment.specs.Writer.{IsWritten, SealsText, WriterView}
use Rattle.ann_mdelete.specs.declared.refused.WorkRefused.{WorkRefused}
use Rattle.ann_mdelete.specs.declared.refused.WorkRefused.TheVariants.{Disk, BadSegment, Memory}
use Rattle.ann_mpatch.specs.declared.plan.PatchPlan.{PatchPlan}
use Rattle.ann_mseal.specs.Ends.{HasSealed, IsFault, IsSealedUnder, LeavesSealed, SealsMerged}
use Rattle.ann_mseal.specs.Merged.{IsMerged, merged_header, merged_items}

-- a refusal that is handed on
pub ends_as : {T E : Type 0} (P : T → Type 0) (Q : E → Type 0) (result : Result T E) (why : E) → IsErrAnd result (λ e. e ≡ why) → Q why → MatchResult result P Q
ends_as P Q (Ok x) why is r = absurd is
ends_as P Q (Err e) why is r = subst Q (sym is) r

-- where nothing has changed
pub nothing_left : (is_text : List ℕ → Type 0) (number : ℕ) (old new : Holding) (why : WorkRefused) → new ≡ old → LeavesSealed is_text number old new why
nothing_left is_text number old new Disk same = inl same
nothing_left is_text number old new (BadSegment block) same = same
nothing_left is_text number old new Memory same = same

-- the draft is the text itself
drafted_text : {D : Type 0} (writer : WriterView D) (drafted : List ℕ) → SealsText writer drafted drafted
unfolding segment_text
drafted_text writer drafted = λ params book graph header items same.
    same ∙ ap₂ (λ (h : Header) (is : List Item). front_bytes h is ++ flat_map (node_for graph.points) graph.points) header items

module _ {S D : Type 0} (tells : Type 0) (number_of : S → ℕ) (bytes : S → List ℕ) (book : Book) (plan : PatchPlan S) (entry : Option ℕ) (number : ℕ) (writer : WriterView D) (drafted : List ℕ) (header : writer.header ≡ merged_header plan entry number) (items : writer.items ≡ merged_items book plan) (is_text : tells → (text : List ℕ) → SealsText writer drafted text → SealsMerged bytes book plan entry number text) (old mid new : Holding) (kept : tells → mid ≡ old) where
  own : writer.header.number ≡ number
  own = ap (λ (h : Header). h.number) header

  merged_is : (segment : SegmentView S) → IsWritten writer segment → IsMerged book plan entry number segment
  merged_is segment is = record {
    number = is.number ∙ own;
    code_bytes = is.code_bytes ∙ ap (λ (h : Header). h.m) header;
    entry = is.entry ∙ ap (λ (h : Header). h.start_row) header;
    items = is.items ∙ items;
  }

  left_by_fault : tells → MayBeSealed writer.header.number drafted mid new → LeavesSealed (SealsMerged bytes book plan entry number) number old new Disk
  left_by_fault told (inl same) = inl (same ∙ kept told)
  left_by_fault told (inr sealed) =
      inr (drafted, is_text told drafted (drafted_text writer drafted), sealed ∙ ap₂ (λ (h : Holding) (n : ℕ). insert h n drafted) (kept told) own)

  pub seal_ends : (before now : ℕ) (r : Result (SegmentView S) WorkRefused) → IfOk r (IsWritten writer) → (tells → MatchResult r (λ segment. IsSealedUnder number_of bytes writer.header.number segment.seal mid new) (λ _. MayBeSealed writer.header.number drafted mid new)) → (tells → IfOk r (λ segment. SealsText writer drafted (bytes segment.seal))) → IfErr r (IsFault before now) → MatchResult r (HasSealed tells number_of bytes book plan entry number old new) (λ why. tells → LeavesSealed (SealsMerged bytes book plan entry number) number old new why)
  seal_ends before now (Ok segment) written sealed text fault = record {
    merged = merged_is segment written;
    sealed = λ told.
        subst (λ (h : Holding). IsSealedUnder number_of bytes number segment.seal h new) (kept told)
        (subst (λ (n : ℕ). IsSealedUnder number_of bytes n segment.seal mid new) own (sealed told));
    text = λ told. is_text told (bytes segment.seal) (text told);
  }
  seal_ends before now (Err Disk) written sealed text fault = λ told. left_by_fault told (sealed told)
  seal_ends before now (Err (BadSegment block)) written sealed text fault = absurd fault
  seal_ends before now (Err Memory) written sealed text fault = absurd fault
