-- How an attempt at a merge ends.
use Rattle.std.proofs.Common.{◌≡◌, ℕ, ◌≤◌, List, inl, inr, refl, sym, ap, subst, ◌∙◌, map}
use Rattle.std.specs.Prelude.{◌⊎◌, Option, None, Some, Result, Ok, Err, MatchResult}
use Rattle.std.specs.FinMap.{get}
use Rattle.std.specs.Option.{option_map}
use Rattle.ann_types.specs.Graph.{Graph}
use Rattle.ann_types.specs.Merge.{merged}
use Rattle.ann_types.specs.declared.params.Params.{Params}
use Rattle.ann_vault.specs.Held.{Holding}
use Rattle.ann_block.specs.declared.header.Header.{Header}
use Rattle.ann_segment.specs.Directory.{Item}
use Rattle.ann_segment.specs.Segment.{SegmentView}
use Rattle.ann_segment.specs.Holds.{Holds}
use Rattle.ann_segment.specs.Text.{items_for, row_of, segment_text}
use Rattle.ann_mdelete.specs.declared.refused.WorkRefused.{WorkRefused}
use Rattle.ann_mdelete.specs.declared.refused.WorkRefused.TheVariants.{Disk, BadSegment, Memory}
use Rattle.ann_mpatch.specs.Phase.{HoldsOld}
use Rattle.ann_mpatch.specs.Plan.{source_for}
use Rattle.ann_mpatch.specs.Source.{Source, source_of}
use Rattle.ann_mpatch.specs.declared.plan.PatchPlan.{PatchPlan}
use Rattle.ann_mcause.specs.Eyes.{AreCause, HaveGone}
use Rattle.ann_mcause.proofs.Counted.{rose_behind}
use Rattle.ann_mcause.proofs.Watched.{eyes_caused}
use Rattle.ann_mlaws.specs.Plan.{IsLti}
use Rattle.ann_mseal.specs.Ends.{HasSealed, IsUnsealed, LeavesSealed, SealsMerged}
use Rattle.ann_mseal.specs.Merged.{IsMerged}
use Rattle.ann_mseal.proofs.Headed.{header_merged}
use Rattle.ann_mseal.proofs.Items.{items_merged}
use Rattle.ann_merge.specs.Gathered.{new_of}
use Rattle.ann_merge.specs.Job.{IsDone, IsMergeOf, IsMergeText, IsOrder, IsPlanFor, IsWorkRefused, KeepsNumbers, LeavesNumber, Order, index_of, merged_for}
use Rattle.ann_merge.proofs.Merged.{merged_numbers, merged_sound}
use Rattle.ann_merge.proofs.Numbers.{inserted, others_inserted, others_left, others_then}

-- ---- refusals

module _ {E : Type 0} (reads faults : E → ℕ) (tells : Type 0) (source : Source) (params : Params) where
  -- an eye has the cause
  pub refused_by_eyes : (before now : ℕ) (old new : List E) (why : WorkRefused) → AreCause reads faults tells source params old new why → IsWorkRefused reads faults tells source params before now old new why
  refused_by_eyes before now old new Disk cause = inr cause
  refused_by_eyes before now old new (BadSegment block) cause = cause
  refused_by_eyes before now old new Memory cause = tt

  -- the sealing was refused, behind other work
  pub refused_by_seal : (first second third : ℕ) (old now new : List E) (why : WorkRefused) → first ≤ second → HaveGone reads faults old now → IsUnsealed (AreCause reads faults tells source params now new) second third why → IsWorkRefused reads faults tells source params first third old new why
  refused_by_seal first second third old now new Disk later gone (inl rose) = inl (rose_behind first second third later rose)
  refused_by_seal first second third old now new Disk later gone (inr cause) = inr (eyes_caused reads faults tells source params old now new Disk gone cause)
  refused_by_seal first second third old now new (BadSegment block) later gone cause = eyes_caused reads faults tells source params old now new (BadSegment block) gone cause
  refused_by_seal first second third old now new Memory later gone cause = tt

-- ---- the segment

module _ {S : Type 0} (tells : Type 0) (bytes : S → List ℕ) (order : Order S) (plan : PatchPlan S) (entry : Option ℕ) (for : IsPlanFor tells bytes order plan entry) where
  holds_old : (old : Option (SegmentView S)) (lti : Graph) → IsLti bytes (index_of order) old lti → HoldsOld bytes (index_of order) old lti
  holds_old None lti is = tt
  holds_old (Some segment) lti is = is

  text_is : tells → (text : List ℕ) → SealsMerged bytes order.book.book plan entry order.number text → (lti : Graph) → IsLti bytes (index_of order) order.old lti → text ≡ segment_text order.params order.book.book (merged (index_of order) lti (new_of order.gone order.frozen) order.gone) order.number
  text_is told text is lti held =
      let made = for.merge told lti held in
      let old = subst (λ o. HoldsOld bytes (index_of order) o lti) (sym for.old_segment) (holds_old order.old lti held) in
      is (index_of order) lti made.base made.new made.is old refl made.entry_is
      ∙ ap (λ (g : Graph). segment_text order.params order.book.book g order.number) (sym made.graph)

  items_are : tells → (segment : SegmentView S) → IsMerged order.book.book plan entry order.number segment → (lti : Graph) → IsLti bytes (index_of order) order.old lti → segment.items ≡ items_for order.book.book (merged_for order lti)
  items_are told segment is lti held =
      let made = for.merge told lti held in
      let old = subst (λ o. HoldsOld bytes (index_of order) o lti) (sym for.old_segment) (holds_old order.old lti held) in
      subst (λ (g : Graph). segment.items ≡ items_for order.book.book g) (sym made.graph)
      (is.items ∙ items_merged bytes (index_of order) lti plan for.sound made.base made.new made.is old)

  entry_is : tells → (segment : SegmentView S) → IsMerged order.book.book plan entry order.number segment → (lti : Graph) → IsLti bytes (index_of order) order.old lti → segment.entry ≡ option_map (row_of (merged_for order lti).points) (merged_for order lti).entry
  entry_is told segment is lti held =
      let made = for.merge told lti held in
      subst (λ (g : Graph). segment.entry ≡ option_map (row_of g.points) g.entry) (sym made.graph)
      (is.entry ∙ ap (λ (h : Header). h.start_row) (header_merged plan (index_of order) lti made.base made.new made.is entry order.number for.entered made.entry_is))

  code_bytes_are : (segment : SegmentView S) → IsMerged order.book.book plan entry order.number segment → segment.m ≡ order.params.m
  code_bytes_are segment is = is.code_bytes ∙ ap (λ (p : Params). p.m) for.params_are

  -- how the sealing of this plan ends
  abbrev pub Sealing : (S → ℕ) → Holding → Holding → Result (SegmentView S) WorkRefused → Type 0
  Sealing number_of old new r =
      MatchResult r (HasSealed tells number_of bytes order.book.book plan entry order.number old new)
      (λ why. tells → LeavesSealed (SealsMerged bytes order.book.book plan entry order.number) order.number old new why)

  pub others_keep : tells → (number_of : S → ℕ) (first old new : Holding) (r : Result (SegmentView S) WorkRefused) → KeepsNumbers order.number first old → Sealing number_of old new r → KeepsNumbers order.number first new
  others_keep told number_of first old new (Ok segment) kept is =
      others_then order.number first old new kept (λ other n. ap (λ h. get h other) (is.sealed told).held ∙ others_inserted old order.number (bytes segment.seal) other n)
  others_keep told number_of first old new (Err why) kept left =
      others_then order.number first old new kept (others_left (SealsMerged bytes order.book.book plan entry order.number) order.number old new why (left told))

  -- the seal's refusal, by the parts of the merge
  pub by_parts : {E : Type 0} (reads faults : E → ℕ) (before now : ℕ) (old new : List E) (why : WorkRefused) → IsUnsealed (AreCause reads faults tells (source_for bytes plan) plan.params old new) before now why → IsUnsealed (AreCause reads faults tells (source_of bytes order.old) order.params old new) before now why
  by_parts reads faults before now old new why is =
      subst (λ p. IsUnsealed (AreCause reads faults tells (source_of bytes order.old) p old new) before now why) for.params_are
      (subst (λ o. IsUnsealed (AreCause reads faults tells (source_of bytes o) plan.params old new) before now why) for.old_segment is)

  module _ (is_order : IsOrder order) where
    -- told, it holds the merged graph
    holds_is : tells → (segment : SegmentView S) → IsMerged order.book.book plan entry order.number segment → SealsMerged bytes order.book.book plan entry order.number (bytes segment.seal) → (lti : Graph) → IsLti bytes (index_of order) order.old lti → Holds order.params order.book.book (bytes segment.seal) segment (merged_for order lti)
    holds_is told segment is text lti held = record {
      sound = merged_sound bytes order is_order for.vectors for.tags lti held;
      numbers = merged_numbers bytes order is_order for.vectors for.tags lti held;
      text = text_is told (bytes segment.seal) text lti held ∙ ap (segment_text order.params order.book.book (merged_for order lti)) (sym is.number);
      items = items_are told segment is lti held;
      entry = entry_is told segment is lti held;
      code_bytes = code_bytes_are segment is;
    }

    pub merge_is : (segment : SegmentView S) → IsMerged order.book.book plan entry order.number segment → (tells → SealsMerged bytes order.book.book plan entry order.number (bytes segment.seal)) → IsMergeOf tells bytes order segment
    merge_is segment is text = record {
      numbered = is.number;
      code_bytes = code_bytes_are segment is;
      pids = ap (map (λ (item : Item). item.0)) is.items ∙ for.pids;
      holds = λ told lti held. holds_is told segment is (text told) lti held;
    }

    -- ---- the number

    -- told, a text that the end of the merge may seal is that of the merged graph
    left_from : tells → (before : Option (List ℕ)) (old new : Holding) (why : WorkRefused) → get old order.number ≡ None → LeavesSealed (SealsMerged bytes order.book.book plan entry order.number) order.number old new why → LeavesNumber (IsMergeText bytes order) before (get new order.number) why
    left_from told before old new Disk gone (inl same) = inr (inl (ap (λ h. get h order.number) same ∙ gone))
    left_from told before old new Disk gone (inr (text, is, sealed)) = inr (inr (text, text_is told text is, ap (λ h. get h order.number) sealed ∙ inserted old order.number text))
    left_from told before old new (BadSegment block) gone same = ap (λ h. get h order.number) same ∙ gone
    left_from told before old new Memory gone same = inr (inl (ap (λ h. get h order.number) same ∙ gone))

    pub ends_from : (number_of : S → ℕ) (before : Option (List ℕ)) (old new : Holding) (r : Result (SegmentView S) WorkRefused) → (tells → get old order.number ≡ None) → Sealing number_of old new r → MatchResult r (IsDone tells bytes order new) (λ why. tells → LeavesNumber (IsMergeText bytes order) before (get new order.number) why)
    ends_from number_of before old new (Ok segment) gone is = record {
      merge = merge_is segment is.merged is.text;
      sealed = λ told. ap (λ h. get h order.number) (is.sealed told).held ∙ inserted old order.number (bytes segment.seal);
    }
    ends_from number_of before old new (Err why) gone left = λ told. left_from told before old new why (gone told) (left told)

-- ---- what an attempt leaves

-- where nothing stands under the number
pub none_left : (is_text : List ℕ → Type 0) (before now : Option (List ℕ)) (why : WorkRefused) → now ≡ None → LeavesNumber is_text before now why
none_left is_text before now Disk none = inr (inl none)
none_left is_text before now (BadSegment block) none = none
none_left is_text before now Memory none = inr (inl none)

-- where it couldn't be taken away
pub fault_left : (is_text : List ℕ → Type 0) (before now : Option (List ℕ)) → (now ≡ before) ⊎ (now ≡ None) → LeavesNumber is_text before now Disk
fault_left is_text before now (inl same) = inl same
fault_left is_text before now (inr none) = inr (inl none)

-- a done job's text, where there was no memory to share its segment
pub done_left : {S : Type 0} (tells : Type 0) (bytes : S → List ℕ) (order : Order S) (before : Option (List ℕ)) (held : Holding) (segment : SegmentView S) → tells → IsDone tells bytes order held segment → LeavesNumber (IsMergeText bytes order) before (get held order.number) Memory
done_left tells bytes order before held segment told is =
    inr (inr (bytes segment.seal, (λ lti h. (is.merge.holds told lti h).text ∙ ap (segment_text order.params order.book.book (merged_for order lti)) is.merge.numbered), is.sealed told))
