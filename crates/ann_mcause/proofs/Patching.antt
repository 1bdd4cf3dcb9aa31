-- How the counts go where the node blocks of merged rows are made.
use Rattle.std.proofs.Common.{◌≡◌, ℕ, suc, ◌<◌, List, ◌∷◌, ◌++◌, length, drop, refl, subst, arith}
use Rattle.std.specs.Prelude.{All, Option, None, Some, Result, Ok, Err, IfErr}
use Rattle.std.proofs.lemmas.Result.{IfErr-weaker}
use Rattle.std.proofs.lemmas.List.{drop_at}
use Rattle.std.proofs.lemmas.List.Elements.{All-drop, All-head, All-take}
use Rattle.ann_types.specs.declared.params.Params.{Params}
use Rattle.ann_fault.specs.Counts.{Rose}
use Rattle.ann_fault.proofs.Counts.{next_later}
use Rattle.ann_vault.specs.Reads.{more_reads}
use Rattle.ann_segment.specs.Segment.{SegmentView}
use Rattle.ann_mdelete.specs.Refusals.{Counts, counts_of}
use Rattle.ann_mdelete.specs.declared.refused.WorkRefused.{WorkRefused}
use Rattle.ann_mdelete.specs.declared.refused.WorkRefused.TheVariants.{Disk, BadSegment, Memory}
use Rattle.ann_mpatch.specs.Source.{Source, source_of}
use Rattle.ann_mpatch.specs.Plan.{IsPlan, row_count, segment_in, source_for, survivors_in}
use Rattle.ann_mpatch.specs.Patched.{IsPatched, IsRefusedFor, Standing}
use Rattle.ann_mpatch.specs.declared.plan.PatchPlan.{PatchPlan}
use Rattle.ann_mcause.specs.Causes.{HasGone, IsCause}
use Rattle.ann_mcause.proofs.Counted.{reads_later, rose_behind, rose_once}

-- the counts of the eye
abbrev pub counts_at : Standing → Counts
counts_at s = counts_of s.reads s.faults

-- more than one read is a rise
rose_more : (old n new : ℕ) → new ≡ more_reads (suc n) old → Rose old new
rose_more old n new is = rose_behind old (more_reads n old) new (reads_later n old) (rose_once (more_reads n old) new is)

-- the rows of a segment are those of its source
source_count : {S : Type 0} (bytes : S → List ℕ) (o : Option (SegmentView S)) → row_count o ≡ length (source_of bytes o).items
source_count bytes None = refl
source_count bytes (Some segment) = refl

module _ (tells : Type 0) (source : Source) (params : Params) (rows : List ℕ) (old new : Standing) where
  pub refused_gone : (why : WorkRefused) → IsRefusedFor tells source params rows old new why → HasGone (counts_at old) (counts_at new)
  refused_gone Disk r = record {
    reads = (let up = reads_later (length r.before) old.reads in let is = r.reads in omega arith);
    faults = (let up = next_later old.faults in let is = r.faulty in omega arith);
  }
  refused_gone (BadSegment block) r = record {
    reads = (let up = reads_later (suc (length r.before)) old.reads in let is = r.reads in omega arith);
    faults = (let is = r.calm in omega arith);
  }
  refused_gone Memory r = record {
    reads = (let up = reads_later (length r.before) old.reads in let is = r.reads in omega arith);
    faults = (let is = r.calm in omega arith);
  }

  -- a row that was read is one of the source
  row_inside : (row : ℕ) (before after : List ℕ) → All (λ r. r < length source.items) rows → rows ≡ before ++ row ∷ after → row < length source.items
  row_inside row before after all is =
      let P : ℕ → Type 0 = λ r. r < length source.items in
      All-head P row after (subst (All P) (drop_at before (row ∷ after) (length before) refl) (All-drop P (length before) (before ++ row ∷ after) (subst (All P) is all)))

  pub refused_cause : (why : WorkRefused) → All (λ r. r < length source.items) rows → IsRefusedFor tells source params rows old new why → IsCause tells source params (counts_at old) (counts_at new) why
  refused_cause Disk all r = rose_once old.faults new.faults r.faulty
  refused_cause (BadSegment block) all r = (
    rose_more old.reads (length r.before) new.reads r.reads,
    λ told. record { row = r.row; within = row_inside r.row r.before r.after all r.rows_are; place = r.place; bad = r.bad told },
  )
  refused_cause Memory all r = tt

module _ {S : Type 0} (tells : Type 0) (bytes : S → List ℕ) (plan : PatchPlan S) (first size : ℕ) (old new : Standing) where
  -- the survivors are rows of the segment
  pub survivors_inside : IsPlan plan → All (λ row. row < length (source_for bytes plan).items) (survivors_in plan first size)
  survivors_inside w =
      let P : ℕ → Type 0 = λ row. row < length (source_for bytes plan).items in
      All-take P size (drop first plan.survivors.items)
      (All-drop P first plan.survivors.items
      (subst (λ (n : ℕ). All (λ row. row < n) plan.survivors.items) (source_count bytes (segment_in plan)) w.survivors))

  pub patched_gone : {T : Type 0} (result : Result T WorkRefused) → IsPatched tells bytes plan first size old new result → HasGone (counts_at old) (counts_at new)
  patched_gone (Ok x) is = record {
    reads = (let up = reads_later (length (survivors_in plan first size)) old.reads in let made = is.patched.reads in omega arith);
    faults = (let calm = is.patched.calm in omega arith);
  }
  patched_gone (Err why) is = refused_gone tells (source_for bytes plan) plan.params (survivors_in plan first size) old new why is.refused

  pub patched_cause : {T : Type 0} (result : Result T WorkRefused) → IsPlan plan → IsPatched tells bytes plan first size old new result → IfErr result (IsCause tells (source_for bytes plan) plan.params (counts_at old) (counts_at new))
  patched_cause result w is =
      IfErr-weaker result _ _ (λ why. refused_cause tells (source_for bytes plan) plan.params (survivors_in plan first size) old new why (survivors_inside w)) is.refused
