-- How the counts go where a piece of a segment is loaded.
use Rattle.std.proofs.Common.{ℕ, ◌+◌, ◌<◌, List, length, ap, ◌∙◌, arith}
use Rattle.std.specs.Prelude.{Result, Ok, Err, OnOk, IfErr}
use Rattle.std.proofs.lemmas.Result.{IfErr-weaker}
use Rattle.ann_types.specs.declared.params.Params.{Params}
use Rattle.ann_fault.proofs.Counts.{next_later}
use Rattle.ann_segment.specs.Segment.{SegmentView}
use Rattle.ann_segment.specs.Rows.{judged}
use Rattle.ann_mdelete.specs.Loaded.{LoadedView, piece_rows}
use Rattle.ann_mdelete.specs.Refusals.{Counts, HasLoaded, HasRead, IsUnloaded}
use Rattle.ann_mdelete.specs.declared.refused.WorkRefused.{WorkRefused}
use Rattle.ann_mdelete.specs.declared.refused.WorkRefused.TheVariants.{Disk, BadSegment, Memory}
use Rattle.ann_mdelete.proofs.Held.{page_block}
use Rattle.ann_mpatch.specs.Source.{source_in}
use Rattle.ann_mcause.specs.Causes.{HasGone, IsCause}
use Rattle.ann_mcause.proofs.Counted.{reads_later, rose_once}

-- one read
pub read_gone : (old new : Counts) → HasRead old new → HasGone old new
read_gone old new r = record {
  reads = (let up = next_later old.reads in let is = r.read in omega arith);
  faults = (let is = r.calm in omega arith);
}

module _ {S : Type 0} (tells : Type 0) (bytes : S → List ℕ) (segment : SegmentView S) (params : Params) (first : ℕ) where
  -- a refusal
  pub unloaded_gone : (page : List ℕ) (old new : Counts) (why : WorkRefused) → IsUnloaded tells bytes segment params first page old new why → HasGone old new
  unloaded_gone page old new Disk r = record {
    reads = (let is = r.unread in omega arith);
    faults = (let up = next_later old.faults in let is = r.faulty in omega arith);
  }
  unloaded_gone page old new (BadSegment block) r = read_gone old new r.counted
  unloaded_gone page old new Memory r = record {
    reads = (let up = reads_later r.reads.0 old.reads in let is = r.reads.2 in omega arith);
    faults = (let is = r.calm in omega arith);
  }

  -- has its cause; told, the bad block is outside the format
  pub unloaded_cause : (page : List ℕ) (old new : Counts) (why : WorkRefused) → IsUnloaded tells bytes segment params first page old new why → IsCause tells (source_in bytes segment) params old new why
  unloaded_cause page old new Disk r = rose_once old.faults new.faults r.faulty
  unloaded_cause page old new (BadSegment block) r =
      let at = r.row.at in
      let within : at < piece_rows (length segment.items) first = r.row.within in (
        rose_once old.reads new.reads r.counted.read,
        λ told. record {
          row = first + at;
          within = omega arith;
          place = r.row.place;
          bad = λ sound. r.row.bad (ap (λ (t : List ℕ). judged segment params t (first + at)) (page_block segment (bytes segment.seal) page first at within (r.told told)) ∙ sound);
        },
      )
  unloaded_cause page old new Memory r = tt

  -- either way
  pub load_gone : {T : Type 0} (piece : LoadedView) (old new : Counts) (result : Result T WorkRefused) → OnOk result (HasLoaded tells bytes segment params first piece old new) → IfErr result (IsUnloaded tells bytes segment params first piece.page old new) → HasGone old new
  load_gone piece old new (Ok x) loaded refused = read_gone old new loaded.counted
  load_gone piece old new (Err why) loaded refused = unloaded_gone piece.page old new why refused

  pub load_cause : {T : Type 0} (page : List ℕ) (old new : Counts) (result : Result T WorkRefused) → IfErr result (IsUnloaded tells bytes segment params first page old new) → IfErr result (IsCause tells (source_in bytes segment) params old new)
  load_cause page old new result refused = IfErr-weaker result _ _ (unloaded_cause page old new) refused
