-- Counts of reads and of faults, from call to call.
use Rattle.std.proofs.Common.{◌≡◌, ℕ, zero, suc, ◌+◌, List, refl, sym, ap, ◌∙◌, subst, arith}
use Rattle.std.specs.Prelude.{Some, Result, Ok, Err}
use Rattle.std.specs.Result.{IsErrAnd}
use Rattle.ann_types.specs.declared.params.Params.{Params}
use Rattle.ann_fault.specs.Counts.{next_count}
use Rattle.ann_segment.specs.Segment.{SegmentView}
use Rattle.ann_vault.specs.Reads.{more_reads}
use Rattle.ann_beam.specs.Quest.{Standing}
use Rattle.ann_beam.specs.Refusals.{HasRead, HasGone, IsRefusedFor}
use Rattle.ann_beam.specs.declared.refused.SearchRefused.{SearchRefused}
use Rattle.ann_beam.specs.declared.refused.SearchRefused.TheVariants.{Dimension, Disk, BadSegment, Shut}

pub reads_more : (n m count : ℕ) → more_reads n (more_reads m count) ≡ more_reads (n + m) count
reads_more zero m count = ap (λ (k : ℕ). more_reads k count) (let e : m ≡ 0 + m = omega arith in e)
reads_more (suc n) m count = ap next_count (reads_more n m count) ∙ ap (λ (k : ℕ). more_reads k count) (let e : suc (n + m) ≡ suc n + m = omega arith in e)

pub read_none : (now : Standing) → HasRead now now
read_none now = record { reads = (0, refl); calm = refl }

pub read_then : (old now new : Standing) → HasRead old now → HasRead now new → HasRead old new
read_then old now new a b = record {
  reads = (b.reads.0 + a.reads.0, b.reads.1 ∙ ap (more_reads b.reads.0) a.reads.1 ∙ reads_more b.reads.0 a.reads.0 old.reads);
  calm = b.calm ∙ a.calm;
}

-- a refusal behind reads that went well
pub refused_then : {S : Type 0} (tells : Type 0) (bytes : S → List ℕ) (segment : SegmentView S) (params : Params) (old now new : Standing) (why : SearchRefused) → HasRead old now → IsRefusedFor tells bytes (Some segment) params now new why → IsRefusedFor tells bytes (Some segment) params old new why
refused_then tells bytes segment params old now new (Dimension got want) a r = r
refused_then tells bytes segment params old now new Disk a r = record {
  reads = (r.reads.0 + a.reads.0, r.reads.1 ∙ ap (more_reads r.reads.0) a.reads.1 ∙ reads_more r.reads.0 a.reads.0 old.reads);
  faulty = r.faulty ∙ ap next_count a.calm;
}
refused_then tells bytes segment params old now new (BadSegment block) a r = record {
  bad = r.bad;
  told = r.told;
  reads = (r.reads.0 + a.reads.0, r.reads.1 ∙ ap (more_reads (suc r.reads.0)) a.reads.1 ∙ ap next_count (reads_more r.reads.0 a.reads.0 old.reads));
  calm = r.calm ∙ a.calm;
}
refused_then tells bytes segment params old now new Shut a r = r

-- ---- results

-- a refusal that is handed on
pub gone_as : {S T : Type 0} (tells : Type 0) (bytes : S → List ℕ) (segment : SegmentView S) (params : Params) (old new : Standing) (result : Result T SearchRefused) (why : SearchRefused) → IsErrAnd result (λ e. e ≡ why) → IsRefusedFor tells bytes (Some segment) params old new why → HasGone tells bytes segment params old new result
gone_as tells bytes segment params old new (Ok x) why is refused = absurd is
gone_as tells bytes segment params old new (Err e) why is refused = record { read = tt; refused = subst (IsRefusedFor tells bytes (Some segment) params old new) (sym is) refused }

-- and behind reads that went well
pub gone_then : {S T : Type 0} (tells : Type 0) (bytes : S → List ℕ) (segment : SegmentView S) (params : Params) (old now new : Standing) (result : Result T SearchRefused) → HasRead old now → HasGone tells bytes segment params now new result → HasGone tells bytes segment params old new result
gone_then tells bytes segment params old now new (Ok x) a gone = record { read = read_then old now new a gone.read; refused = tt }
gone_then tells bytes segment params old now new (Err why) a gone = record { read = tt; refused = refused_then tells bytes segment params old now new why a gone.refused }
