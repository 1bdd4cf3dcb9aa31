-- How an eye's counts go, and causes, from call to call.
use Rattle.std.proofs.Common.{◌≡◌, ℕ, zero, suc, ◌≤◌, arith}
use Rattle.ann_types.specs.declared.params.Params.{Params}
use Rattle.ann_fault.specs.Counts.{Rose, next_count}
use Rattle.ann_fault.proofs.Counts.{next_later}
use Rattle.ann_vault.specs.Reads.{more_reads}
use Rattle.ann_mdelete.specs.Refusals.{Counts}
use Rattle.ann_mdelete.specs.declared.refused.WorkRefused.{WorkRefused}
use Rattle.ann_mdelete.specs.declared.refused.WorkRefused.TheVariants.{Disk, BadSegment, Memory}
use Rattle.ann_mpatch.specs.Source.{Source}
use Rattle.ann_mcause.specs.Causes.{HasGone, IsCause}

-- ---- counts

next_rises : (a b : ℕ) → a ≤ b → next_count a ≤ next_count b
next_rises a b less = grind arith

-- a rise behind other calls is a rise
pub rose_behind : (a b c : ℕ) → a ≤ b → Rose b c → Rose a c
rose_behind a b c less rose = let up = next_rises a b less in omega arith

-- a rise before other calls is a rise
pub rose_before : (a b c : ℕ) → Rose a b → b ≤ c → Rose a c
rose_before a b c rose less = omega arith

-- a count that was raised rose, and never falls
pub rose_once : (a b : ℕ) → b ≡ next_count a → Rose a b
rose_once a b once = omega arith

pub reads_later : (n count : ℕ) → count ≤ more_reads n count
reads_later zero count = omega arith
reads_later (suc n) count = let less = reads_later n count in let up = next_later (more_reads n count) in omega arith

-- ---- how the counts of an eye go

pub stays : (c : Counts) → HasGone c c
stays c = record { reads = omega arith; faults = omega arith }

pub goes_on : (a b c : Counts) → HasGone a b → HasGone b c → HasGone a c
goes_on a b c first second = record {
  reads = (let one = first.reads in let two = second.reads in omega arith);
  faults = (let one = first.faults in let two = second.faults in omega arith);
}

-- ---- causes

-- a cause behind other work is a cause of all of it
pub caused : (tells : Type 0) (source : Source) (params : Params) (a b c : Counts) (why : WorkRefused) → HasGone a b → IsCause tells source params b c why → IsCause tells source params a c why
caused tells source params a b c Disk gone cause = rose_behind a.faults b.faults c.faults gone.faults cause
caused tells source params a b c (BadSegment block) gone cause = (rose_behind a.reads b.reads c.reads gone.reads cause.0, cause.1)
caused tells source params a b c Memory gone cause = tt

-- and so is one before other work
pub caused_before : (tells : Type 0) (source : Source) (params : Params) (a b c : Counts) (why : WorkRefused) → IsCause tells source params a b why → HasGone b c → IsCause tells source params a c why
caused_before tells source params a b c Disk cause gone = rose_before a.faults b.faults c.faults cause gone.faults
caused_before tells source params a b c (BadSegment block) cause gone = (rose_before a.reads b.reads c.reads cause.0 gone.reads, cause.1)
caused_before tells source params a b c Memory cause gone = tt

-- want of memory may come at any time
pub memory : (tells : Type 0) (source : Source) (params : Params) (a b : Counts) → IsCause tells source params a b Memory
memory tells source params a b = tt
