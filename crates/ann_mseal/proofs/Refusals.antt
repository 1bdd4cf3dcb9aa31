-- How the end of a merge may be refused.
use Rattle.std.proofs.Common.{ℕ, ◌≤◌, inl, inr}
use Rattle.ann_mcause.proofs.Counted.{rose_behind}
use Rattle.ann_mdelete.specs.declared.refused.WorkRefused.{WorkRefused}
use Rattle.ann_mdelete.specs.declared.refused.WorkRefused.TheVariants.{Disk, BadSegment, Memory}
use Rattle.ann_mseal.specs.Ends.{IsUnsealed}

-- what the eyes were the cause of
pub eyes_refused : (caused : WorkRefused → Type 0) (before now : ℕ) (why : WorkRefused) → caused why → IsUnsealed caused before now why
eyes_refused caused before now Disk cause = inr cause
eyes_refused caused before now (BadSegment block) cause = cause
eyes_refused caused before now Memory cause = tt

-- behind other work of the eyes, and other calls of the vault
pub unsealed_behind : (caused all : WorkRefused → Type 0) (first before now : ℕ) (why : WorkRefused) → ((other : WorkRefused) → caused other → all other) → first ≤ before → IsUnsealed caused before now why → IsUnsealed all first now why
unsealed_behind caused all first before now Disk behind later (inl rose) = inl (rose_behind first before now later rose)
unsealed_behind caused all first before now Disk behind later (inr cause) = inr (behind Disk cause)
unsealed_behind caused all first before now (BadSegment block) behind later cause = behind (BadSegment block) cause
unsealed_behind caused all first before now Memory behind later cause = tt
