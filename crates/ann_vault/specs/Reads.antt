-- How a count of reads rises.
use Rattle.std.specs.Prelude.{ℕ, zero, suc}
use Rattle.ann_fault.specs.Counts.{next_count}

-- so many reads more; a count stays at its last value
abbrev pub more_reads : ℕ → ℕ → ℕ
more_reads zero count = count
more_reads (suc n) count = next_count (more_reads n count)
