-- What an eye in memory has done.
use Rattle.std.specs.Prelude.{ℕ}
use Rattle.ann_fault.specs.declared.calls.Calls.{Calls}
use Rattle.ann_vault.specs.declared.memory_eye.MemoryEye.{MemoryEye}

-- its calls, and those that fail
abbrev pub eye_calls : MemoryEye → Calls
eye_calls eye = eye.calls

abbrev pub eye_faults : MemoryEye → ℕ
eye_faults eye = eye.faults.count

abbrev pub eye_reads : MemoryEye → ℕ
eye_reads eye = eye.reads
