-- What a file in memory holds, and which of its calls fail.
use Rattle.std.specs.Prelude.{◌≡◌, ℕ, List, [], map, Result}
use Rattle.ann_fault.specs.Counts.{HasCause}
use Rattle.ann_fault.specs.Calls as calls
use Rattle.ann_disk.specs.File.{IsUntouched}
use Rattle.ann_disk.specs.Image.{Unsynced}
use Rattle.ann_disk.specs.Stretch.{unsynced_of}
use Rattle.ann_disk.specs.declared.memory.MemoryFile.{MemoryFile}

abbrev pub memory_bytes : MemoryFile → List ℕ
memory_bytes file = file.bytes.items

abbrev pub memory_unsynced : MemoryFile → Unsynced
memory_unsynced file = unsynced_of file.stretch

abbrev pub memory_past : MemoryFile → List Unsynced
memory_past file = map unsynced_of file.past.items

abbrev pub memory_faults : MemoryFile → ℕ
memory_faults file = file.faults.count

-- no call was made yet, and those with the listed numbers, from 1, will fail
pub record IsFresh (listed : List ℕ) (file : MemoryFile) : Type 0 where
  pub past : memory_past file ≡ []
  pub calls : calls.IsFresh listed file.calls
  pub faults : memory_faults file ≡ 0

-- the next call is made to fail
abbrev pub FailsNext : MemoryFile → Type 0
FailsNext file = calls.FailsNext file.calls

-- one call more was counted
abbrev pub CountsCall : MemoryFile → MemoryFile → Type 0
CountsCall old new = calls.CountsCall old.calls new.calls

-- a call was counted, and a fault where it failed
pub record IsCounted {T E : Type 0} (old new : MemoryFile) (result : Result T E) : Type 0 where
  pub counts : CountsCall old new
  pub cause : HasCause (memory_faults old) (memory_faults new) result

-- the bytes, the images and the clock are as they were
abbrev pub HoldsSame : MemoryFile → MemoryFile → Type 0
HoldsSame old new = IsUntouched memory_bytes memory_unsynced memory_past old new
