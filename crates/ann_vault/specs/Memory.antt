-- What a vault in memory holds, and which of its drafts are current.
use Rattle.std.specs.Prelude.{◌≡◌, ℕ, ◌%◌, ◌==◌, List, Some, if◌then◌else◌}
use Rattle.std.specs.Ordering.{nat_cmp}
use Rattle.std.specs.FinMap.{remove}
use Rattle.std.specs.BTreeMap.{get}
use Rattle.ann_fault.specs.Counts.{next_count}
use Rattle.ann_fault.specs.declared.calls.Calls.{Calls}
use Rattle.ann_vault.specs.Held.{Holding}
use Rattle.ann_vault.specs.Shelf.{shelf_held}
use Rattle.ann_vault.specs.declared.memory.MemoryDraft.{MemoryDraft}
use Rattle.ann_vault.specs.declared.memory.MemoryVault.{MemoryVault}

abbrev pub draft_number : MemoryDraft → ℕ
draft_number draft = draft.number

abbrev pub draft_bytes : MemoryDraft → List ℕ
draft_bytes draft = draft.bytes.items

abbrev pub memory_held : MemoryVault → Holding
memory_held vault = shelf_held vault.shelf

-- the draft is the last that was begun of its number
abbrev pub is_last : MemoryVault → MemoryDraft → Type 0
is_last vault draft = get nat_cmp vault.begun draft.number ≡ Some draft.turn

-- its calls, and those that fail
abbrev pub vault_calls : MemoryVault → Calls
vault_calls vault = vault.calls

abbrev pub vault_faults : MemoryVault → ℕ
vault_faults vault = vault.faults.count

-- the next call has an even number
abbrev pub IsEven : Calls → Type 0
IsEven calls = next_count calls.made % 2 ≡ 0

-- what a removal leaves that is made to fail: it is done where the call's number is even
abbrev pub left_by_removal : Calls → ℕ → Holding → Holding
left_by_removal calls number held = if next_count calls.made % 2 == 0 then remove held number else held
