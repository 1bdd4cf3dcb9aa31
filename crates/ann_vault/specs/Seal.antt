-- What a seal of a vault in memory tells.
use Rattle.std.specs.Prelude.{ℕ, List}
use Rattle.ann_vault.specs.declared.shelf.MemorySeal.{MemorySeal}

abbrev pub seal_number : MemorySeal → ℕ
seal_number seal = seal.number

abbrev pub seal_bytes : MemorySeal → List ℕ
seal_bytes seal = seal.bytes.value.items
