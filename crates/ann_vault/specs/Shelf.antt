-- What a vault in memory keeps.
use Rattle.std.specs.Prelude.{ℕ, List, map}
use Rattle.std.specs.FinMap.{from_entries}
use Rattle.ann_vault.specs.Held.{Holding}
use Rattle.ann_vault.specs.Seal.{seal_bytes}
use Rattle.ann_vault.specs.declared.shelf.MemorySeal.{MemorySeal}
use Rattle.ann_vault.specs.declared.shelf.Shelf.{Shelf}

-- a number, and the bytes of the seal that is kept for it
abbrev pub shown : ℕ × MemorySeal → ℕ × List ℕ
shown entry = (entry.0, seal_bytes entry.1)

abbrev pub shelf_held : Shelf → Holding
shelf_held shelf = from_entries (map shown shelf.sealed.entries)
