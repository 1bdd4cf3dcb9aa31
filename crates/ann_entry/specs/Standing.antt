-- What stands at a place of a list of bytes: an entry, a byte of no kind, or an entry that is cut off.
use Rattle.std.specs.Prelude.{◌≡◌, ℕ, ◌<◌, ◌≤◌, List, ◌++◌, length, get_or, drop}
use Rattle.ann_entry.specs.EntryBytes.{IsEntry, entry_bytes}
use Rattle.ann_types.specs.declared.entry.Entry.{Entry}

-- an entry stands at the place, and anything may follow it
pub record StandsAt (d : ℕ) (bytes : List ℕ) (at : ℕ) (entry : Entry) : Type 0 where
  pub fits : IsEntry d entry
  pub rest : List ℕ
  pub begins : drop at bytes ≡ entry_bytes entry ++ rest

-- a byte stands at the place, and no entry begins with it
abbrev pub IsOtherKind : List ℕ → ℕ → Type 0
IsOtherKind bytes at = (at < length bytes) × ((1 ≤ get_or bytes at 0) × (get_or bytes at 0 ≤ 5) → ⊥)

-- the bytes end within an entry: with some more bytes behind them an entry would stand at the place, and be their end
pub record EndsWithin (d : ℕ) (bytes : List ℕ) (at : ℕ) : Type 0 where
  pub entry : Entry
  pub fits : IsEntry d entry
  pub missing : List ℕ
  pub some : 0 < length missing
  pub front : drop at bytes ++ missing ≡ entry_bytes entry
