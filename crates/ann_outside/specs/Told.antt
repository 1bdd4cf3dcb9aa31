-- Whether an object tells its bytes.
use Rattle.std.specs.Prelude.{ℕ, ◌↔◌, List, Option, IsSome}

-- no call changes whether an object tells its bytes
abbrev pub TellsStill : Option (List ℕ) → Option (List ℕ) → Type 0
TellsStill old new = IsSome new ↔ IsSome old
