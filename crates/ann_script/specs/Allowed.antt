-- What the grammar lets into a script.
use Rattle.std.specs.Prelude.{◌≡◌, ℕ, ◌+◌, ◌<◌, ◌≤◌, ◌^◌, true, List, length}
use Rattle.std.specs.List.{AllByRecursion}
use Rattle.ann_script.specs.Grammar.{has}
use Rattle.ann_script.specs.Order.{Order, Apply, Find, Merge, Fill}
use Rattle.ann_script.specs.Script.{Client, limit}
use Rattle.ann_script.specs.declared.verbs.Verbs.{Verbs}

-- an update has 1 to 64 changes, a search wants points and a vector within the limits, and the tags of a fill end below 2^64
abbrev pub IsWithin : Order → Type 0
IsWithin (Apply changes batch) = (1 ≤ length changes) × (length changes ≤ 64)
IsWithin (Find k l vector) = (1 ≤ k) × (k ≤ l) × (l ≤ 1000) × (1 ≤ length vector) × (length vector ≤ 1024)
IsWithin Merge = Unit {0}
IsWithin (Fill seed count first) = (seed < 2 ^ 31) × (1 ≤ count) × (count ≤ 1000000) × (first + count ≤ 2 ^ 64)

-- a command within the limits, with one of these verbs
pub record IsOrderOf (verbs : Verbs) (order : Order) : Type 0 where
  pub allowed : has verbs order ≡ true
  pub within : IsWithin order

-- a client of such commands, at most so many
pub record IsClientOf (verbs : Verbs) (most : ℕ) (client : Client) : Type 0 where
  pub orders : AllByRecursion (IsOrderOf verbs) client.orders
  pub short : length client.orders ≤ most

-- a script of such clients; each line has one command at most, and there are no more lines than bytes, and one
abbrev pub IsScriptOf : Verbs → List Client → Type 0
IsScriptOf verbs script = AllByRecursion (IsClientOf verbs (limit + 1)) script
