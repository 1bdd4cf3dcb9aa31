-- What an index gives back when it is closed.
use Rattle.std.specs.Prelude.{◌≡◌, ℕ, Bool, List, Some}
use Rattle.std.specs.Bool.{MatchBool}
use Rattle.ann_fault.specs.Counts.{Rose}
use Rattle.ann_vault.specs.Held.{Holding}
use Rattle.ann_stock.specs.Stock.{StockView, parts_in}
use Rattle.ann_ledger.specs.Clearing.{IsClearing}
use Rattle.ann_index.specs.Index.{KeptView}

-- The retired segments that nobody else holds were removed, and the vault and all eyes come out; a removal has failed only
-- where the vault's count of faults rose.
pub record HasClosed {F V E S : Type 0} (tells : Type 0) (held : V → Holding) (faults : V → ℕ) (kept : KeptView F V E S) (vault : V) (eyes : List E) (removed : Bool) : Type 0 where
  pub after : StockView V E S
  pub cleared : IsClearing tells held faults kept.journal.log kept.stock after removed
  pub parts : parts_in after.tools ≡ Some (vault, eyes)
  pub before : V
  pub had : parts_in kept.stock.tools ≡ Some (before, eyes)
  pub cause : MatchBool removed (faults vault ≡ faults before) (Rose (faults before) (faults vault))
