-- When retired segments are removed.
use Rattle.std.specs.Prelude.{◌≡◌, ℕ, Bool, true, false}
use Rattle.ann_log.specs.LogView.{LogView}
use Rattle.ann_vault.specs.Held.{Holding}
use Rattle.ann_stock.specs.Cleared.{HasCleared}
use Rattle.ann_stock.specs.Stock.{StockView}

-- Where the log is open, the retired segments are cleared, save that of the log's base; and else nothing changes.
module _ {F V E S : Type 0} (tells : Type 0) (held : V → Holding) (faults : V → ℕ) where
  abbrev pub IsClearingBy : Bool → LogView F → StockView V E S → StockView V E S → Bool → Type 0
  IsClearingBy true log old new calm = (new ≡ old) × (calm ≡ true)
  IsClearingBy false log old new calm = HasCleared tells held faults log.base.segment old new calm

  abbrev pub IsClearing : LogView F → StockView V E S → StockView V E S → Bool → Type 0
  IsClearing log old new calm = IsClearingBy log.is_closed log old new calm
