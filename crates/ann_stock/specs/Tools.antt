-- What is seen of the vault and the eyes.
use Rattle.ann_stock.specs.Stock.{ToolsView, AtHand, GivenBack, Out}
use Rattle.ann_stock.specs.declared.tools.Tools.{Tools}
use Rattle.ann_stock.specs.declared.tools.Tools.TheVariants.{Held, Back, Away}

abbrev pub tools_of : {V E S D : Type 0} → Tools V E S D → ToolsView V E S
tools_of (Held vault eyes) = AtHand vault eyes.items
tools_of (Back job) = GivenBack job
tools_of Away = Out
