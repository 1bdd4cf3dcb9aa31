-- What an index is of: a list of entries, of which its view shows a part.
use Rattle.std.specs.Prelude.{◌≢◌, ℕ, Bool, false, List, length}
use Rattle.ann_types.specs.Lists.{BasedList, BeginsWith}
use Rattle.ann_disk.specs.declared.file.LogFile.{Ghosts}
use Rattle.ann_vault.specs.Held.{Holding}
use Rattle.ann_beam.specs.Ranking.{RankingView}
use Rattle.ann_view.specs.View.{IndexView}
use Rattle.ann_journal.specs.Journal.{JournalView}
use Rattle.ann_showing.specs.Showing.{Follows}
use Rattle.ann_stock.specs.Stock.{StockView, ToolsView, AtHand, GivenBack, Out}
use Rattle.ann_ledger.specs.Ledger.{IsLedgerOf}

-- the journal, what the index merges by, and the view
pub record KeptView (F V E S : Type 0) : Type 0 where
  pub journal : JournalView F S
  pub stock : StockView V E S
  pub view : IndexView S

abbrev pub kept_of : {F V E S : Type 0} → JournalView F S → StockView V E S → IndexView S → KeptView F V E S
kept_of journal stock view = record { journal = journal; stock = stock; view = view }

-- beside these, the result and the page of the desk, and the eye of the searches
pub record HolderView (F V E S : Type 0) : Type 0 where
  pub kept : KeptView F V E S
  pub result : RankingView
  pub page : List ℕ
  pub eye : E

-- how many eyes there are to merge by
abbrev pub eye_count : {V E S : Type 0} → ToolsView V E S → ℕ
eye_count (AtHand vault eyes) = length eyes
eye_count (GivenBack job) = length job.eyes
eye_count Out = 0

-- `tells` and `bytes` are of a seal, `held` tells what a vault holds. Where the place is sound, the log's files and the seals
-- tell what is written there, and the vault holds what it must.
module _ {F V E S : Type 0} (D : Ghosts F) (tells : Type 0) (bytes : S → List ℕ) (held : V → Holding) (sound : Bool) (h : BasedList) where
  -- An index is of a list, of which its view shows this part; and no job of a merge is out.
  pub record IsIndexOf (shown : BasedList) (kept : KeptView F V E S) : Type 0 where
    pub follows : Follows D bytes sound h shown kept.journal kept.view
    pub ledger : IsLedgerOf D tells bytes held sound h kept.journal kept.stock
    pub in_hand : kept.stock.tools ≢ Out

  -- Its view shows this part, or more.
  pub record IsIndexFrom (shown : BasedList) (kept : KeptView F V E S) : Type 0 where
    pub later : BasedList
    pub index : IsIndexOf later kept
    pub on : BeginsWith later shown

-- What is true of every index, whatever the place: it is of some list.
abbrev pub IsSomeIndex : {F V E S : Type 0} → Ghosts F → Type 0 → (S → List ℕ) → (V → Holding) → KeptView F V E S → Type 0
IsSomeIndex D tells bytes held kept = (h : BasedList) × (shown : BasedList) × IsIndexOf D tells bytes held false h shown kept
