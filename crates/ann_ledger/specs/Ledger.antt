-- What a ledger is of: a list of entries, with what a vault holds for it.
use Rattle.std.specs.Prelude.{◌≡◌, ◌⊎◌, ◌<◌, ◌+◌, ◌*◌, ℕ, Bool, List, IsSome, IsTrue, All}
use Rattle.ann_types.specs.Fold.{fold_of}
use Rattle.ann_types.specs.Index.{Index}
use Rattle.ann_types.specs.Lists.{BasedList}
use Rattle.ann_disk.specs.declared.file.LogFile.{Ghosts}
use Rattle.ann_log.specs.LogView.{LogView}
use Rattle.ann_vault.specs.Held.{Holding}
use Rattle.ann_segment.specs.Segment.{SegmentView}
use Rattle.ann_mlaws.specs.Plan.{IsLti}
use Rattle.ann_merge.specs.Job.{JobView}
use Rattle.ann_mbegin.specs.Begun.{IsJobOf}
use Rattle.ann_kept.specs.Unnamed.{IsRetired}
use Rattle.ann_journal.specs.Journal.{JournalView, IsJournalOf, index_in}
use Rattle.ann_journal.specs.Safe.{IsSafe}
use Rattle.ann_stock.specs.Stock.{StockView, ToolsView, AtHand, GivenBack, Out}

-- a retired segment is the base's, which stays in the vault, or no list names it any more
abbrev pub MayGo : Index → BasedList → ℕ → Type 0
MayGo index h number = (number ≡ h.base.segment) ⊎ IsRetired index h number

-- `tells` and `bytes` are of a seal, `held` tells what a vault holds. Where the place is sound, the log's files and the seals
-- tell what is written there, and the vault holds what it must.
module _ {F V E S : Type 0} (D : Ghosts F) (tells : Type 0) (bytes : S → List ℕ) (held : V → Holding) (sound : Bool) where
  -- A job is that of the open Begin of a list. Where the place is sound it begins with the list's long-term graph, and its
  -- vault holds what each list names for which a crash may leave the log.
  pub record IsJobOn (log : LogView F) (h : BasedList) (job : JobView V E S) : Type 0 where
    pub of_begin : IsJobOf (index_in log) h job.order
    pub lti : IsTrue sound → IsLti bytes (index_in log) job.order.old (fold_of (index_in log) h).lti
    pub safe : IsTrue sound → IsSafe D (held job.vault) log h

  -- the vault at hand holds it, or the one of the job that was given back; while a job is out, a merge is open
  abbrev pub AreToolsFor : LogView F → BasedList → ToolsView V E S → Type 0
  AreToolsFor log h (AtHand vault eyes) = IsTrue sound → IsSafe D (held vault) log h
  AreToolsFor log h (GivenBack job) = IsJobOn log h job
  AreToolsFor log h Out = IsSome (fold_of (index_in log) h).begun

  pub record IsLedgerOf (h : BasedList) (journal : JournalView F S) (stock : StockView V E S) : Type 0 where
    pub told : IsTrue sound → D.tells × tells
    pub journal_is : IsJournalOf D h journal
    -- the base's segment has a lesser number than that of every merge behind it
    pub older : h.base.segment < 2 * h.base.position + 1
    pub tools : AreToolsFor journal.log h stock.tools
    pub retired : All (λ (s : SegmentView S). MayGo (index_in journal.log) h s.number) stock.retired
