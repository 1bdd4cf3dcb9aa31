-- A view that follows the journal of its index: what is logged and not shown yet waits.
use Rattle.std.specs.Prelude.{◌≡◌, ◌++◌, ℕ, Bool, false, List, IsTrue}
use Rattle.ann_types.specs.Lists.{BasedList}
use Rattle.ann_account.specs.Steps.{Lead, Bring}
use Rattle.ann_disk.specs.declared.file.LogFile.{Ghosts}
use Rattle.ann_log.specs.LogView.{LogView}
use Rattle.ann_named.specs.Named.{IsCurrent}
use Rattle.ann_journal.specs.Journal.{JournalView, IsJournalOf, index_in}
use Rattle.ann_view.specs.Holding.{HoldsGraph}
use Rattle.ann_view.specs.Stands.{StandsFor, lti_of}
use Rattle.ann_view.specs.View.{IndexView}
use Rattle.ann_view.specs.declared.op.Op.{Op}

-- A view shows a list of the journal's index: it stands for it, its segment is the list's current one, and where the place is
-- sound, that segment holds the list's long-term graph.
pub record Shows {F S : Type 0} (bytes : S → List ℕ) (sound : Bool) (log : LogView F) (shown : BasedList) (view : IndexView S) : Type 0 where
  pub index : (view.params ≡ log.params) × (view.book ≡ log.book)
  pub open_now : view.closed ≡ false
  pub stands : StandsFor view shown
  pub current : IsCurrent (index_in log) shown view.segment
  pub holds : IsTrue sound → HoldsGraph bytes view (lti_of view shown)

-- A journal is of a list, and a view shows a list from which what waits leads there.
pub record Follows {F S : Type 0} (D : Ghosts F) (bytes : S → List ℕ) (sound : Bool) (h shown : BasedList) (journal : JournalView F S) (view : IndexView S) : Type 0 where
  pub journal_is : IsJournalOf D h journal
  pub shows : Shows bytes sound journal.log shown view
  pub leads : Lead (index_in journal.log) shown h journal.account.waiting
  -- and where the place is sound, each End that waits brings the graph of its merge
  pub brings : IsTrue sound → Bring bytes (index_in journal.log) shown journal.account.waiting leads.entries

-- Some of what waited is shown, in order, and the rest waits; all else is as it was.
pub record HasShown {F S : Type 0} (old new : JournalView F S) : Type 0 where
  pub log : new.log ≡ old.log
  pub account : new.account ≡ record old.account { waiting = new.account.waiting }
  pub shown : List (Op S)
  pub rest : old.account.waiting ≡ shown ++ new.account.waiting
