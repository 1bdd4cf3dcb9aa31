-- The parts of an index that was opened, as a ledger takes them.
use Rattle.std.specs.Prelude.{ℕ, Bool, List, IsTrue, Option}
use Rattle.ann_types.specs.Lists.{BasedList}
use Rattle.ann_disk.specs.declared.file.LogFile.{Ghosts}
use Rattle.ann_log.specs.LogView.{LogView}
use Rattle.ann_recover.specs.Recovered.{IsListOf, IsShown}
use Rattle.ann_state.specs.State.{AreKept}
use Rattle.ann_tags.specs.Tags.{TagsView}
use Rattle.ann_vault.specs.Held.{Holding}
use Rattle.ann_view.specs.Holding.{HoldsGraph}
use Rattle.ann_view.specs.Stands.{lti_of}
use Rattle.ann_view.specs.View.{IndexView}

-- They are of a list: it is the log's, and the view, the tags and the open Begin are of it. Where the place is sound, the view's
-- segment holds the list's long-term graph, and the vault what the list names.
pub record ArePartsOf {F S : Type 0} (D : Ghosts F) (tells : Type 0) (bytes : S → List ℕ) (sound : Bool) (h : BasedList) (log : LogView F) (held : Holding) (view : IndexView S) (tags : TagsView) (begun : Option ℕ) : Type 0 where
  pub told : IsTrue sound → D.tells × tells
  pub list : IsListOf D log h
  pub shown : IsShown log view tags begun h
  pub holds : IsTrue sound → HoldsGraph bytes view (lti_of view h)
  pub kept : IsTrue sound → AreKept held log.params log.book.book h
