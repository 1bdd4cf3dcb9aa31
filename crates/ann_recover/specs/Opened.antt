-- What opening the index of a sound place gives.
use Rattle.std.specs.Prelude.{◌≡◌, ℕ, List, Option}
use Rattle.ann_types.specs.declared.params.Params.{Params}
use Rattle.ann_disk.specs.declared.file.LogFile.{Ghosts}
use Rattle.ann_log.specs.LogView.{LogView}
use Rattle.ann_log.specs.declared.files.Files.{Files}
use Rattle.ann_pq.specs.Codebook.{CodebookView}
use Rattle.ann_tags.specs.Tags.{TagsView}
use Rattle.ann_vault.specs.Held.{Holding}
use Rattle.ann_view.specs.Holding.{HoldsGraph}
use Rattle.ann_view.specs.Stands.{lti_of}
use Rattle.ann_view.specs.View.{IndexView}
use Rattle.ann_state.specs.State.{AreKept}
use Rattle.ann_recover.specs.Recovered.{IsRecovered}

-- A sound place was opened as a sound index: the log is of the place's index, the view's segment holds the list's long-term
-- graph, and the vault still holds what the list names.
pub record IsSoundlyOpened {F S : Type 0} (D : Ghosts F) (tells : Type 0) (bytes : S → List ℕ) (held after : Holding) (files : Files F) (params : Params) (book : CodebookView) (log : LogView F) (view : IndexView S) (tags : TagsView) (begun : Option ℕ) : Type 0 where
  pub recovered : IsRecovered D tells bytes held after files log view tags begun
  pub index : (log.params ≡ params) × (log.book ≡ book)
  pub holds : HoldsGraph bytes view (lti_of view recovered.revived.h)
  pub kept : AreKept after log.params log.book.book recovered.revived.h
