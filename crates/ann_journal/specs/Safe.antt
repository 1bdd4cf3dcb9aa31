-- What a crash leaves of an index: a place that opens again with every acknowledged update.
use Rattle.ann_types.specs.Lists.{BasedList}
use Rattle.ann_disk.specs.declared.file.LogFile.{Ghosts}
use Rattle.ann_log.specs.LogView.{LogView, files_of}
use Rattle.ann_log.specs.Pairs.{EachPair}
use Rattle.ann_recover.specs.Places.{StandKept}
use Rattle.ann_state.specs.State.{AreKept}
use Rattle.ann_vault.specs.Held.{Holding}

-- A vault holds what a list names, and what is named by each list for which an image of the log stands.
pub record IsSafe {F : Type 0} (D : Ghosts F) (held : Holding) (log : LogView F) (h : BasedList) : Type 0 where
  pub list : AreKept held log.params log.book.book h
  pub images : EachPair D.unsynced (StandKept held log.params log.book) (files_of log)
