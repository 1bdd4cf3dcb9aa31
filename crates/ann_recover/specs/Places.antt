-- A place that opens again with every acknowledged update: a log, and a vault that holds what its list names.
use Rattle.std.specs.Prelude.{◌≡◌, ℕ, List}
use Rattle.ann_types.specs.Graph.{Graph}
use Rattle.ann_types.specs.Legal.{IsLegal}
use Rattle.ann_types.specs.declared.params.Params.{Params}
use Rattle.ann_disk.specs.declared.file.LogFile.{Ghosts}
use Rattle.ann_log.specs.Pairs.{EachPair}
use Rattle.ann_log.specs.Text.{Held, StandsFor}
use Rattle.ann_log.specs.declared.files.Files.{Files}
use Rattle.ann_pq.specs.Codebook.{CodebookView}
use Rattle.ann_vault.specs.Held.{Holding}
use Rattle.ann_state.specs.List.{list_on}
use Rattle.ann_state.specs.State.{index_with, AreKept}

-- what a log holds is a legal list over a graph, and the vault holds what it names
pub record IsKeptList (vault : Holding) (was : Held) : Type 0 where
  pub graph : Graph
  pub legal : IsLegal (index_with was.params was.book.book) (list_on was.base graph was.entries)
  pub kept : AreKept vault was.params was.book.book (list_on was.base graph was.entries)

-- two files stand for such a list of this index
pub record StandKept (vault : Holding) (params : Params) (book : CodebookView) (first second : List ℕ) : Type 0 where
  pub was : Held
  pub stands : StandsFor was first second
  pub index : (was.params ≡ params) × (was.book ≡ book)
  pub list : IsKeptList vault was

-- A sound place: what a read of the two files gives, and each image of them, stands for a list of one index, and the vault
-- holds what each of these lists names.
pub record IsSoundPlace {F : Type 0} (D : Ghosts F) (files : Files F) (vault : Holding) (params : Params) (book : CodebookView) : Type 0 where
  pub read : StandKept vault params book (D.seen files.first) (D.seen files.second)
  pub images : EachPair D.unsynced (StandKept vault params book) files
