-- What a journal is of: the list of its log, and what it knows of it.
use Rattle.ann_types.specs.Index.{Index}
use Rattle.ann_types.specs.Legal.{IsLegal}
use Rattle.ann_types.specs.Lists.{BasedList}
use Rattle.ann_account.specs.Account.{AccountView, IsAccountOf}
use Rattle.ann_disk.specs.declared.file.LogFile.{Ghosts}
use Rattle.ann_log.specs.LogView.{LogView}
use Rattle.ann_recover.specs.Recovered.{IsListOf}

-- the log, and what is known of its list
pub record JournalView (F S : Type 0) : Type 0 where
  pub log : LogView F
  pub account : AccountView S

-- the index of a log
abbrev pub index_in : {F : Type 0} → LogView F → Index
index_in log = record { params = log.params; book = log.book.book }

-- A journal is of a list: it is the log's, it is legal, and what is known is known of it.
pub record IsJournalOf {F S : Type 0} (D : Ghosts F) (h : BasedList) (journal : JournalView F S) : Type 0 where
  pub legal : IsLegal (index_in journal.log) h
  pub list : IsListOf D journal.log h
  pub account_is : IsAccountOf (index_in journal.log) h journal.account
