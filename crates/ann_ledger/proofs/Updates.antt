-- A ledger after an update.
use Rattle.std.proofs.Common.{◌≡◌, ℕ, Bool, List, refl, sym, ap, subst, ◌∙◌}
use Rattle.std.specs.Prelude.{IsTrue, Result, Ok, Err, MatchResult}
use Rattle.ann_types.specs.Legal.{IsLegal}
use Rattle.ann_types.specs.Index.{Index}
use Rattle.ann_types.specs.Lists.{BasedList, with_entries}
use Rattle.ann_types.specs.declared.change.Change.{Change}
use Rattle.ann_types.specs.declared.entry.Entry.{Entry}
use Rattle.ann_disk.specs.declared.file.LogFile.{Ghosts}
use Rattle.ann_log.specs.LogView.{LogView}
use Rattle.ann_vault.specs.Held.{Holding}
use Rattle.ann_journal.specs.Journal.{JournalView, IsJournalOf, index_in}
use Rattle.ann_journal.specs.Logged.{HasLogged, HasNotLogged, IsUntouched, StaysSafe}
use Rattle.ann_journal.specs.Safe.{IsSafe}
use Rattle.ann_journal.specs.Updated.{IsUpdate, entries_by}
use Rattle.ann_journal.specs.declared.refused.Receipt.{Receipt}
use Rattle.ann_journal.specs.declared.refused.UpdateRefused.{UpdateRefused}
use Rattle.ann_journal.specs.declared.refused.UpdateRefused.TheVariants.{Stopped, Dimension, Full, Present, Absent, Memory, LogFault, MemoryLogged}
use Rattle.ann_journal.proofs.Updating.{no_end}
use Rattle.ann_stock.specs.Stock.{StockView}
use Rattle.ann_ledger.specs.Ledger.{IsLedgerOf}
use Rattle.ann_ledger.proofs.Growing.{GoesOn, ledger_on, same_index, stays, grows}

-- a refusal leaves a journal of the list
pub record IsLeft {F S : Type 0} (D : Ghosts F) (h : BasedList) (old new : JournalView F S) : Type 0 where
  pub same : index_in new.log ≡ index_in old.log
  pub journal_is : IsJournalOf D h new

module _ {F S : Type 0} (D : Ghosts F) (h : BasedList) (old new : JournalView F S) where
  pub left_untouched : IsUntouched D h old new → IsLeft D h old new
  left_untouched w = record { same = ap (λ (l : LogView F). index_in l) w.log; journal_is = w.journal_is }

  pub left_unlogged : HasNotLogged D h old new → IsLeft D h old new
  left_unlogged w = record { same = same_index old.log new.log w.same_log; journal_is = w.journal_is }

  left_refused : (by : ℕ) (changes : List Change) (why : UpdateRefused) → IsUpdate D h by changes old new (Err why) → IsLeft D h old new
  left_refused by changes (Stopped at) w = left_untouched w.untouched
  left_refused by changes (Dimension index got want at) w = left_untouched w.untouched
  left_refused by changes (Full index at) w = left_untouched w.untouched
  left_refused by changes (Present index tag at) w = left_untouched w.untouched
  left_refused by changes (Absent index tag at) w = left_untouched w.untouched
  left_refused by changes Memory w = left_untouched w.untouched
  left_refused by changes LogFault w = left_unlogged w.unlogged
  left_refused by changes (MemoryLogged receipt) w = absurd w

module _ {F V E S : Type 0} (D : Ghosts F) (tells : Type 0) (bytes : S → List ℕ) (held : V → Holding) (sound : Bool) (h : BasedList) (old new : JournalView F S) (stock : StockView V E S) where
  pub ledger_left : IsLeft D h old new → (IsTrue sound → (v : Holding) → IsSafe D v old.log h → IsSafe D v new.log h) → IsLedgerOf D tells bytes held sound h old stock → IsLedgerOf D tells bytes held sound h new stock
  ledger_left w safe is = ledger_on D tells bytes held sound h h old new stock (stays D bytes sound h old.log new.log w.same safe) w.journal_is is

  pub ledger_updated : (by : ℕ) (changes : List Change) (result : Result Receipt UpdateRefused) → IsUpdate D h by changes old new result → (IsTrue sound → (v : Holding) → IsSafe D v old.log h → StaysSafe D v new.log h (entries_by by changes) result) → IsLedgerOf D tells bytes held sound h old stock → MatchResult result (λ receipt. IsLedgerOf D tells bytes held sound (with_entries h (entries_by by changes)) new stock) (λ why. IsLedgerOf D tells bytes held sound h new stock)
  ledger_updated by changes (Ok receipt) w safe is =
      let es : List Entry = entries_by by changes in
      let same : index_in new.log ≡ index_in old.log = same_index old.log new.log w.logged.same_log in
      ledger_on D tells bytes held sound h (with_entries h es) old new stock
      (grows D bytes sound h es old.log new.log same (subst (λ (i : Index). IsLegal i (with_entries h es)) same w.logged.journal_is.legal) (no_end by changes) safe)
      w.logged.journal_is is
  ledger_updated by changes (Err why) w safe is = ledger_left (left_refused D h old new by changes why w) safe is
