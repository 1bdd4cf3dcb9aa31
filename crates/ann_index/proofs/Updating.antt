-- What an update leaves, by what its steps leave.
use Rattle.std.proofs.Common.{◌≡◌, ◌∙◌, ℕ, Bool, false, List, refl, ap, subst, sym}
use Rattle.std.specs.Prelude.{None, Some, Result, Ok, Err}
use Rattle.std.proofs.lemmas.Bool.{false≢true}
use Rattle.ann_types.specs.Judge.{judge_all}
use Rattle.ann_types.specs.Lists.{BasedList, BeginsWith}
use Rattle.ann_types.specs.declared.change.Change.{Change}
use Rattle.ann_account.specs.Steps.{StillLead}
use Rattle.ann_disk.specs.declared.file.LogFile.{Ghosts}
use Rattle.ann_judge.specs.Standing.{refused_at}
use Rattle.ann_judge.specs.declared.refusal.Refusal.{Refusal}
use Rattle.ann_judge.specs.declared.refusal.Refusal.TheVariants as judged
use Rattle.ann_log.specs.Appended.{HasAppended, HasNotAppended, IsSameLog}
use Rattle.ann_log.specs.LogView.{LogView}
use Rattle.ann_vault.specs.Held.{Holding}
use Rattle.ann_view.specs.View.{IndexView}
use Rattle.ann_journal.specs.Journal.{JournalView, IsJournalOf, index_in}
use Rattle.ann_journal.specs.Updated as journal
use Rattle.ann_journal.specs.Updated.{IsAccepted, IsUpdate, entries_by}
use Rattle.ann_journal.specs.declared.refused.Receipt.{Receipt}
use Rattle.ann_journal.specs.declared.refused.UpdateRefused.{UpdateRefused}
use Rattle.ann_journal.specs.declared.refused.UpdateRefused.TheVariants.{Stopped, Dimension, Full, Present, Absent, Memory, LogFault, MemoryLogged}
use Rattle.ann_stock.specs.Stock.{StockView}
use Rattle.ann_showing.specs.Showing.{Follows}
use Rattle.ann_ledger.specs.Ledger.{IsLedgerOf}
use Rattle.ann_index.specs.Index.{IsIndexOf, kept_of}
use Rattle.ann_index.specs.Updated as mine
use Rattle.ann_index.specs.Updated.{AreLogged, IsUpdateOf, changed}
use Rattle.ann_index.proofs.Following.{follows_logged, follows_still}

-- ---- logs

pub same_log_refl : {F : Type 0} (log : LogView F) → IsSameLog log log
same_log_refl log = record { other = refl; side = refl; params = refl; book = refl; base = refl; generation = refl }

pub same_log_by : {F : Type 0} (one two : LogView F) → two ≡ one → IsSameLog one two
same_log_by one two is = subst (λ l. IsSameLog one l) (sym is) (same_log_refl one)

pub same_log_then : {F : Type 0} (one two three : LogView F) → IsSameLog one two → IsSameLog two three → IsSameLog one three
same_log_then one two three a b = record {
  other = b.other ∙ a.other;
  side = b.side ∙ a.side;
  params = b.params ∙ a.params;
  book = b.book ∙ a.book;
  base = b.base ∙ a.base;
  generation = b.generation ∙ a.generation;
}

-- an update leaves the same log
pub updates_log : {F S : Type 0} (D : Ghosts F) (h : BasedList) (by : ℕ) (changes : List Change) (j j' : JournalView F S) (r : Result Receipt UpdateRefused) → IsUpdate D h by changes j j' r → IsSameLog j.log j'.log
updates_log D h by changes j j' (Ok receipt) u = u.logged.same_log
updates_log D h by changes j j' (Err (Stopped at)) u = same_log_by j.log j'.log u.untouched.log
updates_log D h by changes j j' (Err (Dimension index got want at)) u = same_log_by j.log j'.log u.untouched.log
updates_log D h by changes j j' (Err (Full index at)) u = same_log_by j.log j'.log u.untouched.log
updates_log D h by changes j j' (Err (Present index tag at)) u = same_log_by j.log j'.log u.untouched.log
updates_log D h by changes j j' (Err (Absent index tag at)) u = same_log_by j.log j'.log u.untouched.log
updates_log D h by changes j j' (Err Memory) u = same_log_by j.log j'.log u.untouched.log
updates_log D h by changes j j' (Err LogFault) u = u.unlogged.same_log
updates_log D h by changes j j' (Err (MemoryLogged receipt)) u = absurd u

-- ---- what its steps leave: `j` is the journal before it, `j1` that of which all is shown, and `j2` the one that is updated

module _ {F V E S : Type 0} (D : Ghosts F) (tells : Type 0) (bytes : S → List ℕ) (held : V → Holding) (sound : Bool) (h shown : BasedList) (changes : List Change) (j j1 j2 : JournalView F S) (stock : StockView V E S) (view view1 : IndexView S) (log : j1.log ≡ j.log) (open_now : j.log.is_closed ≡ false) (all : IsIndexOf D tells bytes held sound h h (kept_of j1 stock view1)) where
  accepted : (j' : JournalView F S) → IsAccepted D h 0 changes j1 j2 → IsAccepted D h 0 changes j j'
  accepted j' a = record { open_now = open_now; judged = subst (λ l. judge_all l.params h 0 changes ≡ None) log a.judged }

  -- nothing was noted
  still : IsSameLog j1.log j2.log → IsJournalOf D h j2 → j2.account.waiting ≡ j1.account.waiting → IsLedgerOf D tells bytes held sound h j2 stock → IsIndexOf D tells bytes held sound h h (kept_of j2 stock view1)
  still same is waiting l = record {
    follows = follows_still D bytes sound h j1 j2 view1 same.params same.book h is waiting all.follows;
    ledger = l;
    in_hand = all.in_hand;
  }

  module _ (l : IsLedgerOf D tells bytes held sound h j2 stock) (on : BeginsWith h shown) where
    by_judge : (index : ℕ) (refusal : Refusal) (at : ℕ) → journal.IsJudgedBy D h 0 changes j1 j2 index refusal at → mine.IsJudgedBy D tells bytes held sound h shown changes (kept_of j stock view) (kept_of j2 stock view1) index refusal at
    by_judge index refusal at u = record {
      open_now = open_now;
      judged = subst (λ l. refused_at (judge_all l.params h 0 changes) ≡ Some (index, refusal)) log u.judged;
      place = u.place;
      log = u.untouched.log ∙ log;
      still = still (same_log_by j1.log j2.log u.untouched.log) u.untouched.journal_is u.untouched.account.waiting l;
    }

    pub refused_of : (why : UpdateRefused) → IsUpdate D h 0 changes j1 j2 (Err why) → IsUpdateOf D tells bytes held sound h shown changes (kept_of j stock view) (kept_of j2 stock view1) (Err why)
    refused_of (Stopped at) u = absurd (false≢true (sym (ap (λ l. l.is_closed) log ∙ open_now) ∙ u.closed))
    refused_of (Dimension index got want at) u = by_judge index (judged.Dimension got want) at u
    refused_of (Full index at) u = by_judge index judged.Full at u
    refused_of (Present index tag at) u = by_judge index (judged.Present tag) at u
    refused_of (Absent index tag at) u = by_judge index (judged.Absent tag) at u
    refused_of Memory u = record {
      open_now = open_now;
      log = u.untouched.log ∙ log;
      still = record {
        later = h;
        index = still (same_log_by j1.log j2.log u.untouched.log) u.untouched.journal_is u.untouched.account.waiting l;
        on = on;
      };
    }
    refused_of LogFault u = record {
      accepted = accepted j2 u.accepted;
      unlogged = subst (λ l. HasNotAppended D l j2.log) log u.unlogged.log;
      closed = u.unlogged.closed;
      still = still u.unlogged.same_log u.unlogged.journal_is u.unlogged.account.waiting l;
    }
    refused_of (MemoryLogged receipt) u = absurd u

  -- ---- logged, and shown or not

  module _ (receipt : Receipt) (u : IsUpdate D h 0 changes j1 j2 (Ok receipt)) where
    -- the view follows the longer list
    pub follows_update : StillLead bytes (index_in j1.log) h (entries_by 0 changes) j1.account j2.account → Follows D bytes sound (changed h changes) h j2 view1
    follows_update brings = follows_logged D bytes sound h h (entries_by 0 changes) j1 j2 view1 u.logged.same_log.params u.logged.same_log.book u.logged.journal_is u.logged.noted.leads (λ t. brings) all.follows

    pub index_update : StillLead bytes (index_in j1.log) h (entries_by 0 changes) j1.account j2.account → IsLedgerOf D tells bytes held sound (changed h changes) j2 stock → IsIndexOf D tells bytes held sound (changed h changes) h (kept_of j2 stock view1)
    index_update brings l = record { follows = follows_update brings; ledger = l; in_hand = all.in_hand }

    module _ (j3 : JournalView F S) (view2 : IndexView S) (log3 : j3.log ≡ j2.log) where
      pub are_logged : AreLogged D tells bytes held sound h shown changes (kept_of j stock view) (kept_of j3 stock view2) receipt
      are_logged = record {
        accepted = accepted j3 u.accepted;
        appended = subst (λ l. HasAppended D l (entries_by 0 changes) j3.log) log (subst (λ l. HasAppended D j1.log (entries_by 0 changes) l) (sym log3) u.logged.log);
        open_now = subst (λ l. l.is_closed ≡ false) (sym log3) u.logged.open_now;
        place = u.place;
      }
