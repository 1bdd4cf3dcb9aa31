-- A view goes on following its journal.
use Rattle.std.proofs.Common.{◌≡◌, ◌∙◌, ℕ, Bool, true, false, List, refl, ap, ap₂, subst, sym}
use Rattle.std.specs.Prelude.{IsTrue}
use Rattle.std.proofs.lemmas.Bool.{false≢true}
use Rattle.ann_types.specs.Index.{Index}
use Rattle.ann_types.specs.Lists.{BasedList, with_entries}
use Rattle.ann_types.specs.declared.entry.Entry.{Entry}
use Rattle.ann_account.specs.Steps.{AreSteps, Bring, Lead, LeadOn, StillLead}
use Rattle.ann_disk.specs.declared.file.LogFile.{Ghosts}
use Rattle.ann_log.specs.LogView.{LogView}
use Rattle.ann_named.specs.Named.{IsCurrent}
use Rattle.ann_view.specs.View.{IndexView}
use Rattle.ann_view.specs.declared.op.Op.{Op}
use Rattle.ann_journal.specs.Journal.{JournalView, IsJournalOf, index_in}
use Rattle.ann_showing.specs.Showing.{Follows, Shows}

-- ---- indices

pub same_index : {F : Type 0} (one two : LogView F) → two.params ≡ one.params → two.book ≡ one.book → index_in two ≡ index_in one
same_index one two params book = ap₂ (λ p b. let i : Index = record { params = p; book = b } in i) params (ap (λ b. b.book) book)

-- ---- the same view, and another journal of the index

module _ {F S : Type 0} (D : Ghosts F) (bytes : S → List ℕ) (sound : Bool) (shown : BasedList) (j j' : JournalView F S) (view : IndexView S) (params : j'.log.params ≡ j.log.params) (book : j'.log.book ≡ j.log.book) where
  same : index_in j'.log ≡ index_in j.log
  same = same_index j.log j'.log params book

  shows_on : Shows bytes sound j.log shown view → Shows bytes sound j'.log shown view
  shows_on s = record {
    index = (s.index.0 ∙ sym params, s.index.1 ∙ sym book);
    open_now = s.open_now;
    stands = s.stands;
    current = subst (λ i. IsCurrent i shown view.segment) (sym same) s.current;
    holds = s.holds;
  }

  -- a lead in the index of the one is one in that of the other
  abbrev lead_on : (h : BasedList) (ops : List (Op S)) → Lead (index_in j.log) shown h ops → Lead (index_in j'.log) shown h ops
  lead_on h ops l = record { entries = l.entries; whole = l.whole; steps = subst (λ i. AreSteps i shown ops l.entries) (sym same) l.steps }

  -- what waits leads to this list, and where the place is sound, brings the graphs of its merges
  pub follows_by : (h : BasedList) → IsJournalOf D h j' → Shows bytes sound j.log shown view → (l : Lead (index_in j.log) shown h j'.account.waiting) → (IsTrue sound → Bring bytes (index_in j.log) shown j'.account.waiting l.entries) → Follows D bytes sound h shown j' view
  follows_by h is s l b = record {
    journal_is = is;
    shows = shows_on s;
    leads = lead_on h j'.account.waiting l;
    brings = λ t. subst (λ i. Bring bytes i shown j'.account.waiting l.entries) (sym same) (b t);
  }

  -- nothing was noted
  pub follows_still : (h : BasedList) → IsJournalOf D h j' → j'.account.waiting ≡ j.account.waiting → Follows D bytes sound h shown j view → Follows D bytes sound h shown j' view
  follows_still h is waiting f =
      let l : Lead (index_in j.log) shown h j'.account.waiting =
      record { entries = f.leads.entries; whole = f.leads.whole; steps = subst (λ ws. AreSteps (index_in j.log) shown ws f.leads.entries) (sym waiting) f.leads.steps } in
      follows_by h is f.shows l (λ t. subst (λ ws. Bring bytes (index_in j.log) shown ws f.leads.entries) (sym waiting) (f.brings t))

-- entries were noted
pub follows_logged : {F S : Type 0} (D : Ghosts F) (bytes : S → List ℕ) (sound : Bool) (h shown : BasedList) (es : List Entry) (j j' : JournalView F S) (view : IndexView S) → j'.log.params ≡ j.log.params → j'.log.book ≡ j.log.book → IsJournalOf D (with_entries h es) j'
    → ((shown : BasedList) → Lead (index_in j.log) shown h j.account.waiting → Lead (index_in j.log) shown (with_entries h es) j'.account.waiting)
    → (IsTrue sound → StillLead bytes (index_in j.log) h es j.account j'.account)
    → Follows D bytes sound h shown j view → Follows D bytes sound (with_entries h es) shown j' view
follows_logged D bytes true h shown es j j' view params book is leads still f =
    let l : LeadOn bytes (index_in j.log) shown (with_entries h es) j'.account.waiting = still refl shown (f.leads, f.brings refl) in
    follows_by D bytes true shown j j' view params book (with_entries h es) is f.shows l.0 (λ t. l.1)
follows_logged D bytes false h shown es j j' view params book is leads still f =
    follows_by D bytes false shown j j' view params book (with_entries h es) is f.shows (leads shown f.leads) (λ t. absurd (false≢true t))
