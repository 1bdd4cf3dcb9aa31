-- One operation that waits, shown.
use Rattle.std.proofs.Common.{◌≡◌, ℕ, Bool, true, false, List, [], ◌∷◌, ◌++◌, refl, sym, ap, ap₂, subst, ◌∙◌, drop, append_assoc}
use Rattle.std.specs.Prelude.{IsTrue, Some}
use Rattle.std.proofs.lemmas.Bool.{and_parts}
use Rattle.ann_types.specs.Fold.{fold_of}
use Rattle.ann_types.specs.Index.{Index}
use Rattle.ann_types.specs.Legal.{IsLegal, may_follow}
use Rattle.ann_types.specs.Lists.{BasedList, with_entry, with_entries}
use Rattle.ann_types.specs.declared.entry.Entry.{Entry}
use Rattle.ann_types.specs.declared.entry.Entry.TheVariants as entry
use Rattle.ann_types.proofs.Folds.{entries_then, legal_before, legal_push}
use Rattle.ann_laws.specs.Replays.{is_end}
use Rattle.ann_account.specs.Steps.{IsStep, AreSteps, Bring}
use Rattle.ann_disk.specs.declared.file.LogFile.{Ghosts}
use Rattle.ann_log.specs.LogView.{LogView}
use Rattle.ann_named.specs.Named.{AreBelow, IsCurrent}
use Rattle.ann_named.proofs.Current.{stays_current, end_current}
use Rattle.ann_segment.specs.Segment.{SegmentView}
use Rattle.ann_journal.specs.Journal.{JournalView, index_in}
use Rattle.ann_view.specs.Holding.{HoldsGraph, BringsMerge}
use Rattle.ann_view.specs.Stands.{StandsFor, IsEntryOf, lti_of}
use Rattle.ann_view.specs.Steps.{applied, MayApply, MayEnd}
use Rattle.ann_view.specs.View.{IndexView, index_of}
use Rattle.ann_view.specs.declared.op.Op.{Op}
use Rattle.ann_view.specs.declared.op.Op.TheVariants as op
use Rattle.ann_account.specs.Account.{AccountView}
use Rattle.ann_showing.specs.Showing.{Follows, HasShown}

-- ---- the first of some steps

record First {S : Type 0} (index : Index) (shown : BasedList) (o : Op S) (rest : List (Op S)) (entries : List Entry) : Type 0 where
  pub e : Entry
  pub es : List Entry
  pub is : entries ≡ e ∷ es
  pub one : IsStep index shown o e
  pub more : AreSteps index (with_entry shown e) rest es

first_of : {S : Type 0} (index : Index) (shown : BasedList) (o : Op S) (rest : List (Op S)) (entries : List Entry) → AreSteps index shown (o ∷ rest) entries → First index shown o rest entries
first_of index shown o rest [] s = absurd s
first_of index shown o rest (e ∷ es) s = record { e = e; es = es; is = refl; one = s.0; more = s.1 }

-- ---- lists

behind : (h shown : BasedList) (entries es : List Entry) (e : Entry) → h ≡ with_entries shown entries → entries ≡ e ∷ es → h ≡ with_entries (with_entry shown e) es
behind h shown entries es e whole is = whole ∙ ap (with_entries shown) is ∙ sym (entries_then shown (e ∷ []) es)

legal_one : (index : Index) (h shown : BasedList) (es : List Entry) (e : Entry) → IsLegal index h → h ≡ with_entries (with_entry shown e) es → IsLegal index (with_entry shown e)
legal_one index h shown es e legal whole =
    let all : IsLegal index (with_entries (with_entry shown e) es) = subst (IsLegal index) whole legal in
    record { base = all.base; entries = legal_before index (with_entry shown e) es all.entries }

legal_here : (index : Index) (shown : BasedList) (e : Entry) → IsLegal index (with_entry shown e) → IsLegal index shown
legal_here index shown e legal = record { base = legal.base; entries = legal_before index shown (e ∷ []) legal.entries }

may_here : (index : Index) (shown : BasedList) (e : Entry) → IsLegal index (with_entry shown e) → may_follow index.params shown (fold_of index shown) e ≡ true
may_here index shown e legal = (and_parts _ _ (sym (legal_push index shown e) ∙ legal.entries)).1

-- ---- the segment

module _ {S : Type 0} (index : Index) (shown : BasedList) (e : Entry) (view : IndexView S) (legal : IsLegal index (with_entry shown e)) (current : IsCurrent index shown view.segment) where
  stays : is_end e ≡ false → IsCurrent index (with_entry shown e) view.segment
  stays none = stays_current index shown e view.segment (legal_here index shown e legal) (may_here index shown e legal) none current

  ends : (by : ℕ) (segment : SegmentView S) → e ≡ entry.End by segment.number → StandsFor view shown → MayEnd view segment → IsCurrent index (with_entry shown e) (Some segment)
  ends by segment is stands may =
      subst (λ (x : Entry). IsCurrent index (with_entry shown x) (Some segment)) (sym is)
      (end_current index shown by segment
      (subst (λ (x : Entry). may_follow index.params shown (fold_of index shown) x ≡ true) is (may_here index shown e legal))
      (subst (λ n. AreBelow n (Some segment)) stands.next may.below))

  pub current_step : (o : Op S) → index_of view ≡ index → StandsFor view shown → IsEntryOf shown o e → MayApply view o → IsCurrent index (with_entry shown e) (applied view o).segment
  current_step (op.Insert tag vector) same stands is may = stays (ap is_end is.1)
  current_step (op.Delete pid) same stands is may = stays (ap is_end is.2)
  current_step (op.Replace tag gone vector) same stands is may = stays (ap is_end is.1)
  current_step op.Begin same stands is may = stays (ap is_end is.1)
  current_step (op.End segment) same stands is may = ends is.0 segment.value is.1 stands may
  current_step op.Close same stands is may = absurd is

-- ---- what stays

record IsSameView {S : Type 0} (old new : IndexView S) : Type 0 where
  pub params : new.params ≡ old.params
  pub book : new.book ≡ old.book
  pub closed : new.closed ≡ old.closed

same_view : {S : Type 0} (shown : BasedList) (e : Entry) (view : IndexView S) (o : Op S) → IsEntryOf shown o e → IsSameView view (applied view o)
same_view shown e view (op.Insert tag vector) is = record { params = refl; book = refl; closed = refl }
same_view shown e view (op.Delete pid) is = record { params = refl; book = refl; closed = refl }
same_view shown e view (op.Replace tag gone vector) is = record { params = refl; book = refl; closed = refl }
same_view shown e view op.Begin is = record { params = refl; book = refl; closed = refl }
same_view shown e view (op.End segment) is = record { params = refl; book = refl; closed = refl }
same_view shown e view op.Close is = absurd is

pub view_index : {F S : Type 0} (log : LogView F) (view : IndexView S) → (view.params ≡ log.params) × (view.book ≡ log.book) → index_of view ≡ index_in log
view_index log view same = ap₂ (λ p b. let i : Index = record { params = p; book = b } in i) same.0 (ap (λ b. b.book) same.1)

-- ---- one step of a view that follows

module _ {F S : Type 0} (D : Ghosts F) (bytes : S → List ℕ) (sound : Bool) (h shown : BasedList) (journal : JournalView F S) (view : IndexView S) (o : Op S) (rest : List (Op S)) where
  -- the journal once the first operation is shown
  abbrev pub later : JournalView F S
  later = record { log = journal.log; account = record journal.account { waiting = rest } }

  -- what the view is told of its next state
  pub record Goes (view' : IndexView S) : Type 0 where
    pub is : view' ≡ applied view o
    pub stands : (e : Entry) → IsEntryOf shown o e → StandsFor view' (with_entry shown e)
    pub holds : (e : Entry) → IsEntryOf shown o e → HoldsGraph bytes view (lti_of view shown) → BringsMerge bytes view shown o → HoldsGraph bytes view' (lti_of view' (with_entry shown e))

  shows_one : (view' : IndexView S) → Goes view' → Follows D bytes sound h shown journal view → (entries : List Entry) → First (index_in journal.log) shown o rest entries → (IsTrue sound → Bring bytes (index_in journal.log) shown (o ∷ rest) entries) → h ≡ with_entries shown entries → (g : BasedList) × Follows D bytes sound h g later view'
  shows_one view' goes f entries first brings whole =
      let index : Index = index_in journal.log in
      let there : h ≡ with_entries (with_entry shown first.e) first.es = behind h shown entries first.es first.e whole first.is in
      let legal : IsLegal index (with_entry shown first.e) = legal_one index h shown first.es first.e f.journal_is.legal there in
      let same : index_of view ≡ index = view_index journal.log view f.shows.index in
      let kept : IsSameView view view' = subst (λ v. IsSameView view v) (sym goes.is) (same_view shown first.e view o first.one.stands) in
      let brings_all : IsTrue sound → Bring bytes index shown (o ∷ rest) (first.e ∷ first.es) = λ t. subst (λ es. Bring bytes index shown (o ∷ rest) es) first.is (brings t) in (
        with_entry shown first.e,
        record {
          journal_is = record {
            legal = f.journal_is.legal;
            list = f.journal_is.list;
            account_is = record {
              at = f.journal_is.account_is.at;
              next = f.journal_is.account_is.next;
              begun = f.journal_is.account_is.begun;
              tags = f.journal_is.account_is.tags;
            };
          };
          shows = record {
            index = (kept.params ∙ f.shows.index.0, kept.book ∙ f.shows.index.1);
            open_now = kept.closed ∙ f.shows.open_now;
            stands = goes.stands first.e first.one.stands;
            current =
                subst (λ (v : IndexView S). IsCurrent index (with_entry shown first.e) v.segment) (sym goes.is)
                (current_step index shown first.e view legal f.shows.current o same f.shows.stands first.one.stands (first.one.applies view same f.shows.stands));
            holds = λ t. goes.holds first.e first.one.stands (f.shows.holds t) ((brings_all t).0 view same);
          };
          leads = record { entries = first.es; whole = there; steps = first.more };
          brings = λ t. (brings_all t).1;
        },
      )

  pub follow_step : (view' : IndexView S) → Goes view' → journal.account.waiting ≡ o ∷ rest → (journal' : JournalView F S) → journal'.log ≡ journal.log → journal'.account ≡ record journal.account { waiting = drop 1 journal.account.waiting } → Follows D bytes sound h shown journal view → (g : BasedList) × Follows D bytes sound h g journal' view'
  follow_step view' goes waits journal' log account f =
      let index : Index = index_in journal.log in
      let left : drop 1 journal.account.waiting ≡ rest = ap (drop 1) waits in
      let is : journal' ≡ later =
      ap₂ (λ l a. let j : JournalView F S = record { log = l; account = a } in j) log
      (account ∙ ap (λ ws. record journal.account { waiting = ws }) left) in
      subst (λ (j : JournalView F S). (g : BasedList) × Follows D bytes sound h g j view') (sym is)
      (shows_one view' goes f f.leads.entries
      (first_of index shown o rest f.leads.entries (subst (λ ws. AreSteps index shown ws f.leads.entries) waits f.leads.steps))
      (λ t. subst (λ ws. Bring bytes index shown ws f.leads.entries) waits (f.brings t))
      f.leads.whole)

-- ---- what is shown

pub shown_one : {F S : Type 0} (a b : JournalView F S) (o : Op S) (rest : List (Op S)) → a.account.waiting ≡ o ∷ rest → b.log ≡ a.log → b.account ≡ record a.account { waiting = drop 1 a.account.waiting } → HasShown a b
shown_one a b o rest waits log account =
    let left : b.account.waiting ≡ drop 1 a.account.waiting = ap (λ (x : AccountView _). x.waiting) account in
    record {
      log = log;
      account = account ∙ ap (λ ws. record a.account { waiting = ws }) (sym left);
      shown = o ∷ [];
      rest = waits ∙ ap (λ ws. o ∷ ws) (sym (left ∙ ap (drop 1) waits));
    }

pub shown_then : {F S : Type 0} (a b c : JournalView F S) → HasShown a b → HasShown b c → HasShown a c
shown_then a b c first second = record {
  log = second.log ∙ first.log;
  account = second.account ∙ ap (λ (x : AccountView _). record x { waiting = c.account.waiting }) first.account;
  shown = first.shown ++ second.shown;
  rest = first.rest ∙ ap (λ ws. first.shown ++ ws) second.rest ∙ sym (append_assoc first.shown second.shown c.account.waiting);
}
