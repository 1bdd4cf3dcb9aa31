-- Logging a frame of entries.
use Rattle.std.proofs.Common.{◌≡◌, ℕ, true, List, [], ◌∷◌, ◌++◌, refl, sym, ap, ap₂, subst, ◌∙◌, arith, length, eqb-true, inl, inr, ◌⊎◌}
use Rattle.std.specs.Prelude.{Result, Ok, Err, IsErr}
use Rattle.std.proofs.lemmas.Bool.{and_parts, false≢true}
use Rattle.ann_types.specs.Fold.{State, step, fold_of}
use Rattle.ann_types.specs.Index.{Index}
use Rattle.ann_types.specs.Legal.{may_follow, legal_from, IsLegal}
use Rattle.ann_types.specs.Lists.{ListBase, BasedList, with_entry, with_entries}
use Rattle.ann_types.specs.declared.entry.Entry.{Entry}
use Rattle.ann_types.specs.declared.entry.Entry.TheVariants.{Insert, Delete, Begin, End, Replace}
use Rattle.ann_types.proofs.Folds.{legal_entries}
use Rattle.ann_disk.specs.Image.{Unsynced}
use Rattle.ann_disk.specs.declared.file.LogFile.{Ghosts}
use Rattle.ann_entry.specs.EntryBytes.{HasComponents}
use Rattle.ann_frame.specs.Frames.{HaveComponents}
use Rattle.ann_log.specs.Appended.{FitFrame, HasAppended, IsSameLog}
use Rattle.ann_log.specs.LogView.{LogView, files_of, held_of, extended, IsBeforeOrAfter}
use Rattle.ann_log.specs.Pairs.{EachPair, LeavePairs}
use Rattle.ann_log.specs.Text.{Held, StandsFor}
use Rattle.ann_log.specs.declared.files.Files.{Files}
use Rattle.ann_log.proofs.Pairs.{idle, last_pair}
use Rattle.ann_pq.specs.Codebook.{CodebookView}
use Rattle.ann_types.specs.declared.params.Params.{Params}
use Rattle.ann_recover.specs.Places.{IsKeptList, StandKept}
use Rattle.ann_recover.specs.Recovered.{IsListOf}
use Rattle.ann_state.specs.List.{list_on}
use Rattle.ann_state.specs.State.{AreKept}
use Rattle.ann_vault.specs.Held.{Holding}
use Rattle.ann_account.specs.Account.{AccountView, IsAccountOf, IsSameBut}
use Rattle.ann_account.specs.Steps.{CanNote, LeadOn, MayEndWith, StillLead}
use Rattle.ann_segment.specs.Segment.{SegmentView}
use Rattle.ann_journal.specs.Journal.{JournalView, IsJournalOf, index_in}
use Rattle.ann_journal.specs.Logged.{CanLog, CanLogAll, CanLogEnd, MayGrow, StaysSafe}
use Rattle.ann_journal.specs.Safe.{IsSafe}
use Rattle.ann_journal.proofs.Keeping.{kept_more}

-- ---- nothing was done

pub idle_pairs : {F : Type 0} (past : F → List Unsynced) (unsynced : F → Unsynced) (files : Files F) (P : List ℕ → List ℕ → Type 0) → EachPair unsynced P files → LeavePairs past unsynced files files P
idle_pairs past unsynced files P each = record {
  stops = [];
  turns = idle past unsynced files.first _ (λ a is_a. idle past unsynced files.second (P a) (each a is_a));
}

pub idle_log : {F : Type 0} (D : Ghosts F) (log : LogView F) (es : List Entry) → EachPair D.unsynced (StandsFor (held_of log)) (files_of log) → LeavePairs D.past D.unsynced (files_of log) (files_of log) (IsBeforeOrAfter (held_of log) es)
idle_log D log es each = idle_pairs D.past D.unsynced (files_of log) (IsBeforeOrAfter (held_of log) es) (λ a is_a b is_b. inl (each a is_a b is_b))

-- ---- a frame of legal entries

one_fits : (index : Index) (h : BasedList) (s : State) (e : Entry) → may_follow index.params h s e ≡ true → HasComponents index.params.d e
one_fits index h s (Insert by tag vector) f = eqb-true (length vector) index.params.d (and_parts _ _ (and_parts _ _ f).0).0
one_fits index h s (Delete by tag) f = tt
one_fits index h s (Begin by) f = tt
one_fits index h s (End by segment) f = tt
one_fits index h s (Replace by tag vector) f = eqb-true (length vector) index.params.d (and_parts _ _ (and_parts _ _ f).0).0

all_fit : (index : Index) (h : BasedList) (s : State) (es : List Entry) → legal_from index h s es ≡ true → HaveComponents index.params.d es
all_fit index h s [] l = tt
all_fit index h s (e ∷ es) l =
    let both = and_parts (may_follow index.params h s e) (legal_from index (with_entry h e) (step index h s e) es) l in
    (one_fits index h s e both.0, all_fit index (with_entry h e) (step index h s e) es both.1)

pub fit_frame : {F S : Type 0} (D : Ghosts F) (h : BasedList) (es : List Entry) (j : JournalView F S) → CanLog D h es j → FitFrame j.log.params.d es
fit_frame D h es j can = record {
  some = can.some;
  few = (let few = can.few in omega (arith, few));
  components = all_fit (index_in j.log) h (fold_of (index_in j.log) h) es (and_parts _ _ (sym (legal_entries (index_in j.log) h es) ∙ can.legal.entries)).1;
}

-- ---- the list of a log

log_list : {F : Type 0} (D : Ghosts F) (log : LogView F) (h : BasedList) → D.tells → IsListOf D log h → list_on log.base h.base.graph log.list ≡ h
log_list D log h tells is = ap₂ (λ (b : ListBase) (es : List Entry). let l : BasedList = record { base = b; entries = es } in l) (sym is.base) (is.entries tells)

-- what a vault holds for the list of a log, and further entries
pub kept_list : {F : Type 0} (D : Ghosts F) (held : Holding) (log : LogView F) (h : BasedList) (es : List Entry) → D.tells → IsListOf D log h → IsLegal (index_in log) (with_entries h es) → AreKept held log.params log.book.book (with_entries h es) → IsKeptList held (extended (held_of log) es)
kept_list D held log h es tells is legal kept =
    let same : list_on log.base h.base.graph (log.list ++ es) ≡ with_entries h es = ap (λ (l : BasedList). with_entries l es) (log_list D log h tells is) in
    record {
      graph = h.base.graph;
      legal = subst (IsLegal (index_in log)) (sym same) legal;
      kept = subst (AreKept held log.params log.book.book) (sym same) kept;
    }

pub kept_here : {F : Type 0} (D : Ghosts F) (held : Holding) (log : LogView F) (h : BasedList) → D.tells → IsListOf D log h → IsLegal (index_in log) h → AreKept held log.params log.book.book h → IsKeptList held (held_of log)
kept_here D held log h tells is legal kept = record {
  graph = h.base.graph;
  legal = subst (IsLegal (index_in log)) (sym (log_list D log h tells is)) legal;
  kept = subst (AreKept held log.params log.book.book) (sym (log_list D log h tells is)) kept;
}

stand_kept : (held : Holding) (params : Params) (book : CodebookView) (was : Held) (a b : List ℕ) → was.params ≡ params → was.book ≡ book → IsKeptList held was → StandsFor was a b → StandKept held params book a b
stand_kept held params book was a b p k kept stands = record { was = was; stands = stands; index = (p, k); list = kept }

-- ---- what stays safe

-- While the log is open, each image of it stands for its list.
pub safe_open : {F S : Type 0} (D : Ghosts F) (held : Holding) (j : JournalView F S) (h : BasedList) → D.tells → IsJournalOf D h j → AreKept held j.log.params j.log.book.book h → EachPair D.unsynced (StandsFor (held_of j.log)) (files_of j.log) → IsSafe D held j.log h
safe_open D held j h tells is kept each = record {
  list = kept;
  images = λ a is_a b is_b. stand_kept held j.log.params j.log.book (held_of j.log) a b refl refl (kept_here D held j.log h tells is.list is.legal kept) (each a is_a b is_b);
}

-- The entries stand behind the list.
pub safe_more : {F : Type 0} (D : Ghosts F) (held : Holding) (old new : LogView F) (h : BasedList) (es : List Entry) → D.tells → IsListOf D old h → IsLegal (index_in old) (with_entries h es) → AreKept held old.params old.book.book (with_entries h es) → HasAppended D old es new → IsSameLog old new → IsSafe D held new (with_entries h es)
safe_more D held old new h es tells is legal kept done same = record {
  list = subst (λ (p : Params). AreKept held p new.book.book (with_entries h es)) (sym same.params) (subst (λ (b : CodebookView). AreKept held old.params b.book (with_entries h es)) (sym same.book) kept);
  images = λ a is_a b is_b.
      stand_kept held new.params new.book (held_of new) a b refl refl
      (subst (IsKeptList held) (sym (done.appended tells)) (kept_list D held old h es tells is legal kept))
      (done.after tells a is_a b is_b);
}

-- The log failed, so that it is in doubt whether they do.
pub safe_doubt : {F : Type 0} (D : Ghosts F) (held : Holding) (old new : LogView F) (h : BasedList) (es : List Entry) → D.tells → IsListOf D old h → IsLegal (index_in old) h → IsLegal (index_in old) (with_entries h es) → AreKept held old.params old.book.book h → AreKept held old.params old.book.book (with_entries h es) → LeavePairs D.past D.unsynced (files_of old) (files_of new) (IsBeforeOrAfter (held_of old) es) → IsSameLog old new → IsSafe D held new h
safe_doubt D held old new h es tells is legal longer kept more during same = record {
  list = subst (λ (p : Params). AreKept held p new.book.book h) (sym same.params) (subst (λ (b : CodebookView). AreKept held old.params b.book h) (sym same.book) kept);
  images = λ a is_a b is_b. by_case a b (last_pair D.past D.unsynced (files_of old) (files_of new) (IsBeforeOrAfter (held_of old) es) during a is_a b is_b);
}
  where
    by_case : (a b : List ℕ) → StandsFor (held_of old) a b ⊎ StandsFor (extended (held_of old) es) a b → StandKept held new.params new.book a b
    by_case a b (inl stands) = stand_kept held new.params new.book (held_of old) a b (sym same.params) (sym same.book) (kept_here D held old h tells is legal kept) stands
    by_case a b (inr stands) = stand_kept held new.params new.book (extended (held_of old) es) a b (sym same.params) (sym same.book) (kept_list D held old h es tells is longer more) stands

-- a refusal leaves it safe for the list
pub safe_refused : {F T R : Type 0} (D : Ghosts F) (held : Holding) (log : LogView F) (h : BasedList) (es : List Entry) (result : Result T R) → IsErr result → IsSafe D held log h → StaysSafe D held log h es result
safe_refused D held log h es (Ok done) refused safe = absurd (false≢true refused)
safe_refused D held log h es (Err why) refused safe = safe

-- ---- what is noted

-- more room changes nothing of what is known
pub still_account : {S : Type 0} (index : Index) (h : BasedList) (old new : AccountView S) → IsSameBut old new → IsAccountOf index h old → IsAccountOf index h new
still_account index h old new same is = record {
  at = same.at ∙ is.at;
  next = same.next ∙ is.next;
  begun = same.begun ∙ is.begun;
  tags = same.pids ∙ is.tags;
}

pub still_brings : {S : Type 0} (bytes : S → List ℕ) (index : Index) (h : BasedList) (es : List Entry) (old mid new : AccountView S) → IsSameBut old mid → StillLead bytes index h es mid new → StillLead bytes index h es old new
still_brings bytes index h es old mid new same leads shown l = leads shown (subst (λ os. LeadOn bytes index shown h os) (sym same.waiting) l)

pub can_note : {F S : Type 0} (D : Ghosts F) (h : BasedList) (es : List Entry) (j : JournalView F S) (new : AccountView S) → CanLog D h es j → IsSameBut j.account new → CanNote (index_in j.log) h es new
can_note D h es j new can same = record {
  account_is = still_account (index_in j.log) h j.account new same can.journal_is.account_is;
  legal = can.legal;
}

pub may_end : {F S : Type 0} (D : Ghosts F) (h : BasedList) (by : ℕ) (segment : SegmentView S) (j : JournalView F S) (new : AccountView S) → CanLogEnd D h by segment j → IsSameBut j.account new → MayEndWith (index_in j.log) h by segment new
may_end D h by segment j new can same = record {
  note = can_note D h (End by segment.number ∷ []) j new can.frame same;
  ends = can.ends.ends;
}

-- ---- entries that are no Ends

-- what a vault holds for a list, it holds for the list with them
pub may_grow : {F S : Type 0} (D : Ghosts F) (held : Holding) (h : BasedList) (es : List Entry) (j : JournalView F S) → CanLogAll D h es j → IsSafe D held j.log h → MayGrow D held j.log h es
may_grow D held h es j can safe = record {
  safe = safe;
  longer = kept_more held j.log.params j.log.book.book h es can.frame.journal_is.legal can.no_end safe.list;
}
