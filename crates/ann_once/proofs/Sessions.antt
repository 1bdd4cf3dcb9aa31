-- What a session keeps, one change on.
use Rattle.std.proofs.Common.{◌≡◌, ◌≤◌, ◌<◌, ℕ, Bool, true, false, not, eqb, ltb, ◌&&◌, Option, Some, None, is_none, is_some, List, [], ◌∷◌, refl, sym, ap, subst, ◌∙◌, arith, length, eqb-true, ltb-true}
use Rattle.std.specs.FinMap.{get, len}
use Rattle.std.proofs.lemmas.Bool.{and_from, and_parts}
use Rattle.ann_types.specs.Fold.{State, step, fold_of, deleted}
use Rattle.ann_types.specs.Index.{Index}
use Rattle.ann_types.specs.Judge.{entry_of, judge}
use Rattle.ann_types.specs.Legal.{pid_end, may_follow, is_legal}
use Rattle.ann_types.specs.Lists.{BasedList, ListBase, IsBaseOf, empty_base, with_entry, next_pid, is_live, live_of, live_after, pids_at}
use Rattle.ann_types.specs.Put.{put}
use Rattle.ann_types.specs.declared.params.Params.{Params}
use Rattle.ann_types.specs.declared.change.Change.{Change}
use Rattle.ann_types.specs.declared.change.Change.TheVariants.{Insert, Delete, Replace}
use Rattle.ann_types.proofs.Booleans.{not_true}
use Rattle.ann_types.proofs.Sets.{increasing_from_rises}
use Rattle.ann_types.proofs.Folds.{fold_push, legal_push, live_push}
use Rattle.ann_types.proofs.Judged.{judged}
use Rattle.ann_types.proofs.Tagged.{next_pid_ends, tags_differ}
use Rattle.ann_tags.specs.Tags.{Pids, map_of}
use Rattle.ann_tags.proofs.Maps.{live_is, found_none, pids_found, count_is}
use Rattle.ann_pq.specs.Codebook.{CodebookView}
use Rattle.ann_view.specs.Stands.{StandsFor}
use Rattle.ann_view.specs.Steps.{FitsIn}
use Rattle.ann_once.specs.Book.{zeros}
use Rattle.ann_once.specs.Once.{once_index}
use Rattle.ann_once.specs.Session.{Keeps}
use Rattle.ann_once.specs.declared.session.Session.{Session}
use Rattle.ann_laws.proofs.Replayed.{grown_lti}

-- ---- the long-term graph stays empty

step_lti : (index : Index) (h : BasedList) (s : State) (c : Change) → (step index h s (entry_of 0 c)).lti ≡ s.lti
step_lti index h s (Insert tag vector) = grown_lti index.params s (put index.params s.rw (next_pid h) tag vector)
step_lti index h s (Delete tag) = refl
step_lti index h s (Replace tag vector) = grown_lti index.params (deleted s (pids_at (live_of h) tag)) (put index.params s.rw (next_pid h) tag vector)

-- ---- what a change that is accepted finds

empty_next : (h : BasedList) → h.base ≡ empty_base → h.base.next ≤ pid_end
empty_next h e = let none = ap (λ (b : ListBase). b.next) e in omega (arith, none)

pub follows : (h : BasedList) (c : Change) (s : Session) → Keeps h s → judge s.params h c ≡ None → may_follow s.params h (fold_of (once_index s.params) h) (entry_of 0 c) ≡ true
follows h c s keeps none =
    judged s.params h (fold_of (once_index s.params) h) 0 c (next_pid_ends (once_index s.params) h (empty_next h keeps.base) keeps.legal) ∙ ap is_none none

-- the vector fits and there is a Pid; whether the tag is live
record Accepts (params : Params) (h : BasedList) (vector : List ℕ) (tag : ℕ) (live : Bool) : Type 0 where
  width : length vector ≡ params.d
  pid : next_pid h < pid_end
  is : is_live (live_of h) tag ≡ live

accepts : (params : Params) (h : BasedList) (vector : List ℕ) (tag : ℕ) (t live : Bool) → (t ≡ true → is_live (live_of h) tag ≡ live) → ((eqb (length vector) params.d && ltb (next_pid h) pid_end) && t) ≡ true → Accepts params h vector tag live
accepts params h vector tag t live tells all =
    let fits = and_parts _ _ all in
    let both = and_parts _ _ fits.0 in
    record { width = eqb-true (length vector) params.d both.0; pid = ltb-true (next_pid h) pid_end both.1; is = tells fits.1 }

insert_accepts : (h : BasedList) (tag : ℕ) (vector : List ℕ) (s : Session) → Keeps h s → judge s.params h (Insert tag vector) ≡ None → Accepts s.params h vector tag false
insert_accepts h tag vector s keeps none = accepts s.params h vector tag (not (is_live (live_of h) tag)) false (not_true (is_live (live_of h) tag)) (follows h (Insert tag vector) s keeps none)

replace_accepts : (h : BasedList) (tag : ℕ) (vector : List ℕ) (s : Session) → Keeps h s → judge s.params h (Replace tag vector) ≡ None → Accepts s.params h vector tag true
replace_accepts h tag vector s keeps none = accepts s.params h vector tag (is_live (live_of h) tag) true (λ e. e) (follows h (Replace tag vector) s keeps none)

fits_in : (h : BasedList) (vector : List ℕ) (tag : ℕ) (live : Bool) (s : Session) → Keeps h s → Accepts s.params h vector tag live → FitsIn s.view vector
fits_in h vector tag live s keeps a = record {
  width = a.width ∙ ap (λ (p : Params). p.d) (sym keeps.params);
  pid = (let next = keeps.stands.next in let below = a.pid in omega (arith, next, below));
}

pub insert_fits : (h : BasedList) (tag : ℕ) (vector : List ℕ) (s : Session) → Keeps h s → judge s.params h (Insert tag vector) ≡ None → FitsIn s.view vector
insert_fits h tag vector s keeps none = fits_in h vector tag false s keeps (insert_accepts h tag vector s keeps none)

pub replace_fits : (h : BasedList) (tag : ℕ) (vector : List ℕ) (s : Session) → Keeps h s → judge s.params h (Replace tag vector) ≡ None → FitsIn s.view vector
replace_fits h tag vector s keeps none = fits_in h vector tag true s keeps (replace_accepts h tag vector s keeps none)

found_same : (h : BasedList) (tag : ℕ) (s : Session) (o : Option ℕ) → Keeps h s → get (map_of (live_of h)) tag ≡ o → get s.tags.pids tag ≡ o
found_same h tag s o keeps is = ap (λ (m : Pids). get m tag) keeps.tags ∙ is

-- the tag of an insert isn't there, and that of a delete or a replace is
pub insert_absent : (h : BasedList) (tag : ℕ) (vector : List ℕ) (s : Session) → Keeps h s → judge s.params h (Insert tag vector) ≡ None → get s.tags.pids tag ≡ None
insert_absent h tag vector s keeps none = found_same h tag s None keeps (found_none (live_of h) tag (insert_accepts h tag vector s keeps none).is)

live_there : (h : BasedList) (tag : ℕ) (s : Session) → Keeps h s → is_live (live_of h) tag ≡ true → None ≡ get s.tags.pids tag → ⊥
live_there h tag s keeps live none = no_none (sym live ∙ live_is (live_of h) tag ∙ ap is_some (sym (ap (λ (m : Pids). get m tag) keeps.tags) ∙ sym none))
  where
    no_none : true ≡ false → ⊥
    no_none e = cc

pub delete_there : (h : BasedList) (tag : ℕ) (s : Session) → Keeps h s → judge s.params h (Delete tag) ≡ None → None ≡ get s.tags.pids tag → ⊥
delete_there h tag s keeps none = live_there h tag s keeps (follows h (Delete tag) s keeps none)

pub replace_there : (h : BasedList) (tag : ℕ) (vector : List ℕ) (s : Session) → Keeps h s → judge s.params h (Replace tag vector) ≡ None → None ≡ get s.tags.pids tag → ⊥
replace_there h tag vector s keeps none = live_there h tag s keeps (replace_accepts h tag vector s keeps none).is

no_base : (params : Params) → IsBaseOf params empty_base
no_base params = record {
  graph = record {
    sound = record { pids = increasing_from_rises [] tt; sets = λ i d l. absurd (omega arith); others = λ i d l. absurd (omega arith); entry = refl };
    vectors = λ i d l. absurd (omega arith);
    degrees = λ i d l. absurd (omega arith);
  };
  pids = λ i d l. absurd (omega arith);
  tags = λ i j d l m. absurd (omega arith);
  none = λ e. refl;
}

-- the base of a session's list is one
pub session_base : (params : Params) (h : BasedList) → h.base ≡ empty_base → IsBaseOf params h.base
session_base params h e = subst (IsBaseOf params) (sym e) (no_base params)

-- the Pid that a tag has
pub pid_is : (h : BasedList) (tag pid : ℕ) (s : Session) → Keeps h s → Some pid ≡ get s.tags.pids tag → pids_at (live_of h) tag ≡ pid ∷ []
pid_is h tag pid s keeps found =
    pids_found (live_of h) tag pid (tags_differ s.params h (session_base s.params h keeps.base)) (ap (λ (m : Pids). get m tag) (sym keeps.tags) ∙ sym found)

-- how many tags are live
pub live_count : (h : BasedList) (s : Session) → Keeps h s → len s.tags.pids ≡ length (live_of h)
live_count h s keeps = ap len keeps.tags ∙ count_is (live_of h) (tags_differ s.params h (session_base s.params h keeps.base))

-- ---- one change more

pub keeps_more : (h : BasedList) (c : Change) (s t : Session) → Keeps h s → judge s.params h c ≡ None → t.params ≡ s.params → StandsFor t.view (with_entry h (entry_of 0 c)) → t.view.params ≡ s.view.params → t.view.book ≡ s.view.book → t.view.segment ≡ s.view.segment → t.view.closed ≡ s.view.closed → t.tags.pids ≡ map_of (live_after (live_of h) (next_pid h) (entry_of 0 c)) → Keeps (with_entry h (entry_of 0 c)) t
keeps_more h c s t keeps none same stands params book segment closed tags = record {
  base = keeps.base;
  legal =
      ap (λ (p : Params). is_legal (once_index p) (with_entry h (entry_of 0 c))) same
      ∙ legal_push (once_index s.params) h (entry_of 0 c)
      ∙ and_from _ _ keeps.legal (follows h c s keeps none);
  lti =
      ap (λ (p : Params). (fold_of (once_index p) (with_entry h (entry_of 0 c))).lti) same
      ∙ ap (λ (x : State). x.lti) (fold_push (once_index s.params) h (entry_of 0 c))
      ∙ step_lti (once_index s.params) h (fold_of (once_index s.params) h) c
      ∙ keeps.lti;
  stands = stands;
  params = params ∙ keeps.params ∙ sym same;
  book = ap (λ (b : CodebookView). b.book) book ∙ keeps.book ∙ ap (λ (p : Params). zeros p.d) (sym same);
  segment = segment ∙ keeps.segment;
  going = closed ∙ keeps.going;
  tags = tags ∙ ap map_of (sym (live_push h (entry_of 0 c)));
}
