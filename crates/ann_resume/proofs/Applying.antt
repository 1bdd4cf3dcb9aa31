-- Entries applied to a view, one on.
use Rattle.std.proofs.Common.{◌≡◌, ◌≤◌, ◌<◌, ℕ, zero, suc, ◌+◌, Bool, true, false, cond, not, ◌&&◌, List, [], ◌∷◌, ◌++◌, refl, sym, ap, ap₂, subst, ◌∙◌, arith, take, drop, length, get_or, eqb-true, ltb-true}
use Rattle.std.specs.Prelude.{Option, Some, None, IsSome, is_none}
use Rattle.std.specs.List.{list_all}
use Rattle.std.specs.FinMap.{get}
use Rattle.std.proofs.lemmas.Bool.{false≢true, and_parts, not-true}
use Rattle.std.proofs.lemmas.List.{take_more, take_all, take-append-drop}
use Rattle.ann_types.specs.Index.{Index}
use Rattle.ann_types.specs.Fold.{Begun, State, fold_of}
use Rattle.ann_types.specs.Legal.{pid_end, fits, has_work, may_follow, is_legal, IsLegal}
use Rattle.ann_types.specs.Lists.{BasedList, with_entry, with_entries, makes_point, next_pid, Names, is_live, pids_at, live_after, live_from, live_of}
use Rattle.ann_types.specs.declared.params.Params.{Params}
use Rattle.ann_types.specs.declared.entry.Entry.{Entry}
use Rattle.ann_types.specs.declared.entry.Entry.TheVariants as entry
use Rattle.ann_types.proofs.Folds.{entries_then, legal_before, legal_push, live_entries}
use Rattle.ann_types.proofs.Tagged.{tags_differ}
use Rattle.ann_laws.specs.Replays.{is_end}
use Rattle.ann_pq.specs.Codebook.{CodebookView}
use Rattle.ann_tags.specs.Tags.{map_of}
use Rattle.ann_tags.proofs.Maps.{live_is, pids_found}
use Rattle.ann_reopen.specs.Gone.{gone_by, gone_from}
use Rattle.ann_view.specs.Holding.{BringsMerge}
use Rattle.ann_view.specs.Stands.{StandsFor, IsEntryOf}
use Rattle.ann_view.specs.Steps.{applied, FitsIn, MayApply}
use Rattle.ann_view.specs.View.{IndexView, index_of}
use Rattle.ann_view.specs.declared.op.Op.{Op}
use Rattle.ann_resume.proofs.Cutting.{length-gone_from}
use Rattle.ann_resume.specs.Applied.{IsNext, AreNext, CanMake, IsMadeOf, IsSameIndex}

-- ---- one entry

module _ {S : Type 0} (view : IndexView S) (h : BasedList) (e : Entry) (gone : Option ℕ) (n : IsNext view h e gone) where
  -- it may follow
  abbrev Follows : Entry → Type 0
  Follows x = may_follow view.params h (fold_of (index_of view) h) x ≡ true

  follows : Follows e
  follows = (and_parts _ _ (sym (legal_push (index_of view) h e) ∙ n.legal.entries)).1

some_found : (live : Names) (tag : ℕ) (pid : Option ℕ) → pid ≡ get (map_of live) tag → is_live live tag ≡ true → IsSome pid
some_found live tag pid is live_now = subst (λ (o : Option ℕ). IsSome o) (sym is) (sym (live_is live tag) ∙ live_now)

module _ {S : Type 0} (view : IndexView S) (h : BasedList) (gone : Option ℕ) where
  can_one : (e : Entry) → may_follow view.params h (fold_of (index_of view) h) e ≡ true → is_end e ≡ false → gone ≡ gone_by (map_of (live_of h)) e → CanMake e gone
  can_one (entry.Insert by tag vector) f n d = tt
  can_one (entry.Delete by tag) f n d = some_found (live_of h) tag gone d f
  can_one (entry.Begin by) f n d = tt
  can_one (entry.End by segment) f n d = false≢true (sym n)
  can_one (entry.Replace by tag vector) f n d = some_found (live_of h) tag gone d (and_parts _ _ f).1

  pub can_make : (e : Entry) → IsNext view h e gone → CanMake e gone
  can_make e n = can_one e (follows view h e gone n) n.no_end n.deletes

  pid_is : (tag pid : ℕ) → IsLegal (index_of view) h → gone ≡ Some pid → gone ≡ get (map_of (live_of h)) tag → pids_at (live_of h) tag ≡ pid ∷ []
  pid_is tag pid legal is found = pids_found (live_of h) tag pid (tags_differ view.params h legal.base) (sym found ∙ is)

  legal_then : (e : Entry) → IsNext view h e gone → IsLegal (index_of view) h
  legal_then e n = record { base = n.legal.base; entries = legal_before (index_of view) h (e ∷ []) n.legal.entries }

  made_one : (e : Entry) → (op : Op S) → IsNext view h e gone → IsMadeOf e gone op → IsEntryOf h op e
  made_one (entry.Insert by tag vector) op n m = subst (λ (o : Op S). IsEntryOf h o (entry.Insert by tag vector)) (sym m) (by, refl)
  made_one (entry.Delete by tag) op n (pid, is, m) =
      subst (λ (o : Op S). IsEntryOf h o (entry.Delete by tag)) (sym m) (by, tag, refl, pid_is tag pid (legal_then (entry.Delete by tag) n) is n.deletes)
  made_one (entry.Begin by) op n m = subst (λ (o : Op S). IsEntryOf h o (entry.Begin by)) (sym m) (by, refl)
  made_one (entry.End by segment) op n m = absurd m
  made_one (entry.Replace by tag vector) op n (pid, is, m) =
      subst (λ (o : Op S). IsEntryOf h o (entry.Replace by tag vector)) (sym m) (by, refl, pid_is tag pid (legal_then (entry.Replace by tag vector) n) is n.deletes)

  pub is_entry_of : (e : Entry) (op : Op S) → IsNext view h e gone → IsMadeOf e gone op → IsEntryOf h op e
  is_entry_of e op n m = made_one e op n m

  fits_now : (vector : List ℕ) → StandsFor view h → fits view.params h vector ≡ true → FitsIn view vector
  fits_now vector stands f = record {
    width = eqb-true (length vector) view.params.d (and_parts _ _ f).0;
    pid = (let room = ltb-true (next_pid h) pid_end (and_parts _ _ f).1 in let next = stands.next in omega arith);
  }

  none_open : (o : Option Begun) (w : Bool) → (is_none o && w) ≡ true → o ≡ None
  none_open None w f = refl
  none_open (Some b) w f = absurd (false≢true f)

  may_one : (e : Entry) (op : Op S) → StandsFor view h → may_follow view.params h (fold_of (index_of view) h) e ≡ true → IsMadeOf e gone op → MayApply view op
  may_one (entry.Insert by tag vector) op stands f m = subst (λ (o : Op S). MayApply view o) (sym m) (fits_now vector stands (and_parts _ _ f).0)
  may_one (entry.Delete by tag) op stands f (pid, is, m) = subst (λ (o : Op S). MayApply view o) (sym m) tt
  may_one (entry.Begin by) op stands f m =
      subst (λ (o : Op S). MayApply view o) (sym m)
      (sym (ap (λ (s : State). s.begun) stands.state) ∙ none_open (fold_of (index_of view) h).begun (has_work (fold_of (index_of view) h)) f)
  may_one (entry.End by segment) op stands f m = absurd m
  may_one (entry.Replace by tag vector) op stands f (pid, is, m) = subst (λ (o : Op S). MayApply view o) (sym m) (fits_now vector stands (and_parts _ _ f).0)

  pub may_apply : (e : Entry) (op : Op S) → IsNext view h e gone → IsMadeOf e gone op → MayApply view op
  may_apply e op n m = may_one e op n.stands (follows view h e gone n) m

  pub brings_none : (bytes : S → List ℕ) (e : Entry) (op : Op S) → IsMadeOf e gone op → BringsMerge bytes view h op
  brings_none bytes (entry.Insert by tag vector) op m = subst (λ (o : Op S). BringsMerge bytes view h o) (sym m) tt
  brings_none bytes (entry.Delete by tag) op (pid, is, m) = subst (λ (o : Op S). BringsMerge bytes view h o) (sym m) tt
  brings_none bytes (entry.Begin by) op m = subst (λ (o : Op S). BringsMerge bytes view h o) (sym m) tt
  brings_none bytes (entry.End by segment) op m = absurd m
  brings_none bytes (entry.Replace by tag vector) op (pid, is, m) = subst (λ (o : Op S). BringsMerge bytes view h o) (sym m) tt

  -- the index and the segment stay
  pub applied_same : (e : Entry) (op : Op S) → IsMadeOf e gone op → IsSameIndex view (applied view op)
  applied_same (entry.Insert by tag vector) op m = subst (λ (o : Op S). IsSameIndex view (applied view o)) (sym m) (record { params = refl; book = refl; segment = refl; closed = refl })
  applied_same (entry.Delete by tag) op (pid, is, m) = subst (λ (o : Op S). IsSameIndex view (applied view o)) (sym m) (record { params = refl; book = refl; segment = refl; closed = refl })
  applied_same (entry.Begin by) op m = subst (λ (o : Op S). IsSameIndex view (applied view o)) (sym m) (record { params = refl; book = refl; segment = refl; closed = refl })
  applied_same (entry.End by segment) op m = absurd m
  applied_same (entry.Replace by tag vector) op (pid, is, m) = subst (λ (o : Op S). IsSameIndex view (applied view o)) (sym m) (record { params = refl; book = refl; segment = refl; closed = refl })

  pub applied_at : (e : Entry) (op : Op S) → IsMadeOf e gone op → (applied view op).at ≡ view.at + 1
  applied_at (entry.Insert by tag vector) op m = ap (λ (o : Op S). (applied view o).at) m
  applied_at (entry.Delete by tag) op (pid, is, m) = ap (λ (o : Op S). (applied view o).at) m
  applied_at (entry.Begin by) op m = ap (λ (o : Op S). (applied view o).at) m
  applied_at (entry.End by segment) op m = absurd m
  applied_at (entry.Replace by tag vector) op (pid, is, m) = ap (λ (o : Op S). (applied view o).at) m

-- ---- one of further entries

gone_at : (live : Names) (next : ℕ) (es : List Entry) (i : ℕ) (d : Option ℕ) (x : Entry) → i < length es → get_or (gone_from live next es) i d ≡ gone_by (map_of (live_from live next (take i es))) (get_or es i x)
gone_at live next [] i d x l = absurd (omega arith)
gone_at live next (e ∷ es) zero d x l = refl
gone_at live next (e ∷ es) (suc i) d x l = gone_at (live_after live next e) (next + cond (makes_point e) 1 0) es i d x (omega arith)

all_at : {A : Type 0} (p : A → Bool) (xs : List A) (i : ℕ) (x : A) → i < length xs → list_all p xs ≡ true → p (get_or xs i x) ≡ true
all_at p [] i x l a = absurd (omega arith)
all_at p (y ∷ xs) zero x l a = (and_parts _ _ a).0
all_at p (y ∷ xs) (suc i) x l a = all_at p xs i x (omega arith) (and_parts _ _ a).1

pub entries_more : (h : BasedList) (es : List Entry) (i : ℕ) (e : Entry) → i < length es → e ≡ get_or es i e → with_entries h (take (i + 1) es) ≡ with_entry (with_entries h (take i es)) e
entries_more h es i e l is =
    ap (with_entries h) (take_more es i e l ∙ ap (λ x. take i es ++ x ∷ []) (sym is))
    ∙ sym (entries_then h (take i es) (e ∷ []))

pub entries_all : (h : BasedList) (es : List Entry) (i : ℕ) → length es ≤ i → with_entries h (take i es) ≡ with_entries h es
entries_all h es i l = ap (with_entries h) (take_all i es l)

index_same : {S : Type 0} (old new : IndexView S) → IsSameIndex old new → index_of new ≡ index_of old
index_same old new same = ap₂ (λ (p : Params) (b : CodebookView). let i : Index = record { params = p; book = b.book } in i) same.params same.book

-- the next of them
pub next_of_all : {S : Type 0} (old view : IndexView S) (h : BasedList) (es : List Entry) (gone : List (Option ℕ)) (i : ℕ) (e : Entry) (g : Option ℕ) → AreNext old h es gone → IsSameIndex old view → StandsFor view (with_entries h (take i es)) → i < length es → e ≡ get_or es i e → g ≡ get_or gone i g → IsNext view (with_entries h (take i es)) e g
next_of_all old view h es gone i e g n same stands l is deletes =
    let here : BasedList = with_entries h (take i es) in
    let all : with_entries (with_entries h (take (i + 1) es)) (drop (i + 1) es) ≡ with_entries h es = entries_then h (take (i + 1) es) (drop (i + 1) es) ∙ ap (with_entries h) (take-append-drop (i + 1) es) in
    let upto : is_legal (index_of old) (with_entries h (take (i + 1) es)) ≡ true =
    legal_before (index_of old) (with_entries h (take (i + 1) es)) (drop (i + 1) es) (ap (is_legal (index_of old)) all ∙ n.legal.entries) in
    record {
      stands = stands;
      legal =
          subst (λ (x : Index). IsLegal x (with_entry here e)) (sym (index_same old view same))
          (record { base = n.legal.base; entries = ap (is_legal (index_of old)) (sym (entries_more h es i e l is)) ∙ upto });
      no_end = not-true (is_end e) (ap (λ x. not (is_end x)) is ∙ all_at (λ x. not (is_end x)) es i e l n.no_end);
      deletes =
          deletes
          ∙ ap (λ (t : List (Option ℕ)). get_or t i g) n.deletes
          ∙ gone_at (live_of h) (next_pid h) es i g e l
          ∙ ap₂ (λ (t : Names) (x : Entry). gone_by (map_of t) x) (sym (live_entries h (take i es))) (sym is);
    }

pub same_then : {S : Type 0} (one two three : IndexView S) → IsSameIndex one two → IsSameIndex two three → IsSameIndex one three
same_then one two three a b = record { params = b.params ∙ a.params; book = b.book ∙ a.book; segment = b.segment ∙ a.segment; closed = b.closed ∙ a.closed }

pub get_again : {A : Type 0} (xs : List A) (i : ℕ) (d : A) → i < length xs → get_or xs i d ≡ get_or xs i (get_or xs i d)
get_again [] i d l = absurd (omega arith)
get_again (x ∷ xs) zero d l = refl
get_again (x ∷ xs) (suc i) d l = get_again xs i d (omega arith)

pub gone_long : {S : Type 0} (view : IndexView S) (h : BasedList) (es : List Entry) (gone : List (Option ℕ)) → AreNext view h es gone → length gone ≡ length es
gone_long view h es gone n = ap (λ (t : List (Option ℕ)). length t) n.deletes ∙ length-gone_from (live_of h) (next_pid h) es
