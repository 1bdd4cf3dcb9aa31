-- What reading knows of the list of the entries that were read, one entry on.
use Rattle.std.proofs.Common.{◌≡◌, ℕ, ◌+◌, ◌-◌, ◌≤◌, ◌<◌, Bool, true, false, cond, eqb, List, [], ◌∷◌, ◌++◌, ◌||◌, ◌&&◌, not, refl, sym, ap, ◌∙◌, subst, arith, take, length, get_or, append_assoc, count_by, length-append}
use Rattle.std.specs.Prelude.{Option, Some, None, MatchOption}
use Rattle.std.specs.List.{list_all, list_any}
use Rattle.std.proofs.lemmas.Bool.{false≢true, and_from}
use Rattle.std.proofs.lemmas.List.{length_push, take_more, take_all}
use Rattle.std.proofs.lemmas.List.Folds.{list_any-append, list_all-append}
use Rattle.std.proofs.lemmas.List.Sums.{sum_by-cons}
use Rattle.ann_types.specs.Index.{Index}
use Rattle.ann_types.specs.Lists.{BasedList, IsBaseOf, bare, length_of, upto, with_entry, next_pid, Names, names_of, makes_point, live_after, live_from, live_of}
use Rattle.ann_types.specs.Fold.{Begun, fold_of}
use Rattle.ann_types.specs.Legal.{names_segment, may_follow, IsLegal}
use Rattle.ann_types.specs.declared.params.Params.{Params}
use Rattle.ann_types.specs.declared.entry.Entry.{Entry}
use Rattle.ann_types.specs.declared.entry.Entry.TheVariants.{Insert, Delete, Begin, End, Replace}
use Rattle.ann_types.proofs.Folds.{next_pid_push, live_push, legal_push}
use Rattle.ann_laws.specs.Outlines.{Opening, Outline, opening_of, outline_of, outline_frozen, outline_grown, outline_deleted, opening_deleted, outline_switched, outline_start, outline_step, may_come}
use Rattle.ann_laws.specs.Replays.{is_end, with_only}
use Rattle.ann_laws.proofs.Newer.{upto_push}
use Rattle.ann_laws.proofs.Outlined.{outline_push, may_come_is}
use Rattle.ann_laws.proofs.Ended.{OpensAt, opens_at, opens_upto}
use Rattle.ann_tags.specs.Tags.{Pids, map_of}
use Rattle.ann_tags.proofs.Maps.{mapped_is, unmapped_is}
use Rattle.ann_reopen.specs.Gone.{gone_by, gone_from, gone_of}
use Rattle.ann_reopen.specs.Judged.{IsLastMerge}
use Rattle.ann_reopen.specs.Reading.{ReadingView, after, merge_at, pids_after, before_after, merge_after}
use Rattle.ann_reopen.specs.declared.judged.Merge.{Merge}

-- ---- the Pids that entries delete

pub gone_append : (live : Names) (next : ℕ) (es fs : List Entry) → gone_from live next (es ++ fs) ≡ gone_from live next es ++ gone_from (live_from live next es) (next + count_by makes_point es) fs
gone_append live next [] fs = ap (λ n. gone_from live n fs) (let e : next ≡ next + 0 = omega arith in e)
gone_append live next (e ∷ es) fs =
    ap (λ t. gone_by (map_of live) e ∷ t)
    (gone_append (live_after live next e) (next + cond (makes_point e) 1 0) es fs
    ∙ ap (λ n. gone_from (live_after live next e) (next + cond (makes_point e) 1 0) es ++ gone_from (live_from (live_after live next e) (next + cond (makes_point e) 1 0) es) n fs) (count next e es))
  where
    count : (next : ℕ) (e : Entry) (es : List Entry) → next + cond (makes_point e) 1 0 + count_by makes_point es ≡ next + count_by makes_point (e ∷ es)
    count next e es = let more = sum_by-cons (λ x. cond (makes_point x) 1 0) e es in omega arith

gone_push : (h : BasedList) (e : Entry) → gone_of (with_entry h e) ≡ gone_of h ++ gone_by (map_of (live_of h)) e ∷ []
gone_push h e = gone_append (names_of h.base.graph.points) h.base.next h.entries (e ∷ [])

pids_push : (live : Names) (next : ℕ) (e : Entry) → map_of (live_after live next e) ≡ pids_after (map_of live) next e
pids_push live next (Insert by tag vector) = mapped_is live tag next
pids_push live next (Delete by tag) = unmapped_is live tag
pids_push live next (Begin by) = refl
pids_push live next (End by segment) = refl
pids_push live next (Replace by tag vector) = mapped_is live tag next

-- ---- the next Pid before the open Begin

abbrev pub BeforeIs : BasedList → ℕ → Option Opening → Type 0
BeforeIs h before None = Unit {0}
BeforeIs h before (Some o) = (o.position ≤ length_of h) × (before ≡ next_pid (upto h o.position))

before_stays : (h : BasedList) (e : Entry) (before : ℕ) (o : Option Opening) → BeforeIs h before o → BeforeIs (with_entry h e) before o
before_stays h e before None w = tt
before_stays h e before (Some o) w =
    let size = length_push h.entries e in
    let low = w.0 in
    (omega arith, w.1 ∙ ap next_pid (sym (upto_push h e o.position (omega arith))))

before_deleted : (h : BasedList) (before : ℕ) (o : Option Opening) → BeforeIs h before o → BeforeIs h before (opening_deleted o)
before_deleted h before None w = tt
before_deleted h before (Some o) w = w

grown_begun : (params : Params) (o : Outline) → (outline_grown params o).begun ≡ o.begun
grown_begun params o = elim (eqb (o.rw + 1) params.freeze_at) as (λ t. (cond t (outline_frozen o) (record o { rw = o.rw + 1 })).begun ≡ o.begun) [ true ↦ refl | false ↦ refl ]

upto_whole : (h : BasedList) (e : Entry) → next_pid (upto (with_entry h e) (length_of h)) ≡ next_pid h
upto_whole h e =
    ap next_pid (upto_push h e (length_of h) (omega arith))
    ∙ ap (λ (n : ℕ). next_pid (with_only h (take n h.entries))) (let back : length_of h - h.base.position ≡ length h.entries = omega arith in back)
    ∙ ap (λ (t : List Entry). next_pid (with_only h t)) (take_all (length h.entries) h.entries (omega arith))

before_switched : (h : BasedList) (before : ℕ) (o : Outline) (b : Option Opening) → b ≡ o.begun → BeforeIs h before (outline_switched o b).begun
before_switched h before o None e = subst (BeforeIs h before) e tt
before_switched h before o (Some b) e = tt

before_more : (params : Params) (h : BasedList) (r : ReadingView) (e : Entry) → r.position ≡ length_of h → r.next ≡ next_pid h → BeforeIs h r.before r.outline.begun → BeforeIs (with_entry h e) (before_after r e) (outline_step params r.position r.outline e).begun
before_more params h r (Insert by tag vector) p n w =
    subst (BeforeIs (with_entry h (Insert by tag vector)) r.before) (sym (grown_begun params r.outline)) (before_stays h (Insert by tag vector) r.before r.outline.begun w)
before_more params h r (Delete by tag) p n w = before_deleted (with_entry h (Delete by tag)) r.before r.outline.begun (before_stays h (Delete by tag) r.before r.outline.begun w)
before_more params h r (Begin by) p n w =
    let size = length_push h.entries (Begin by) in
    (omega arith, n ∙ sym (upto_whole h (Begin by)) ∙ ap (λ (k : ℕ). next_pid (upto (with_entry h (Begin by)) k)) (sym p))
before_more params h r (End by segment) p n w = before_switched (with_entry h (End by segment)) r.before r.outline r.outline.begun refl
before_more params h r (Replace by tag vector) p n w =
    subst (BeforeIs (with_entry h (Replace by tag vector)) r.before) (sym (grown_begun params (outline_deleted r.outline)))
    (before_deleted (with_entry h (Replace by tag vector)) r.before r.outline.begun (before_stays h (Replace by tag vector) r.before r.outline.begun w))

-- ---- the last merge

abbrev pub LastIs : BasedList → Option Merge → Type 0
LastIs h m = MatchOption m (list_any is_end h.entries ≡ false) (IsLastMerge h)

or_both : (a b : Bool) → a ≡ false → b ≡ false → (a || b) ≡ false
or_both a b e f = ap (λ t. t || b) e ∙ f

last_stays : (h : BasedList) (e : Entry) (m : Option Merge) → is_end e ≡ false → LastIs h m → LastIs (with_entry h e) m
last_stays h e None n w = list_any-append is_end h.entries (e ∷ []) ∙ or_both (list_any is_end h.entries) (is_end e || false) w (or_both (is_end e) false n refl)
last_stays h e (Some m) n w = record {
  before = w.before;
  inside = w.inside;
  behind = w.behind ++ e ∷ [];
  merge = record {
    begin_by = w.merge.begin_by;
    end_by = w.merge.end_by;
    entries =
        ap (λ t. t ++ e ∷ []) w.merge.entries
        ∙ append_assoc (w.before ++ Begin w.merge.begin_by ∷ w.inside) (End w.merge.end_by m.segment ∷ w.behind) (e ∷ []);
    inner = w.merge.inner;
    last =
        list_all-append (λ x. not (is_end x)) w.behind (e ∷ [])
        ∙ and_from (list_all (λ x. not (is_end x)) w.behind) (not (is_end e) && true) w.merge.last (and_from (not (is_end e)) true (ap not n) refl);
  };
  position = w.position;
  end = w.end;
  next = w.next;
}

-- ---- what is known

pub record Knows (index : Index) (h : BasedList) (r : ReadingView) : Type 0 where
  pub params : r.params ≡ index.params
  pub legal : IsLegal index h
  pub position : r.position ≡ length_of h
  pub outline : r.outline ≡ outline_of (fold_of index h)
  pub pids : r.pids ≡ map_of (live_of h)
  pub next : r.next ≡ next_pid h
  pub gone : r.gone ≡ gone_of h
  pub before : BeforeIs h r.before r.outline.begun
  pub last : LastIs h r.merge

-- the End of the open merge makes it the last that ended
last_ended : (index : Index) (h : BasedList) (r : ReadingView) (by segment : ℕ) → Knows index h r → (o : Option Begun) → (fold_of index h).begun ≡ o → names_segment segment o ≡ true → LastIs (with_entry h (End by segment)) (merge_at r segment (opening_of (fold_of index h).dead o))
last_ended index h r by segment k None e n = absurd (false≢true n)
last_ended index h r by segment k (Some b) e n =
    let w : OpensAt h b = opens_at index h b e in
    let first : BeforeIs h r.before (opening_of (fold_of index h).dead (Some b)) = subst (BeforeIs h r.before) (ap (λ (x : Outline). x.begun) k.outline ∙ ap (opening_of (fold_of index h).dead) e) k.before in
    let size : length h.entries ≡ length w.before + (1 + length w.inside) = ap (λ (t : List Entry). length t) w.entries ∙ length-append w.before (Begin w.begin_by ∷ w.inside) ∙ omega arith in
    let at = w.position in
    let here = k.position in
    record {
      before = w.before;
      inside = w.inside;
      behind = [];
      merge = record { begin_by = w.begin_by; end_by = by; entries = ap (λ t. t ++ End by segment ∷ []) w.entries; inner = w.inner; last = refl };
      position = at;
      end = omega arith;
      next = first.1 ∙ ap next_pid (opens_upto h b w);
    }

last_more : (index : Index) (h : BasedList) (r : ReadingView) (e : Entry) → Knows index h r → may_follow index.params h (fold_of index h) e ≡ true → LastIs (with_entry h e) (merge_after r e)
last_more index h r (Insert by tag vector) k m = last_stays h (Insert by tag vector) r.merge refl k.last
last_more index h r (Delete by tag) k m = last_stays h (Delete by tag) r.merge refl k.last
last_more index h r (Begin by) k m = last_stays h (Begin by) r.merge refl k.last
last_more index h r (End by segment) k m =
    subst (λ (o : Option Opening). LastIs (with_entry h (End by segment)) (merge_at r segment o)) (sym (ap (λ (x : Outline). x.begun) k.outline))
    (last_ended index h r by segment k (fold_of index h).begun refl m)
last_more index h r (Replace by tag vector) k m = last_stays h (Replace by tag vector) r.merge refl k.last

-- A legal entry more.
pub knows_more : (index : Index) (h : BasedList) (r : ReadingView) (e : Entry) → Knows index h r → may_follow index.params h (fold_of index h) e ≡ true → Knows index (with_entry h e) (after r e)
knows_more index h r e k m = record {
  params = k.params;
  legal = record { base = k.legal.base; entries = legal_push index h e ∙ and_from _ _ k.legal.entries m };
  position = (let size = length_push h.entries e in let here = k.position in omega arith);
  outline =
      ap (λ (p : Params). outline_step p r.position r.outline e) k.params
      ∙ ap (λ (n : ℕ). outline_step index.params n r.outline e) k.position
      ∙ ap (λ (o : Outline). outline_step index.params (length_of h) o e) k.outline
      ∙ sym (outline_push index h e k.legal m);
  pids =
      ap (λ (p : Pids). pids_after p r.next e) k.pids
      ∙ ap (λ (n : ℕ). pids_after (map_of (live_of h)) n e) k.next
      ∙ sym (pids_push (live_of h) (next_pid h) e)
      ∙ ap map_of (sym (live_push h e));
  next = ap (λ (n : ℕ). n + cond (makes_point e) 1 0) k.next ∙ sym (next_pid_push h e);
  gone =
      ap (λ t. t ++ gone_by r.pids e ∷ []) k.gone
      ∙ ap (λ (p : Pids). gone_of h ++ gone_by p e ∷ []) k.pids
      ∙ sym (gone_push h e);
  before = before_more r.params h r e k.position k.next k.before;
  last = last_more index h r e k m;
}

-- Nothing was read yet.
pub knows_none : (index : Index) (h : BasedList) (r : ReadingView) → IsBaseOf index.params h.base → r.params ≡ index.params → r.position ≡ h.base.position → r.outline ≡ outline_start → r.pids ≡ map_of (names_of h.base.graph.points) → r.next ≡ h.base.next → r.gone ≡ [] → r.merge ≡ None → Knows index (bare h.base) r
knows_none index h r base params position outline pids next gone merge = record {
  params = params;
  legal = record { base = base; entries = refl };
  position = (let at = position in omega arith);
  outline = outline;
  pids = pids;
  next = (let same = next in omega arith);
  gone = gone;
  before = subst (λ (o : Outline). BeforeIs (bare h.base) r.before o.begun) (sym outline) tt;
  last = subst (LastIs (bare h.base)) (sym merge) refl;
}

-- ---- whether an entry may follow

pub follows_is : (index : Index) (h : BasedList) (r : ReadingView) (e : Entry) → Knows index h r → may_come r.params r.outline (live_of h) r.next e ≡ may_follow index.params h (fold_of index h) e
follows_is index h r e k =
    ap (λ (p : Params). may_come p r.outline (live_of h) r.next e) k.params
    ∙ ap (λ (o : Outline). may_come index.params o (live_of h) r.next e) k.outline
    ∙ ap (λ (n : ℕ). may_come index.params (outline_of (fold_of index h)) (live_of h) n e) k.next
    ∙ sym (may_come_is index.params h (fold_of index h) e)

-- ---- its numbers

pub grown_small : (params : Params) (o : Outline) (n : ℕ) → o.rw ≤ n → o.ros ≤ n → ((outline_grown params o).rw ≤ n + 1) × ((outline_grown params o).ros ≤ n + 1)
grown_small params o n l m =
    elim (eqb (o.rw + 1) params.freeze_at) as (λ t. ((cond t (outline_frozen o) (record o { rw = o.rw + 1 })).rw ≤ n + 1) × ((cond t (outline_frozen o) (record o { rw = o.rw + 1 })).ros ≤ n + 1)) [
      | true ↦ (omega arith, omega arith)
      | false ↦ (omega arith, omega arith)
    ]

switched_small : (o : Outline) (b : Option Opening) (n : ℕ) → o.rw ≤ n → o.ros ≤ n → ((outline_switched o b).rw ≤ n + 1) × ((outline_switched o b).ros ≤ n + 1)
switched_small o None n l m = (omega arith, omega arith)
switched_small o (Some b) n l m = (omega arith, omega arith)

begun_small : (o : Outline) (n : ℕ) (b : Bool) → o.rw ≤ n → o.ros ≤ n → ((cond b o (outline_frozen o)).rw ≤ n + 1) × ((cond b o (outline_frozen o)).ros ≤ n + 1)
begun_small o n true l m = (omega arith, omega arith)
begun_small o n false l m = (omega arith, omega arith)

-- each entry adds at most one graph, and at most one point
pub stays_small : (params : Params) (position : ℕ) (o : Outline) (e : Entry) (n : ℕ) → o.rw ≤ n → o.ros ≤ n → ((outline_step params position o e).rw ≤ n + 1) × ((outline_step params position o e).ros ≤ n + 1)
stays_small params position o (Insert by tag vector) n l m = grown_small params o n l m
stays_small params position o (Delete by tag) n l m = (omega arith, omega arith)
stays_small params position o (Begin by) n l m = begun_small o n (eqb o.rw 0) l m
stays_small params position o (End by segment) n l m = switched_small o o.begun n l m
stays_small params position o (Replace by tag vector) n l m = grown_small params (outline_deleted o) n l m

-- ---- one entry more of a list

pub with_taken : (h : BasedList) (i : ℕ) (e : Entry) → i < length h.entries → e ≡ get_or h.entries i e → with_only h (take (i + 1) h.entries) ≡ with_entry (with_only h (take i h.entries)) e
with_taken h i e l is = ap (with_only h) (take_more h.entries i e l ∙ ap (λ x. take i h.entries ++ x ∷ []) (sym is))

pub with_all : (h : BasedList) (i : ℕ) → length h.entries ≤ i → with_only h (take i h.entries) ≡ h
with_all h i l = ap (with_only h) (take_all i h.entries l)
