-- The logged list with one entry more: its last End, its long-term graph and the graph that its merge makes.
use Rattle.std.proofs.Common.{◌≡◌, ◌∙◌, ◌≢◌, ℕ, ◌+◌, ◌*◌, ◌≤◌, ◌<◌, Bool, true, false, cond, eqb, not, ◌&&◌, List, [], ◌∷◌, ◌++◌, fold, take, length, refl, sym, ap, subst, arith}
use Rattle.std.specs.Prelude.{Option, Some, None, is_none, MatchOption}
use Rattle.std.specs.List.{list_any}
use Rattle.std.proofs.lemmas.Bool.{false≢true, and_parts}
use Rattle.std.proofs.lemmas.List.Sums.{fold_push}
use Rattle.ann_types.specs.Graph.{Graph, empty_graph}
use Rattle.ann_types.specs.Index.{Index}
use Rattle.ann_types.specs.Put.{put}
use Rattle.ann_types.specs.Lists.{BasedList, IsBaseOf, empty_base, bare, with_entry, with_entries, next_pid, length_of, pids_at, live_of}
use Rattle.ann_types.specs.Fold.{Begun, State, start, frozen, grown, deleted, merge_of, switched, step, fold_from, fold_of}
use Rattle.ann_types.specs.Legal.{may_follow, is_legal, names_segment, has_work}
use Rattle.ann_types.specs.declared.entry.Entry.{Entry}
use Rattle.ann_types.specs.declared.entry.Entry.TheVariants.{Insert, Delete, Begin, End, Replace}
use Rattle.ann_types.specs.declared.params.Params.{Params}
use Rattle.ann_types.proofs.Folds.{fold_push as state_push, legal_push, legal_before}
use Rattle.ann_types.proofs.Alive.{Good, Holds, OpenHolds, good_of}
use Rattle.ann_types.proofs.Sets.{increasing_from_rises}
use Rattle.ann_laws.specs.Replays.{is_mark, is_end}
use Rattle.ann_laws.proofs.Commuted.{Keeps, merge_kept, step_keeps}
use Rattle.ann_core_laws.specs.State.{logged, end_after, last_end}
use Rattle.ann_core_laws.specs.Facts.{made_graph}

-- the empty base is one
pub no_base : (params : Params) → IsBaseOf params empty_base
no_base params = record {
  graph = record {
    sound = record { pids = increasing_from_rises [] tt; sets = λ i d l. absurd (omega arith); others = λ i d l. absurd (omega arith); entry = refl };
    vectors = λ i d l. absurd (omega arith);
    degrees = λ i d l. absurd (omega arith);
  };
  pids = λ i d l. absurd (omega arith);
  tags = λ i j d l m. absurd (omega arith);
  none = λ e. refl;
}

-- ---- the last End

pub end_push : (list : List Entry) (e : Entry) → last_end (list ++ e ∷ []) ≡ end_after (last_end list) e
end_push list e = fold_push end_after None list e

pub no_end : (last : Option ℕ) (e : Entry) → is_end e ≡ false → end_after last e ≡ last
no_end last (Insert by tag vector) n = refl
no_end last (Delete by tag) n = refl
no_end last (Begin by) n = refl
no_end last (End by segment) n = absurd (false≢true (sym n))
no_end last (Replace by tag vector) n = refl

-- ---- the long-term graph

grown_lti : (params : Params) (s : State) (g : Graph) → (grown params s g).lti ≡ s.lti
grown_lti params s g = elim (eqb (length g.points) params.freeze_at) as (λ t. (cond t (frozen s g) (record s { rw = g })).lti ≡ s.lti) [ true ↦ refl | false ↦ refl ]

begun_lti : (s : State) (b : Bool) → (cond b s (frozen s s.rw)).lti ≡ s.lti
begun_lti s true = refl
begun_lti s false = refl

-- entries but Ends leave it
pub step_lti : (index : Index) (h : BasedList) (s : State) (e : Entry) → is_end e ≡ false → (step index h s e).lti ≡ s.lti
step_lti index h s (Insert by tag vector) n = grown_lti index.params s (put index.params s.rw (next_pid h) tag vector)
step_lti index h s (Delete by tag) n = refl
step_lti index h s (Begin by) n = begun_lti s (eqb (length s.rw.points) 0)
step_lti index h s (End by segment) n = absurd (false≢true (sym n))
step_lti index h s (Replace by tag vector) n = grown_lti index.params (deleted s (pids_at (live_of h) tag)) (put index.params s.rw (next_pid h) tag vector)

-- ---- without an End it is empty

some_stays : (number : ℕ) (es : List Entry) → fold end_after (Some number) es ≢ None
some_stays number [] = λ n. cc
some_stays number (Insert by tag vector ∷ es) = some_stays number es
some_stays number (Delete by tag ∷ es) = some_stays number es
some_stays number (Begin by ∷ es) = some_stays number es
some_stays number (End by segment ∷ es) = some_stays segment es
some_stays number (Replace by tag vector ∷ es) = some_stays number es

lti_from : (index : Index) (h : BasedList) (s : State) (es : List Entry) → fold end_after None es ≡ None → (fold_from index h s es).lti ≡ s.lti
lti_from index h s [] n = refl
lti_from index h s (Insert by tag vector ∷ es) n =
    lti_from index (with_entry h (Insert by tag vector)) (step index h s (Insert by tag vector)) es n ∙ step_lti index h s (Insert by tag vector) refl
lti_from index h s (Delete by tag ∷ es) n =
    lti_from index (with_entry h (Delete by tag)) (step index h s (Delete by tag)) es n
lti_from index h s (Begin by ∷ es) n =
    lti_from index (with_entry h (Begin by)) (step index h s (Begin by)) es n ∙ step_lti index h s (Begin by) refl
lti_from index h s (End by segment ∷ es) n = absurd (some_stays segment es n)
lti_from index h s (Replace by tag vector ∷ es) n =
    lti_from index (with_entry h (Replace by tag vector)) (step index h s (Replace by tag vector)) es n ∙ step_lti index h s (Replace by tag vector) refl

pub lti_none : (index : Index) (list : List Entry) → last_end list ≡ None → (fold_of index (logged list)).lti ≡ empty_graph
lti_none index list n = lti_from index (bare empty_base) (start empty_graph) list n

-- ---- the graph that the open merge makes

-- the state with one entry more
pub state_more : (index : Index) (list : List Entry) (e : Entry) → fold_of index (logged (list ++ e ∷ [])) ≡ step index (logged list) (fold_of index (logged list)) e
state_more index list e = state_push index (logged list) e

legal_more : (index : Index) (list : List Entry) (e : Entry) → is_legal index (logged (list ++ e ∷ [])) ≡ (is_legal index (logged list) && may_follow index.params (logged list) (fold_of index (logged list)) e)
legal_more index list e = legal_push index (logged list) e

pub legal_parts : (index : Index) (list : List Entry) (e : Entry) → is_legal index (logged (list ++ e ∷ [])) ≡ true → (is_legal index (logged list) ≡ true) × (may_follow index.params (logged list) (fold_of index (logged list)) e ≡ true)
legal_parts index list e l =
    and_parts (is_legal index (logged list)) (may_follow index.params (logged list) (fold_of index (logged list)) e) (sym (legal_more index list e) ∙ l)

pub legal_join : (index : Index) (list : List Entry) (e : Entry) → is_legal index (logged list) ≡ true → may_follow index.params (logged list) (fold_of index (logged list)) e ≡ true → is_legal index (logged (list ++ e ∷ [])) ≡ true
legal_join index list e l m =
    legal_more index list e
    ∙ ap (λ t. t && may_follow index.params (logged list) (fold_of index (logged list)) e) l
    ∙ m

pub good_logged : (index : Index) (list : List Entry) → is_legal index (logged list) ≡ true → Good (next_pid (logged list)) (live_of (logged list)) (fold_of index (logged list))
good_logged index list l = good_of index (logged list) (no_base index.params) l

grown_open : (params : Params) (s : State) (g : Graph) → (grown params s g).begun ≡ s.begun
grown_open params s g = elim (eqb (length g.points) params.freeze_at) as (λ t. (cond t (frozen s g) (record s { rw = g })).begun ≡ s.begun) [ true ↦ refl | false ↦ refl ]

mark_end : (e : Entry) → is_mark e ≡ false → is_end e ≡ false
mark_end (Insert by tag vector) n = refl
mark_end (Delete by tag) n = refl
mark_end (Begin by) n = refl
mark_end (End by segment) n = n
mark_end (Replace by tag vector) n = refl

-- a Begin or an End apart, entries leave the open Begin
pub step_open : (index : Index) (h : BasedList) (s : State) (e : Entry) → is_mark e ≡ false → (step index h s e).begun ≡ s.begun
step_open index h s (Insert by tag vector) n = grown_open index.params s (put index.params s.rw (next_pid h) tag vector)
step_open index h s (Delete by tag) n = refl
step_open index h s (Begin by) n = absurd (false≢true (sym n))
step_open index h s (End by segment) n = absurd (false≢true (sym n))
step_open index h s (Replace by tag vector) n = grown_open index.params (deleted s (pids_at (live_of h) tag)) (put index.params s.rw (next_pid h) tag vector)

made_by : (index : Index) (h : BasedList) (s : State) (e : Entry) (next : ℕ) (o : Option Begun) → is_mark e ≡ false → OpenHolds next s o → merge_of index (step index h s e) o ≡ merge_of index s o
made_by index h s e next None n w = step_lti index h s e (mark_end e n)
made_by index h s e next (Some b) n w = merge_kept index b s (step index h s e) (step_keeps index h s e b n w.frozen)

-- and what its merge makes
step_made : (index : Index) (h : BasedList) (s : State) (e : Entry) (next : ℕ) → is_mark e ≡ false → OpenHolds next s s.begun → merge_of index (step index h s e) (step index h s e).begun ≡ merge_of index s s.begun
step_made index h s e next n w =
    ap (merge_of index (step index h s e)) (step_open index h s e n) ∙ made_by index h s e next s.begun n w

pub made_more : (index : Index) (list : List Entry) (e : Entry) → is_legal index (logged list) ≡ true → is_mark e ≡ false → made_graph index (list ++ e ∷ []) ≡ made_graph index list
made_more index list e l n =
    ap (λ (s : State). merge_of index s s.begun) (state_more index list e)
    ∙ step_made index (logged list) (fold_of index (logged list)) e (next_pid (logged list)) n (good_logged index list l).merge
