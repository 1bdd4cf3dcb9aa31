-- A view that stands for a list goes on to stand for the list with one entry more.
use Rattle.std.proofs.Common.{◌≡◌, ℕ, ◌+◌, true, false, cond, eqb, List, [], ◌∷◌, refl, sym, ap, ◌∙◌, subst, arith, length}
use Rattle.std.specs.Prelude.{Option, Some, None}
use Rattle.std.proofs.lemmas.List.{length_push}
use Rattle.ann_types.specs.Graph.{Graph, is_empty, empty_graph}
use Rattle.ann_types.specs.Put.{put}
use Rattle.ann_types.specs.Index.{Index}
use Rattle.ann_types.specs.Lists.{BasedList, with_entry, length_of, next_pid, pids_at, live_of, makes_point}
use Rattle.ann_types.specs.Fold.{Begun, State, frozen, inserted, deleted, opened, begun_at, switched, merge_of, step, fold_of}
use Rattle.ann_types.specs.declared.params.Params.{Params}
use Rattle.ann_types.specs.declared.entry.Entry.{Entry}
use Rattle.ann_types.specs.declared.entry.Entry.TheVariants.{Insert as InsertEntry, Delete as DeleteEntry, Begin as BeginEntry, End as EndEntry, Replace as ReplaceEntry}
use Rattle.ann_types.proofs.Folds.{next_pid_push, fold_push}
use Rattle.ann_segment.specs.Segment.{SegmentView}
use Rattle.ann_segment.specs.Holds.{Holds}
use Rattle.std.specs.declared.sync.Arc.{Arc}
use Rattle.std.specs.declared.alloc.Global.{Global}
use Rattle.ann_view.specs.View.{IndexView, index_of, whole}
use Rattle.ann_view.specs.Steps.{applied}
use Rattle.ann_view.specs.Stands.{StandsFor, IsEntryOf, lti_of}
use Rattle.ann_beam.specs.Quest.{HoldsIn}
use Rattle.ann_view.specs.Holding.{HoldsGraph, BringsMerge}
use Rattle.ann_view.specs.declared.op.Op.{Op}
use Rattle.ann_view.specs.declared.op.Op.TheVariants.{Insert, Delete, Replace, Begin, End, Close}

-- ---- each step leaves the long-term graph aside

abbrev pub over : State → Graph → State
over s lti = record s { lti = lti }

inserted_over : (params : Params) (s : State) (lti : Graph) (n tag : ℕ) (vector : List ℕ) → inserted params (over s lti) n tag vector ≡ over (inserted params s n tag vector) lti
inserted_over params s lti n tag vector =
    let g : Graph = put params s.rw n tag vector in
    elim (eqb (length g.points) params.freeze_at) as (λ t. cond t (frozen (over s lti) g) (record (over s lti) { rw = g }) ≡ over (cond t (frozen s g) (record s { rw = g })) lti) [ true ↦ refl | false ↦ refl ]

begun_over : (s : State) (lti : Graph) (at : ℕ) → begun_at (over s lti) at ≡ over (begun_at s at) lti
begun_over s lti at = elim (is_empty s.rw) as (λ t. opened (cond t (over s lti) (frozen (over s lti) s.rw)) at ≡ over (opened (cond t s (frozen s s.rw)) at) lti) [ true ↦ refl | false ↦ refl ]

switched_over : (index : Index) (s : State) (lti : Graph) (o : Option Begun) → switched (over s lti) (merge_of index (over s lti) o) o ≡ over (switched s empty_graph o) (merge_of index (over s lti) o)
switched_over index s lti None = refl
switched_over index s lti (Some b) = refl

-- ---- lists with one entry more

length_more : (h : BasedList) (e : Entry) (at : ℕ) → at ≡ length_of h → at + 1 ≡ length_of (with_entry h e)
length_more h e at is = let more = length_push h.entries e in omega arith

next_more : (h : BasedList) (e : Entry) (next n : ℕ) → next ≡ next_pid h → cond (makes_point e) 1 0 ≡ n → next + n ≡ next_pid (with_entry h e)
next_more h e next n is one = let more = next_pid_push h e in omega arith

-- a state that has all but the long-term graph has its own
own_lti : (s m : State) (lti : Graph) → s ≡ over m lti → s ≡ over m s.lti
own_lti s m lti e = e ∙ ap (over m) (sym (ap (λ (t : State). t.lti) e))

module _ {S : Type 0} (view : IndexView S) (h : BasedList) (w : StandsFor view h) where
  abbrev index : Index
  index = index_of view

  abbrev lti : Graph
  lti = lti_of view h

  -- the state of the list with an entry is this one, over some long-term graph
  stands_with : (e : Entry) (after : IndexView S) (end : Graph) (n : ℕ) → index_of after ≡ index → after.at ≡ view.at + 1 → after.next ≡ view.next + n → cond (makes_point e) 1 0 ≡ n → step index h (whole view lti) e ≡ over after.memory end → StandsFor after (with_entry h e)
  stands_with e after end n same at next one is = record {
    at = at ∙ length_more h e view.at w.at;
    next = next ∙ next_more h e view.next n w.next one;
    state = own_lti (fold_of (index_of after) (with_entry h e)) after.memory end
        (ap (λ (i : Index). fold_of i (with_entry h e)) same ∙ fold_push index h e ∙ ap (λ (s : State). step index h s e) w.state ∙ is);
  }

  none_more : view.next ≡ view.next + 0
  none_more = omega arith

  -- what each step makes of the state
  insert_is : (by tag : ℕ) (vector : List ℕ) → step index h (whole view lti) (InsertEntry by tag vector) ≡ over (applied view (Insert tag vector)).memory lti
  insert_is by tag vector =
      ap (λ n. inserted view.params (whole view lti) n tag vector) (sym w.next) ∙ inserted_over view.params view.memory lti view.next tag vector

  delete_is : (by tag pid : ℕ) → pids_at (live_of h) tag ≡ pid ∷ [] → step index h (whole view lti) (DeleteEntry by tag) ≡ over (applied view (Delete pid)).memory lti
  delete_is by tag pid at = ap (deleted (whole view lti)) at

  replace_is : (by tag gone : ℕ) (vector : List ℕ) → pids_at (live_of h) tag ≡ gone ∷ [] → step index h (whole view lti) (ReplaceEntry by tag vector) ≡ over (applied view (Replace tag gone vector)).memory lti
  replace_is by tag gone vector at =
      ap (λ (ps : List ℕ). inserted view.params (deleted (whole view lti) ps) (next_pid h) tag vector) at
      ∙ ap (λ n. inserted view.params (deleted (whole view lti) (gone ∷ [])) n tag vector) (sym w.next)
      ∙ inserted_over view.params (deleted view.memory (gone ∷ [])) lti view.next tag vector

  begin_is : (by : ℕ) → step index h (whole view lti) (BeginEntry by) ≡ over (applied view Begin).memory lti
  begin_is by = ap (begun_at (whole view lti)) (sym w.at) ∙ begun_over view.memory lti view.at

  -- the graph that the open merge makes
  abbrev made : Graph
  made = merge_of index (whole view lti) view.memory.begun

  end_is : (by : ℕ) (segment : Arc (SegmentView S) Global) → step index h (whole view lti) (EndEntry by segment.value.number) ≡ over (applied view (End segment)).memory made
  end_is by segment = switched_over index view.memory lti view.memory.begun

  pub stands_after : (op : Op S) (e : Entry) → IsEntryOf h op e → StandsFor (applied view op) (with_entry h e)
  stands_after (Insert tag vector) e (by, is) =
      subst (λ (t : Entry). StandsFor (applied view (Insert tag vector)) (with_entry h t)) (sym is)
      (stands_with (InsertEntry by tag vector) (applied view (Insert tag vector)) lti 1 refl refl refl refl (insert_is by tag vector))
  stands_after (Delete pid) e (by, tag, is, at) =
      subst (λ (t : Entry). StandsFor (applied view (Delete pid)) (with_entry h t)) (sym is)
      (stands_with (DeleteEntry by tag) (applied view (Delete pid)) lti 0 refl refl none_more refl (delete_is by tag pid at))
  stands_after (Replace tag gone vector) e (by, is, at) =
      subst (λ (t : Entry). StandsFor (applied view (Replace tag gone vector)) (with_entry h t)) (sym is)
      (stands_with (ReplaceEntry by tag vector) (applied view (Replace tag gone vector)) lti 1 refl refl refl refl (replace_is by tag gone vector at))
  stands_after Begin e (by, is) =
      subst (λ (t : Entry). StandsFor (applied view Begin) (with_entry h t)) (sym is)
      (stands_with (BeginEntry by) (applied view Begin) lti 0 refl refl none_more refl (begin_is by))
  stands_after (End segment) e (by, is) =
      subst (λ (t : Entry). StandsFor (applied view (End segment)) (with_entry h t)) (sym is)
      (stands_with (EndEntry by segment.value.number) (applied view (End segment)) made 0 refl refl none_more refl (end_is by segment))
  stands_after Close e none = absurd none

  -- ---- the long-term graph

  lti_with : (bytes : S → List ℕ) (e e' : Entry) (memory : State) (segment : Option (SegmentView S)) (end : Graph) → e ≡ e' → step index h (whole view lti) e' ≡ over memory end → HoldsIn bytes view.params view.book.book segment end → HoldsIn bytes view.params view.book.book segment (fold_of index (with_entry h e)).lti
  lti_with bytes e e' memory segment end same is holds =
      subst (HoldsIn bytes view.params view.book.book segment)
      (sym (ap (λ (t : Entry). (fold_of index (with_entry h t)).lti) same ∙ ap (λ (s : State). s.lti) (fold_push index h e' ∙ ap (λ (s : State). step index h s e') w.state ∙ is))) holds

  pub holds_after : (bytes : S → List ℕ) (op : Op S) (e : Entry) → IsEntryOf h op e → HoldsGraph bytes view lti → BringsMerge bytes view h op → HoldsGraph bytes (applied view op) (lti_of (applied view op) (with_entry h e))
  holds_after bytes (Insert tag vector) e (by, is) holds brings = lti_with bytes e (InsertEntry by tag vector) (applied view (Insert tag vector)).memory view.segment lti is (insert_is by tag vector) holds
  holds_after bytes (Delete pid) e (by, tag, is, at) holds brings = lti_with bytes e (DeleteEntry by tag) (applied view (Delete pid)).memory view.segment lti is (delete_is by tag pid at) holds
  holds_after bytes (Replace tag gone vector) e (by, is, at) holds brings = lti_with bytes e (ReplaceEntry by tag vector) (applied view (Replace tag gone vector)).memory view.segment lti is (replace_is by tag gone vector at) holds
  holds_after bytes Begin e (by, is) holds brings = lti_with bytes e (BeginEntry by) (applied view Begin).memory view.segment lti is (begin_is by) holds
  holds_after bytes (End segment) e (by, is) holds brings =
      lti_with bytes e (EndEntry by segment.value.number) (applied view (End segment)).memory (Some segment.value) made is (end_is by segment)
      (subst (λ (s : State). Holds view.params view.book.book (bytes segment.value.seal) segment.value (merge_of index s s.begun)) w.state brings)
  holds_after bytes Close e none holds brings = absurd none
