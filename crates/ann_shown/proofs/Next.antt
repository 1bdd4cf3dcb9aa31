-- An operation that leads to the next list may be applied to a view of the list before it, and makes the view of the next.
use Rattle.std.proofs.Common.{◌≡◌, ◌<◌, ℕ, ◌+◌, true, false, List, [], ◌∷◌, refl, sym, ap, subst, ◌∙◌, arith, length-append}
use Rattle.std.specs.Prelude.{Some, All}
use Rattle.std.proofs.lemmas.Bool.{and_parts}
use Rattle.ann_types.specs.Fold.{fold_of}
use Rattle.ann_types.specs.Index.{Index}
use Rattle.ann_types.specs.Legal.{may_follow, IsLegal}
use Rattle.ann_types.specs.Lists.{BasedList, BeginsWith, length_of, with_entry}
use Rattle.ann_types.specs.declared.entry.Entry.{Entry}
use Rattle.ann_types.specs.declared.entry.Entry.TheVariants as entry
use Rattle.ann_types.proofs.Folds.{legal_push}
use Rattle.ann_laws.specs.Replays.{is_end}
use Rattle.ann_line.proofs.Begins.{begins_with, begins_shorter, begins_whole}
use Rattle.ann_segment.specs.Directory.{Item}
use Rattle.ann_segment.specs.Segment.{SegmentView}
use Rattle.ann_named.specs.Named.{IsCurrent}
use Rattle.ann_named.proofs.Current.{stays_current, end_current}
use Rattle.ann_view.specs.Holding.{HoldsGraph, BringsMerge}
use Rattle.ann_view.specs.Stands.{StandsFor, IsEntryOf, lti_of}
use Rattle.ann_view.specs.Steps.{applied, MayEnd, MayApply}
use Rattle.ann_view.specs.View.{IndexView, index_of}
use Rattle.ann_view.specs.declared.op.Op.{Op}
use Rattle.ann_view.specs.declared.op.Op.TheVariants.{Insert, Delete, Replace, Begin, End, Close}
use Rattle.ann_shown.specs.States.{IsStateOf, Leads}

-- ---- one operation on a view that stands for a list

module _ {S : Type 0} (view : IndexView S) (h : BasedList) (stands : StandsFor view h) where
  same_index : (op : Op S) → index_of (applied view op) ≡ index_of view
  same_index (Insert tag vector) = refl
  same_index (Delete pid) = refl
  same_index (Replace tag gone vector) = refl
  same_index Begin = refl
  same_index (End segment) = refl
  same_index Close = refl

  still_open : (op : Op S) (e : Entry) → IsEntryOf h op e → (applied view op).closed ≡ view.closed
  still_open (Insert tag vector) e of = refl
  still_open (Delete pid) e of = refl
  still_open (Replace tag gone vector) e of = refl
  still_open Begin e of = refl
  still_open (End segment) e of = refl
  still_open Close e of = absurd of

  module _ (index : Index) (legal : IsLegal index h) (current : IsCurrent index h view.segment) where
    abbrev Follows : Entry → Type 0
    Follows e = may_follow index.params h (fold_of index h) e ≡ true

    stays : (e : Entry) → Follows e → is_end e ≡ false → IsCurrent index (with_entry h e) view.segment
    stays e f mid = stays_current index h e view.segment legal f mid current

    ends : (segment : SegmentView S) (by : ℕ) → Follows (entry.End by segment.number) → MayEnd view segment → IsCurrent index (with_entry h (entry.End by segment.number)) (Some segment)
    ends segment by f may = end_current index h by segment f (subst (λ n. All (λ (x : Item). x.0 < n) segment.items) stands.next may.below)

    current_now : (op : Op S) (e : Entry) → IsEntryOf h op e → Follows e → MayApply view op → IsCurrent index (with_entry h e) (applied view op).segment
    current_now (Insert tag vector) e (by, is) f m = stays e f (ap is_end is)
    current_now (Delete pid) e (by, tag, is, at) f m = stays e f (ap is_end is)
    current_now (Replace tag gone vector) e (by, is, at) f m = stays e f (ap is_end is)
    current_now Begin e (by, is) f m = stays e f (ap is_end is)
    current_now (End segment) e (by, is) f m =
        subst (λ (x : Entry). IsCurrent index (with_entry h x) (Some segment.value)) (sym is) (ends segment.value by (subst (λ (x : Entry). Follows x) is f) m)
    current_now Close e of f m = absurd of

-- ---- the state of a list, and an operation that leads to one that is one entry longer and begins with it

module _ {S : Type 0} (bytes : S → List ℕ) (index : Index) (sound : Type 0) (view : IndexView S) (op : Op S) (h g : BasedList) (state : IsStateOf bytes index sound view h) (leads : Leads bytes index sound op g) (begins : BeginsWith g h) (next : length_of g ≡ length_of h + 1) where
  -- the list before the entry is this one
  same : h ≡ leads.before
  same =
      let long : length_of (with_entry leads.before leads.entry) ≡ length_of leads.before + 1 = (let more = length-append leads.before.entries (leads.entry ∷ []) in omega arith) in
      let long' : length_of g ≡ length_of leads.before + 1 = ap length_of leads.list ∙ long in
      let from : BeginsWith g leads.before = subst (λ (l : BasedList). BeginsWith l leads.before) (sym leads.list) (begins_with leads.before (leads.entry ∷ [])) in
      begins_whole h leads.before (begins_shorter leads.before h g from begins (omega (arith, next, long'))) (omega (arith, next, long'))

  list_is : g ≡ with_entry h leads.entry
  list_is = leads.list ∙ ap (λ (l : BasedList). with_entry l leads.entry) (sym same)

  pub of_entry : IsEntryOf h op leads.entry
  of_entry = subst (λ (l : BasedList). IsEntryOf l op leads.entry) (sym same) leads.of_entry

  follows : may_follow index.params h (fold_of index h) leads.entry ≡ true
  follows =
      let legal : IsLegal index (with_entry h leads.entry) = subst (λ (l : BasedList). IsLegal index l) list_is leads.legal in
      (and_parts _ _ (sym (legal_push index h leads.entry) ∙ legal.entries)).1

  pub may_apply : MayApply view op
  may_apply = leads.applies view state.indexed (subst (λ (l : BasedList). StandsFor view l) same state.stands)

  pub brings : sound → BringsMerge bytes view h op
  brings so = subst (λ (l : BasedList). BringsMerge bytes view l op) (sym same) (leads.brings so view state.indexed)

  current_after : IsCurrent index g (applied view op).segment
  current_after = subst (λ (l : BasedList). IsCurrent index l (applied view op).segment) (sym list_is) (current_now view h state.stands index state.legal state.current op leads.entry of_entry follows may_apply)

  pub state_after : (new : IndexView S) → new ≡ applied view op → StandsFor new (with_entry h leads.entry) → (sound → HoldsGraph bytes new (lti_of new (with_entry h leads.entry))) → IsStateOf bytes index sound new g
  state_after new is stands holds = record {
    indexed = ap index_of is ∙ (same_index view h state.stands op ∙ state.indexed);
    going = ap (λ (v : IndexView S). v.closed) is ∙ (still_open view h state.stands op leads.entry of_entry ∙ state.going);
    legal = leads.legal;
    stands = subst (λ (l : BasedList). StandsFor new l) (sym list_is) stands;
    current = subst (λ (v : IndexView S). IsCurrent index g v.segment) (sym is) current_after;
    holds = λ so. subst (λ (l : BasedList). HoldsGraph bytes new (lti_of new l)) (sym list_is) (holds so);
  }
