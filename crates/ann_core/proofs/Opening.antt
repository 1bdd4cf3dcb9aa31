-- The view of a list on the empty base.
use Rattle.std.proofs.Common.{◌≡◌, ◌∙◌, ℕ, ◌+◌, ◌^◌, ◌<◌, List, ◌∷◌, length, refl, sym, ap, subst, arith}
use Rattle.std.specs.Prelude.{Option, Some, None, MatchOption}
use Rattle.std.specs.Option.{option_map}
use Rattle.std.proofs.lemmas.List.{length-append}
use Rattle.ann_types.specs.Fold.{Begun, State as Graphs, fold_of}
use Rattle.ann_types.specs.Graph.{empty_graph}
use Rattle.ann_types.specs.Index.{Index}
use Rattle.ann_types.specs.Lists.{BasedList}
use Rattle.ann_types.specs.declared.entry.Entry.{Entry}
use Rattle.ann_types.specs.declared.entry.Entry.TheVariants.{Begin}
use Rattle.ann_types.specs.declared.params.Params.{Params}
use Rattle.ann_laws.specs.Replays.{StandsForList}
use Rattle.ann_laws.proofs.Ended.{OpensAt, opens_at}
use Rattle.ann_named.specs.Named.{IsCurrent}
use Rattle.ann_pq.specs.Codebook.{CodebookView}
use Rattle.ann_preamble.specs.declared.base.Base.{Base}
use Rattle.ann_reopen.specs.declared.judged.Judged.{Judged}
use Rattle.ann_resume.specs.Resumed.{IsResumed, HoldsAtStart}
use Rattle.ann_segment.specs.Segment.{SegmentView}
use Rattle.ann_state.specs.List.{IsListState}
use Rattle.ann_state.specs.State.{index_with, IsResumable, IsState}
use Rattle.ann_state.specs.declared.state.State.{State}
use Rattle.ann_vault.specs.Held.{Holding}
use Rattle.ann_vault.specs.Seal.{seal_bytes}
use Rattle.ann_vault.specs.declared.shelf.MemorySeal.{MemorySeal}
use Rattle.ann_view.specs.Holding.{HoldsGraph}
use Rattle.ann_view.specs.Stands.{StandsFor, lti_of}
use Rattle.ann_view.specs.View.{IndexView, index_of, whole}
use Rattle.ann_core_laws.specs.State.{logged}
use Rattle.ann_core_laws.proofs.Logged.{no_base}
use Rattle.ann_core.specs.Opened.{IsRead, IsOpened}
use Rattle.ann_core.specs.declared.prefix.Opened.{Opened}

-- a view of a list is one of each list for which that list stands
module _ (view : IndexView MemorySeal) (h left : BasedList) (w : StandsForList (index_of view) h left) where
  stands_on : StandsFor view left → StandsFor view h
  stands_on v = record {
    at = v.at ∙ w.length;
    next = v.next ∙ w.next;
    state = sym w.state ∙ v.state ∙ ap (λ (s : Graphs). whole view s.lti) w.state;
  }

  holds_on : HoldsGraph seal_bytes view (lti_of view left) → HoldsGraph seal_bytes view (lti_of view h)
  holds_on holds = subst (λ (s : Graphs). HoldsGraph seal_bytes view s.lti) w.state holds

abbrev pub base : Base
base = record { position = 0; next = 0; segment = 0 }

module _ (held : Holding) (params : Params) (entries : List Entry) (judged : Judged) (merged : Option (SegmentView MemorySeal)) (w : IsRead held params entries judged merged) where
  abbrev pub listed : IsListState (Unit {0}) seal_bytes held params base entries (record { segment = None; judged = judged })
  listed = record { graph = empty_graph; ground = record { based = no_base params; sealed = refl }; judged = λ index same. w.judged_are index same }

  pub opened_is : (book : CodebookView) (state : State MemorySeal) → (st : IsState (Unit {0}) seal_bytes held params (logged entries) judged.merge state) → (opened : Opened) → IsResumed params book state.start opened.view → StandsFor opened.view (st.resumable book).left → (HoldsAtStart seal_bytes params book.book state.start (st.resumable book).left.base.graph → HoldsGraph seal_bytes opened.view (lti_of opened.view (st.resumable book).left)) → opened.begun ≡ state.begun → IsOpened held params book entries opened
  opened_is book state st opened on stands holds begun =
      let r : IsResumable (Unit {0}) seal_bytes held params book (logged entries) judged.merge state = st.resumable book in
      let params_are : opened.view.params ≡ params = on.params in
      let book_is : opened.view.book ≡ book = on.book in
      let same : index_with params book.book ≡ index_of opened.view =
      ap (λ (p : Params). index_with p book.book) (sym params_are) ∙ ap (λ (k : CodebookView). index_with opened.view.params k.book) (sym book_is) in
      let for_list : StandsForList (index_of opened.view) (logged entries) r.left = subst (λ (i : Index). StandsForList i (logged entries) r.left) same r.stands in
      record {
        legal = (w.judged_are (index_with params book.book) refl).legal;
        index = (params_are, book_is);
        stands = stands_on opened.view (logged entries) r.left for_list stands;
        begun = begun ∙ st.begun (index_with params book.book) refl;
        current = subst (λ (o : Option (SegmentView MemorySeal)). IsCurrent (index_with params book.book) (logged entries) o) (sym on.segment) r.current;
        holds = λ kept. holds_on opened.view (logged entries) r.left for_list (holds (r.holds tt kept));
      }

-- ---- the open Begin is one of the entries

below_by : (index : Index) (entries : List Entry) (o : Option Begun) → (fold_of index (logged entries)).begun ≡ o → MatchOption (option_map (λ (b : Begun). b.position) o) (Unit {0}) (λ p. p < length entries)
below_by index entries None e = tt
below_by index entries (Some b) e =
    let at : OpensAt (logged entries) b = opens_at index (logged entries) b e in
    let whole : length entries ≡ length at.before + length (Begin at.begin_by ∷ at.inside) = ap (λ (t : List Entry). length t) at.entries ∙ length-append at.before (Begin at.begin_by ∷ at.inside) in
    let place = at.position in
    omega (arith, whole, place)

pub begun_below : (index : Index) (entries : List Entry) (o : Option ℕ) → o ≡ option_map (λ (b : Begun). b.position) (fold_of index (logged entries)).begun → MatchOption o (Unit {0}) (λ p. p < length entries)
begun_below index entries o e = subst (λ (t : Option ℕ). MatchOption t (Unit {0}) (λ p. p < length entries)) (sym e) (below_by index entries (fold_of index (logged entries)).begun refl)

pub smaller : (o : Option ℕ) (n : ℕ) → n < 2 ^ 63 → MatchOption o (Unit {0}) (λ p. p < n) → MatchOption o (Unit {0}) (λ p. p < 2 ^ 63)
smaller None n l w = tt
smaller (Some p) n l w = omega (arith, l, w)
