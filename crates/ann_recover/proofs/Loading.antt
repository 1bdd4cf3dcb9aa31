-- The view of the list of a log.
use Rattle.std.proofs.Common.{◌≡◌, ◌<◌, ◌+◌, ◌^◌, ℕ, List, length, refl, sym, ap, subst, ◌∙◌, inl, inr, arith}
use Rattle.std.specs.Prelude.{Option}
use Rattle.std.specs.Option.{option_map}
use Rattle.ann_types.specs.Fold.{Begun, State as Graphs}
use Rattle.ann_types.specs.Index.{Index}
use Rattle.ann_types.specs.Lists.{BasedList}
use Rattle.ann_types.specs.declared.entry.Entry.{Entry}
use Rattle.ann_types.specs.declared.params.Params.{Params}
use Rattle.ann_laws.specs.Replays.{StandsForList}
use Rattle.ann_named.specs.Named.{IsCurrent}
use Rattle.ann_pq.specs.Codebook.{CodebookView}
use Rattle.ann_preamble.specs.declared.base.Base.{Base}
use Rattle.ann_segment.specs.Segment.{SegmentView}
use Rattle.ann_tags.specs.Tags.{map_of}
use Rattle.ann_vault.specs.Held.{Holding}
use Rattle.ann_view.specs.Holding.{HoldsGraph}
use Rattle.ann_view.specs.Stands.{StandsFor, lti_of}
use Rattle.ann_view.specs.View.{IndexView, index_of, whole}
use Rattle.ann_reopen.specs.declared.judged.Merge.{Merge}
use Rattle.ann_resume.specs.Resumed.{IsResumed, HoldsAtStart, position_of, segment_of}
use Rattle.ann_state.specs.List.{list_on, IsListState}
use Rattle.ann_state.specs.Merged.{IsMergeRefused}
use Rattle.ann_state.specs.State.{index_with, IsLeftOf, IsResumable, IsState}
use Rattle.ann_state.specs.declared.list.ListState.{ListState}
use Rattle.ann_state.specs.declared.refused.ListRefused.{ListRefused}
use Rattle.ann_state.specs.declared.refused.ListRefused.TheVariants as listed
use Rattle.ann_state.specs.declared.state.State.{State}
use Rattle.ann_state.specs.List as read
use Rattle.ann_recover.specs.Loaded.{IsReplayed, IsLoaded, IsLoadRefused}
use Rattle.ann_recover.specs.Refusal.{of_list}
use Rattle.ann_recover.specs.declared.load.Loaded.{Loaded}
use Rattle.ann_recover.proofs.Moved.{fault_at}

-- ---- a view of a list is one of each list for which that list stands

module _ {S : Type 0} (view : IndexView S) (h left : BasedList) (w : StandsForList (index_of view) h left) where
  pub stands_on : StandsFor view left → StandsFor view h
  stands_on v = record {
    at = v.at ∙ w.length;
    next = v.next ∙ w.next;
    state = sym w.state ∙ v.state ∙ ap (λ (s : Graphs). whole view s.lti) w.state;
  }

  pub holds_on : (bytes : S → List ℕ) → HoldsGraph bytes view (lti_of view left) → HoldsGraph bytes view (lti_of view h)
  holds_on bytes holds = subst (λ (s : Graphs). HoldsGraph bytes view s.lti) w.state holds

-- ---- refusals

module _ {S : Type 0} (tells : Type 0) (bytes : S → List ℕ) (held : Holding) (params : Params) (base : Base) (entries : List Entry) where
  pub list_refused : (why : ListRefused) → read.IsListRefused tells bytes held params base entries why → IsLoadRefused tells bytes held params base entries (of_list why)
  list_refused (listed.BadLog entry) is = is
  list_refused (listed.BadSegment block) is = inl is
  list_refused listed.Disk is = tt
  list_refused listed.Memory is = tt

  pub merge_refused : (list : ListState S) → IsListState tells bytes held params base entries list → (new : Holding) → (tells → new ≡ held) → (why : ListRefused) → IsMergeRefused tells new params list.judged.merge why → IsLoadRefused tells bytes held params base entries (of_list why)
  merge_refused list state new same (listed.BadLog entry) is = absurd is
  merge_refused list state new same (listed.BadSegment block) is = inr (record { list = list; state = state; fault = fault_at tells bytes held new same params list.judged.merge block is })
  merge_refused list state new same listed.Disk is = tt
  merge_refused list state new same listed.Memory is = tt

-- ---- the view

module _ {S : Type 0} (tells : Type 0) (bytes : S → List ℕ) (held : Holding) (params : Params) (book : CodebookView) (base : Base) (entries : List Entry) (list : ListState S) (is : IsListState tells bytes held params base entries list) (state : State S) (st : IsState tells bytes held params (list_on base is.graph entries) list.judged.merge state) where
  abbrev index : Index
  index = index_with params book.book

  abbrev h : BasedList
  h = list_on base is.graph entries

  abbrev r : IsResumable tells bytes held params book h list.judged.merge state
  r = st.resumable book

  abbrev pub replayed_by : (m : Option Merge) → m ≡ list.judged.merge → IsReplayed tells bytes held params book base entries m
  replayed_by m same = record {
    graph = is.graph;
    segment = list.segment;
    ground = is.ground;
    legal = (is.judged index refl).legal;
    left = r.left;
    is_left = subst (λ (o : Option Merge). IsLeftOf index h o r.left) (sym same) r.is_left;
    stands = r.stands;
  }

  pub short : base.position + length entries < 2 ^ 63 → position_of state.start + length state.entries.items < 2 ^ 64
  short room = (let all : position_of state.start + length state.entries.items ≡ base.position + length entries = st.long in omega (arith, all, room))

  pub loaded_is : (view : IndexView S) → IsResumed params book state.start view → StandsFor view r.left → ((HoldsAtStart bytes params book.book state.start r.left.base.graph) → HoldsGraph bytes view (lti_of view r.left)) → (loaded : Loaded S) → loaded.view ≡ view → loaded.tail.items ≡ state.entries.items → loaded.tags.pids ≡ state.tags.pids → loaded.begun ≡ state.begun → (same : loaded.merge ≡ list.judged.merge) → IsLoaded tells bytes held params book base entries loaded
  loaded_is view on stands holds loaded at tail tags begun merge =
      let segment : segment_of state.start ≡ loaded.view.segment = sym (ap (λ (v : IndexView S). v.segment) at ∙ on.segment) in
      record {
        list = replayed_by loaded.merge merge;
        tail_is = tail ∙ sym r.resumed.entries;
        stands_for = subst (λ (v : IndexView S). StandsFor v r.left) (sym at) stands;
        index = subst (λ (v : IndexView S). (v.params ≡ params) × (v.book ≡ book)) (sym at) (on.params, on.book);
        open_now = ap (λ (v : IndexView S). v.closed) at ∙ on.open_now;
        tags_are = tags ∙ st.tags ∙ ap map_of (sym r.stands.live);
        begun_is = begun ∙ st.begun index refl ∙ ap (λ (s : Graphs). option_map (λ (b : Begun). b.position) s.begun) (sym r.stands.state);
        holds = λ told kept. subst (λ (v : IndexView S). HoldsGraph bytes v (lti_of v r.left)) (sym at) (holds (r.holds told kept));
        current = subst (λ (o : Option (SegmentView S)). IsCurrent index h o) segment r.current;
        left_current = subst (λ (o : Option (SegmentView S)). IsCurrent index r.left o) segment r.left_current;
      }
