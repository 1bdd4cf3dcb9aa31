-- What an index is resumed from stands for the list of the log.
use Rattle.std.proofs.Common.{◌≡◌, ◌∙◌, ℕ, ◌+◌, true, false, List, [], ◌∷◌, ◌++◌, length, length-append, refl, sym, ap, subst, arith}
use Rattle.std.specs.Prelude.{Option, Some, None, MatchOption}
use Rattle.std.specs.List.{list_any}
use Rattle.ann_types.specs.Codes.{Book}
use Rattle.ann_types.specs.Index.{Index}
use Rattle.ann_types.specs.Legal.{IsLegal}
use Rattle.ann_types.specs.Lists.{BasedList, names_of}
use Rattle.ann_types.specs.declared.entry.Entry.{Entry}
use Rattle.ann_types.specs.declared.entry.Entry.TheVariants.{Begin, End}
use Rattle.ann_types.specs.declared.params.Params.{Params}
use Rattle.ann_laws.specs.Replays.{is_end, HasMerge, LastMerge, StandsForList}
use Rattle.ann_laws.proofs.Replayed.{replay_law, merge_number}
use Rattle.ann_named.specs.Named.{AreBelow, IsCurrent}
use Rattle.ann_named.proofs.Current.{base_current}
use Rattle.ann_named.proofs.LastEnd.{merged_current}
use Rattle.ann_pq.specs.Codebook.{CodebookView}
use Rattle.ann_preamble.specs.Base.{is_base}
use Rattle.ann_preamble.specs.declared.base.Base.{Base}
use Rattle.ann_vault.specs.Held.{Holding}
use Rattle.ann_segment.specs.Segment.{SegmentView}
use Rattle.ann_reopen.specs.Judged.{IsJudged, IsLastMerge}
use Rattle.ann_reopen.specs.declared.judged.Merge.{Merge}
use Rattle.ann_resume.specs.Cut.{on_merge, StandsIn, IsTailOf}
use Rattle.ann_resume.specs.Resumed.{IsResumedBy, CanStart, HoldsAtStart, position_of, next_of, segment_of}
use Rattle.ann_resume.specs.declared.view.Start.{Start}
use Rattle.ann_resume.proofs.Cutting.{length-gone_from}
use Rattle.ann_base.specs.Front.{IsOpenedBelow}
use Rattle.ann_state.specs.List.{list_on, IsListState}
use Rattle.ann_state.specs.Merged.{IsMerged}
use Rattle.ann_state.specs.Start.{start_at, IsOnBase, IsOnMerge}
use Rattle.ann_state.specs.State.{index_with, IsState}
use Rattle.ann_state.specs.declared.list.ListState.{ListState}
use Rattle.ann_state.specs.declared.state.State.{State}
use Rattle.ann_state.proofs.Marks.{none_ends, no_ends, left_ends}
use Rattle.ann_state.proofs.Starts.{starts_at, starts_next, start_segment, start_named, start_below, can_start, start_holds}

-- each legal list stands for itself
same_list : (index : Index) (h : BasedList) → IsLegal index h → StandsForList index h h
same_list index h legal = record { legal = legal; length = refl; state = refl; live = refl; next = refl }

module _ {S : Type 0} (tells : Type 0) (bytes : S → List ℕ) (held : Holding) (params : Params) (base : Base) (entries : List Entry) (list : ListState S) (is : IsListState tells bytes held params base entries list) where
  abbrev whole : BasedList
  whole = list_on base is.graph entries

  judged_by : (book : Book) → IsJudged (index_with params book) whole list.judged
  judged_by book = is.judged (index_with params book) refl

  -- ---- no merge has ended

  module _ (valid : is_base base ≡ true) (none : list.judged.merge ≡ None) (state : State S) (on : IsOnBase base list.segment list.judged entries state) where
    place : position_of state.start ≡ base.position
    place = ap position_of on.start ∙ starts_at tells bytes held params base is.graph valid list.segment is.ground

    none_end : list_any is_end entries ≡ false
    none_end = subst (λ (m : Option Merge). MatchOption m (list_any is_end entries ≡ false) (IsLastMerge whole)) none (judged_by []).merge

    resumed_by : (book : CodebookView) → IsResumedBy params book state.start state.entries.items state.gone.items whole
    resumed_by book = record {
      legal = (judged_by book.book).legal;
      position = sym place;
      next = sym (ap next_of on.start ∙ starts_next tells bytes held params base is.graph valid list.segment is.ground);
      entries = sym on.entries;
      no_end = none_ends entries none_end;
      deletes = on.gone ∙ (judged_by book.book).gone;
    }

    base_is_current : (book : Book) → IsCurrent (index_with params book) whole (segment_of state.start)
    base_is_current book =
        subst (λ (o : Option (SegmentView S)). IsCurrent (index_with params book) whole o)
        (sym (ap segment_of on.start ∙ start_segment base.position base.next list.segment))
        (base_current (index_with params book) whole list.segment none_end
        (start_named tells bytes held params base is.graph list.segment is.ground)
        (start_below tells bytes held params base is.graph list.segment is.ground))

    pub base_state : IsState tells bytes held params whole None state
    base_state = record {
      can_start = subst (CanStart params) (sym on.start) (can_start tells bytes held params base is.graph list.segment is.ground);
      long = (let at = place in let many = ap (λ (t : List Entry). length t) on.entries in omega (arith, at, many));
      tags = on.found.tags ∙ (judged_by []).tags;
      begun = λ index same. on.found.begun ∙ (is.judged index same).begun;
      resumable = λ book. record {
        left = whole;
        is_left = (none_end, refl);
        stands = same_list (index_with params book.book) whole (judged_by book.book).legal;
        resumed = resumed_by book;
        holds = λ told kept.
            subst (λ (o : Option (Start S)). HoldsAtStart bytes params book.book o is.graph) (sym on.start)
            (start_holds tells bytes held params base is.graph list.segment is.ground entries book.book told kept);
        current = base_is_current book.book;
        left_current = base_is_current book.book;
      };
    }

  -- ---- on the last merge that ended

  module _ (merge : Merge) (some : list.judged.merge ≡ Some merge) (segment : SegmentView S) (opened : IsOpenedBelow tells bytes held params merge.segment merge.next segment) (state : State S) (on : IsOnMerge base merge (Some segment) list.judged entries state) where
    last_by : (book : Book) → IsLastMerge whole merge
    last_by book = subst (λ (m : Option Merge). MatchOption m (list_any is_end entries ≡ false) (IsLastMerge whole)) some (judged_by book).merge

    abbrev left_by : Book → BasedList
    left_by book = on_merge (index_with params book) whole merge (last_by book)

    stands_by : (book : Book) → StandsForList (index_with params book) whole (left_by book)
    stands_by book =
        let last = last_by book in
        replay_law (index_with params book) whole last.before last.inside merge.segment last.behind (judged_by book).legal last.merge

    tail_by : (book : Book) → IsTailOf (index_with params book) base.position whole merge (last_by book) entries list.judged.gone.items state.entries.items state.gone.items
    tail_by book = on.tail (index_with params book) whole (last_by book)

    left_entries : (book : Book) → (left_by book).entries ≡ state.entries.items
    left_entries book = sym ((tail_by book).entries refl refl)

    left_place : (book : Book) → (left_by book).base.position ≡ position_of state.start
    left_place book = (let at = (last_by book).position in let start = ap position_of on.start in omega (arith, at, start))

    abbrev last_merge : (book : Book) → LastMerge whole
    last_merge book =
        let last = last_by book in
        record {
          before = last.before;
          inside = last.inside;
          segment = merge.segment;
          behind = last.behind;
          merge = last.merge;
          number = merge_number (index_with params book) whole last.before last.inside merge.segment last.behind (judged_by book).legal last.merge;
        }

    merge_resumed : (book : CodebookView) → IsResumedBy params book state.start state.entries.items state.gone.items (left_by book.book)
    merge_resumed book = record {
      legal = (stands_by book.book).legal;
      position = left_place book.book;
      next = sym (last_by book.book).next ∙ sym (ap next_of on.start);
      entries = left_entries book.book;
      no_end = left_ends (last_by book.book).inside (last_by book.book).behind (last_by book.book).merge.inner (last_by book.book).merge.last;
      deletes = (tail_by book.book).gone refl (judged_by book.book).legal refl (judged_by book.book).gone;
    }

    started : segment_of state.start ≡ Some segment
    started = ap segment_of on.start

    merge_some : (book : Book) → merge.segment ≡ 0 → ⊥
    merge_some book none =
        let last = last_by book in
        let number = merge_number (index_with params book) whole last.before last.inside merge.segment last.behind (judged_by book).legal last.merge in
        omega (arith, number, none)

    whole_current : (book : Book) → IsCurrent (index_with params book) whole (segment_of state.start)
    whole_current book =
        let last = last_by book in
        subst (λ (o : Option (SegmentView S)). IsCurrent (index_with params book) whole o) (sym started)
        (merged_current (index_with params book) whole last.before last.inside last.behind segment (judged_by book).legal
        (subst (λ (n : ℕ). HasMerge whole last.before last.inside n last.behind) (sym opened.found.number) last.merge)
        (subst (λ (n : ℕ). AreBelow n (Some segment)) last.next opened.below))

    left_is_current : (book : Book) → IsCurrent (index_with params book) (left_by book) (segment_of state.start)
    left_is_current book =
        let last = last_by book in
        subst (λ (o : Option (SegmentView S)). IsCurrent (index_with params book) (left_by book) o) (sym started)
        (base_current (index_with params book) (left_by book) (Some segment) (no_ends (left_by book).entries (left_ends last.inside last.behind last.merge.inner last.merge.last))
        (opened.found.number, merge_some book)
        (subst (λ (n : ℕ). AreBelow n (Some segment)) last.next opened.below))

    pub merge_state : IsState tells bytes held params whole (Some merge) state
    merge_state = record {
      can_start = subst (CanStart params) (sym on.start) (let can : CanStart params (start_at (merge.position + 2) merge.next (Some segment)) = record { code_bytes = opened.found.code_bytes; below = opened.below } in can);
      long = (
          let at = left_place [] in let many = ap (λ (t : List Entry). length t) (left_entries []) in let all = (stands_by []).length in omega (arith, at, many, all));
      tags = on.found.tags ∙ (judged_by []).tags;
      begun = λ index same. on.found.begun ∙ (is.judged index same).begun;
      resumable = λ book. record {
        left = left_by book.book;
        is_left = (last_by book.book, refl);
        stands = stands_by book.book;
        resumed = merge_resumed book;
        holds = λ told kept.
            subst (λ (o : Option (Start S)). HoldsAtStart bytes params book.book o (left_by book.book).base.graph) (sym on.start)
            (opened.found.graph told book.book (left_by book.book).base.graph (kept.merged (last_merge book.book)));
        current = whole_current book.book;
        left_current = left_is_current book.book;
      };
    }

  -- ---- by the last merge that judging found

  pub on_base_is : is_base base ≡ true → list.judged.merge ≡ None → (state : State S) → IsOnBase base list.segment list.judged entries state → IsState tells bytes held params whole list.judged.merge state
  on_base_is valid none state on = subst (λ (m : Option Merge). IsState tells bytes held params whole m state) (sym none) (base_state valid none state on)

  merged_is : (merge : Merge) → list.judged.merge ≡ Some merge → (merged : Option (SegmentView S)) → IsMerged tells bytes held params (Some merge) merged → (state : State S) → IsOnMerge base merge merged list.judged entries state → IsState tells bytes held params whole (Some merge) state
  merged_is merge some None opened state on = absurd opened
  merged_is merge some (Some segment) opened state on = merge_state merge some segment opened state on

  pub on_merge_is : (merge : Merge) → list.judged.merge ≡ Some merge → (merged : Option (SegmentView S)) → IsMerged tells bytes held params list.judged.merge merged → (state : State S) → IsOnMerge base merge merged list.judged entries state → IsState tells bytes held params whole list.judged.merge state
  on_merge_is merge some merged opened state on =
      subst (λ (m : Option Merge). IsState tells bytes held params whole m state) (sym some)
      (merged_is merge some merged (subst (λ (m : Option Merge). IsMerged tells bytes held params m merged) some opened) state on)

  -- ---- the places of its marks

  module _ (merge : Merge) (some : list.judged.merge ≡ Some merge) where
    pub stands_in : StandsIn base.position merge (length entries)
    stands_in =
        let last : IsLastMerge whole merge = subst (λ (m : Option Merge). MatchOption m (list_any is_end entries ≡ false) (IsLastMerge whole)) some (judged_by []).merge in
        let begin = last.position in
        let end = last.end in
        let all : length entries ≡ length ((last.before ++ Begin last.merge.begin_by ∷ last.inside) ++ End last.merge.end_by merge.segment ∷ last.behind) = ap (λ (t : List Entry). length t) last.merge.entries in
        let outer = length-append (last.before ++ Begin last.merge.begin_by ∷ last.inside) (End last.merge.end_by merge.segment ∷ last.behind) in
        let inner = length-append last.before (Begin last.merge.begin_by ∷ last.inside) in
        record { behind = omega (arith, begin); order = omega (arith, end); within = omega (arith, begin, end, all, outer, inner) }

  pub gone_many : length list.judged.gone.items ≡ length entries
  gone_many = ap (λ (t : List (Option ℕ)). length t) (judged_by []).gone ∙ length-gone_from (names_of is.graph.points) base.next entries
