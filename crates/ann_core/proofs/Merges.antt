-- The open merge of a core: what it takes and makes, and its pieces, its segment and its End.
use Rattle.std.proofs.Common.{◌≡◌, ◌∙◌, ℕ, suc, ◌+◌, ◌-◌, ◌*◌, ◌/◌, ◌^◌, ◌≤◌, ◌<◌, Bool, true, false, cond, eqb, not, ◌&&◌, ◌||◌, List, [], ◌∷◌, ◌++◌, map, length, nat_lt, refl, sym, ap, subst, arith}
use Rattle.std.specs.Prelude.{Option, Some, None}
use Rattle.std.specs.List.{list_all, range_with_len}
use Rattle.std.specs.Option.{option_map}
use Rattle.std.proofs.lemmas.Bool.{lt-ltb, ltb-true}
use Rattle.std.proofs.lemmas.List.{map-append, length-map}
use Rattle.ann_types.specs.Fold.{Begun, fold_of}
use Rattle.ann_types.specs.Graph.{Graph}
use Rattle.ann_types.specs.Index.{Index, IsBookOf}
use Rattle.ann_types.specs.Legal.{IsLegal}
use Rattle.ann_types.specs.Lists.{BasedList}
use Rattle.ann_types.specs.Merge.{entered}
use Rattle.ann_types.specs.declared.entry.Entry.{Entry}
use Rattle.ann_types.specs.declared.entry.Entry.TheVariants.{End}
use Rattle.ann_types.specs.declared.params.Params.{Params}
use Rattle.ann_types.proofs.Booleans.{and_false}
use Rattle.ann_mbegin.specs.Begun.{IsJobOf, IsNumberedBelow}
use Rattle.ann_mbegin.specs.Ended.{MayEndMerge}
use Rattle.ann_mbegin.proofs.Ended.{may_end_merge}
use Rattle.ann_mbegin.proofs.Lasts.{numbered_below}
use Rattle.ann_merge.specs.Job.{Order, IsMergeOf}
use Rattle.ann_mlaws.specs.Plan.{IsLti}
use Rattle.ann_named.specs.Named.{IsCurrent, IsNamed}
use Rattle.ann_pq.specs.Codebook.{CodebookView}
use Rattle.ann_segment.specs.Directory.{Item}
use Rattle.ann_segment.specs.Holds.{Fits}
use Rattle.ann_segment.specs.Segment.{SegmentView}
use Rattle.ann_segment.specs.Text.{segment_text}
use Rattle.ann_state.specs.State.{index_with}
use Rattle.ann_vault.specs.Held.{Holding}
use Rattle.ann_vault.specs.Seal.{seal_bytes}
use Rattle.ann_vault.specs.declared.shelf.MemorySeal.{MemorySeal}
use Rattle.ann_view.specs.Holding.{HoldsGraph}
use Rattle.ann_view.specs.Stands.{StandsFor, lti_of}
use Rattle.ann_view.specs.View.{index_of}
use Rattle.ann_core_laws.specs.State.{Piece, CoreState, logged, last_end, open_begin, segment_of, open_points, pieces_of, is_finished, all_finished, joined, rows_of_piece}
use Rattle.ann_core_laws.specs.Events.{refused, done, with_piece, may_finish, piece, may_seal, with_segment, seal, ended, switch, core_step}
use Rattle.ann_core_laws.specs.Facts.{CoreFacts, made_graph}
use Rattle.ann_core_laws.specs.declared.event.Event.{Event}
use Rattle.ann_core_laws.specs.declared.event.Event.TheVariants as event
use Rattle.ann_core_laws.specs.declared.step.Step.{Step}
use Rattle.ann_core_laws.specs.declared.step.Step.TheVariants.{Done, NotAllowed}
use Rattle.ann_core_laws.proofs.Kept.{kept_step, points_are, sealed_graph}
use Rattle.ann_core_laws.proofs.Logged.{no_base}
use Rattle.ann_core.specs.Core.{CoreView, IsTextOf, IsCoreOf, ComesTo}
use Rattle.ann_core.specs.Kept.{Text, held_for}
use Rattle.ann_core.specs.Made.{IsInputOf, IsMadeBy, is_finished_in, are_finished}
use Rattle.ann_core.specs.Opened.{IsOpened}
use Rattle.ann_core.specs.declared.prefix.Opened.{Opened}
use Rattle.ann_core.proofs.Keeping.{index_same, graph_held, more_same}
use Rattle.ann_core.proofs.Coming.{stays, refused_by}

-- ---- the numbers from one on

pub range_next : (p : ℕ → Bool) (a count : ℕ) → a < count → list_all p (range_with_len a (count - a)) ≡ (p a && list_all p (range_with_len (a + 1) (count - (a + 1))))
range_next p a count l = ap (λ (k : ℕ). list_all p (range_with_len a k)) (let k : count - a ≡ suc (count - (a + 1)) = omega arith in k)

-- ---- the text of a segment

abbrev pub text_with : ℕ → List ℕ → Text
text_with number bytes = record { number = number; bytes = bytes }

abbrev pub text_in_segment : SegmentView MemorySeal → Text
text_in_segment segment = text_with segment.number (seal_bytes segment.seal)

-- ---- what a merge takes

older_by : (index : Index) (h : BasedList) (segment : Option (SegmentView MemorySeal)) (position : ℕ) → IsLegal index h → h.base.segment < 2 * h.base.position + 1 → IsNamed h segment → (o : Option Begun) → (fold_of index h).begun ≡ o → Some position ≡ option_map (λ (b : Begun). b.position) o → IsNumberedBelow (2 * position + 1) segment
older_by index h segment position legal first named None e is = absurd (let no : Some position ≡ None = is in cc)
older_by index h segment position legal first named (Some b) e is =
    let same : b.position ≡ position = cc in
    subst (λ (p : ℕ). IsNumberedBelow (2 * p + 1) segment) same (numbered_below index h b segment legal first e named)

pub older : (params : Params) (book : CodebookView) (entries : List Entry) (held : Holding) (opened : Opened) (position : ℕ) → IsOpened held params book entries opened → opened.begun ≡ Some position → IsNumberedBelow (2 * position + 1) opened.view.segment
older params book entries held opened position is begun =
    older_by (index_with params book.book) (logged entries) opened.view.segment position is.legal (omega arith) is.current.named (fold_of (index_with params book.book) (logged entries)).begun refl (sym begun ∙ is.begun)

pub closed : (params : Params) (book : CodebookView) (entries : List Entry) (held : Holding) (opened : Opened) → IsOpened held params book entries opened → opened.begun ≡ None → (o : Option Begun) → (fold_of (index_with params book.book) (logged entries)).begun ≡ o → o ≡ None
closed params book entries held opened is begun None e = refl
closed params book entries held opened is begun (Some b) e =
    absurd (let no : None ≡ Some b.position = sym begun ∙ is.begun ∙ ap (option_map (λ (x : Begun). x.position)) e in cc)

module _ (index : Index) (v : CoreView) (c : CoreState) (core : IsCoreOf index v c) where
  whole : IsLegal index (logged c.list)
  whole = record { base = no_base index.params; entries = core.facts.legal }

  module _ (opened : Opened) (is : IsOpened (held_for v.kept (last_end v.list)) v.params v.book v.list opened) where
    opens : IsOpened (held_for v.kept (last_end c.list)) v.params v.book c.list opened
    opens = subst (λ (t : List Entry). IsOpened (held_for v.kept (last_end t)) v.params v.book t opened) core.list is

    pub none_open : opened.begun ≡ None → open_begin index c ≡ None
    none_open begun =
        closed v.params v.book c.list (held_for v.kept (last_end c.list)) opened opens begun (open_begin index c)
        (ap (λ (i : Index). (fold_of i (logged c.list)).begun) (sym core.index_is))

    pub inputs : (order : Order MemorySeal) → ((h : BasedList) → StandsFor opened.view h → IsCurrent (index_of opened.view) h opened.view.segment → IsJobOf (index_of opened.view) h order) → ((lti : Graph) → HoldsGraph seal_bytes opened.view lti → IsLti seal_bytes (index_of opened.view) order.old lti) → IsInputOf index c order
    inputs order job lti =
        let same : index_of opened.view ≡ index = index_same index v c core c.list core.facts.list_held opened opens in
        record {
          job =
              subst (λ (i : Index). IsJobOf i (logged c.list) order) same
              (job (logged c.list) opens.stands (subst (λ (i : Index). IsCurrent i (logged c.list) opened.view.segment) (sym core.index_is ∙ sym same) opens.current));
          lti =
              subst (λ (i : Index). IsLti seal_bytes i order.old (fold_of i (logged c.list)).lti) same
              (lti (lti_of opened.view (logged c.list)) (graph_held index v c core c.list core.facts.list_held opened opens));
        }

  pub made_by : (order : Order MemorySeal) (segment : SegmentView MemorySeal) → IsInputOf index c order → IsMergeOf (Unit {0}) seal_bytes order segment → IsMadeBy index c segment
  made_by order segment input is =
      let ends : MayEndMerge (Unit {0}) seal_bytes index (logged c.list) order segment = may_end_merge (Unit {0}) seal_bytes index (logged c.list) order segment whole input.job is in
      record {
        begun = input.job.begun;
        open_now = input.job.open_now;
        numbered = is.numbered ∙ input.job.numbered;
        holds = ends.holds tt input.lti;
      }

  facts_of : (e : Event) (d : CoreState) → (core_step index c e).0 ≡ d → CoreFacts index d
  facts_of e d same = subst (CoreFacts index) same (kept_step index c e core.facts)

  -- ---- where no Begin is open

  pub no_piece : (n : ℕ) → open_begin index c ≡ None → ComesTo index (piece index c n (open_begin index c)) v NotAllowed
  no_piece n e = subst (λ (o : Option Begun). ComesTo index (piece index c n o) v NotAllowed) (sym e) (stays index v c core)

  pub no_seal : open_begin index c ≡ None → ComesTo index (seal index c (open_begin index c)) v NotAllowed
  no_seal e = subst (λ (o : Option Begun). ComesTo index (seal index c o) v NotAllowed) (sym e) (stays index v c core)

  -- ---- pieces by their numbers

  finished_by : (xs : List Piece) (n : ℕ) → is_finished_in (map (λ (x : Piece). x.number) xs) n ≡ is_finished xs n
  finished_by [] n = refl
  finished_by (x ∷ xs) n = ap (λ b. eqb x.number n || b) (finished_by xs n)

  finished_is : (n : ℕ) → is_finished_in v.pieces n ≡ is_finished c.pieces n
  finished_is n = ap (λ (t : List ℕ). is_finished_in t n) core.pieces ∙ finished_by c.pieces n

  all_by : (ns : List ℕ) → list_all (is_finished_in v.pieces) ns ≡ list_all (is_finished c.pieces) ns
  all_by [] = refl
  all_by (n ∷ ns) = ap (λ b. b && list_all (is_finished_in v.pieces) ns) (finished_is n) ∙ ap (λ b. is_finished c.pieces n && b) (all_by ns)

  not_below : (a b : ℕ) → b ≤ a → nat_lt a b ≡ false
  not_below a b l = elim (nat_lt a b) as (λ t. nat_lt a b ≡ t → t ≡ false) [ true ↦ λ e. absurd (let below = ltb-true a b e in omega (arith, below, l)) | false ↦ λ e. refl ] refl

  module _ (segment : SegmentView MemorySeal) (made : IsMadeBy index c segment) where
    abbrev b : Begun
    b = made.begun

    abbrev count : ℕ
    count = (length segment.items + 255) / 256

    count_is : pieces_of (open_points index c) ≡ count
    count_is =
        let items : length segment.items ≡ length (made_graph index c.list).points = ap (λ (t : List Item). length t) made.holds.items ∙ length-map (made_graph index c.list).points _ in
        ap pieces_of (points_are index c core.facts) ∙ ap (λ (n : ℕ). (n + 255) / 256) (sym items)

    piece_at : (n : ℕ) (w : CoreView) (step : Step) → ComesTo index (piece index c n (Some b)) w step → ComesTo index (piece index c n (open_begin index c)) w step
    piece_at n w step is = subst (λ (o : Option Begun). ComesTo index (piece index c n o) w step) (sym made.open_now) is

    seal_at : (w : CoreView) (step : Step) → ComesTo index (seal index c (Some b)) w step → ComesTo index (seal index c (open_begin index c)) w step
    seal_at w step is = subst (λ (o : Option Begun). ComesTo index (seal index c o) w step) (sym made.open_now) is

    -- ---- a piece

    pub piece_beyond : (n : ℕ) → count ≤ n → ComesTo index (piece index c n (open_begin index c)) v NotAllowed
    piece_beyond n l =
        piece_at n v NotAllowed
        (refused_by index v c core (with_piece c (open_points index c) n) (may_finish c (open_points index c) n)
        (ap (λ (t : ℕ). nat_lt n t && not (is_finished c.pieces n)) count_is ∙ ap (λ t. t && not (is_finished c.pieces n)) (not_below n count l)))

    pub piece_again : (n : ℕ) → is_finished_in v.pieces n ≡ true → ComesTo index (piece index c n (open_begin index c)) v NotAllowed
    piece_again n e =
        piece_at n v NotAllowed
        (refused_by index v c core (with_piece c (open_points index c) n) (may_finish c (open_points index c) n)
        (ap (λ t. nat_lt n (pieces_of (open_points index c)) && not t) (sym (finished_is n) ∙ e) ∙ and_false (nat_lt n (pieces_of (open_points index c)))))

    pub piece_done : (n : ℕ) → n < count → is_finished_in v.pieces n ≡ false → ComesTo index (piece index c n (open_begin index c)) (record v { pieces = v.pieces ++ n ∷ [] }) Done
    piece_done n l e =
        let one : Piece = record { number = n; rows = rows_of_piece (open_points index c) n } in
        let may : may_finish c (open_points index c) n ≡ true =
        ap (λ (t : ℕ). nat_lt n t && not (is_finished c.pieces n)) count_is
        ∙ ap (λ t. t && not (is_finished c.pieces n)) (lt-ltb n count l)
        ∙ ap not (sym (finished_is n) ∙ e) in
        let now : piece index c n (Some b) ≡ done (with_piece c (open_points index c) n) = ap (λ t. cond t (done (with_piece c (open_points index c) n)) (refused c)) may in
        piece_at n (record v { pieces = v.pieces ++ n ∷ [] }) Done
        (subst (λ (next : CoreState × Step). ComesTo index next (record v { pieces = v.pieces ++ n ∷ [] }) Done) (sym now)
        (record {
          step_is = refl;
          state = record {
            index_is = core.index_is;
            sizes = core.sizes;
            list = core.list;
            shown = core.shown;
            pins = core.pins;
            pieces = ap (λ (t : List ℕ). t ++ n ∷ []) core.pieces ∙ sym (map-append (λ (x : Piece). x.number) c.pieces (one ∷ []));
            sealed = core.sealed;
            kept = core.kept;
            facts = facts_of (event.Piece n) (with_piece c (open_points index c) n) (ap (λ (o : Option Begun). (piece index c n o).0) made.open_now ∙ ap (λ (next : CoreState × Step). next.0) now);
          };
        }))

    -- ---- the segment

    abbrev pieces : ℕ
    pieces = pieces_of (open_points index c)

    abbrev sealed_one : CoreState
    sealed_one = with_segment index c (segment_of b) pieces

    finished_all : are_finished v.pieces count ≡ all_finished c.pieces pieces
    finished_all = all_by (range_with_len 0 count) ∙ ap (λ (n : ℕ). all_finished c.pieces n) (sym count_is)

    pub seal_sealed : v.sealed ≡ true → ComesTo index (seal index c (open_begin index c)) v NotAllowed
    seal_sealed e =
        seal_at v NotAllowed
        (refused_by index v c core sealed_one (may_seal c pieces)
        (ap (λ t. all_finished c.pieces pieces && not t) (sym core.sealed ∙ e) ∙ and_false (all_finished c.pieces pieces)))

    pub seal_early : are_finished v.pieces count ≡ false → ComesTo index (seal index c (open_begin index c)) v NotAllowed
    seal_early e =
        seal_at v NotAllowed
        (refused_by index v c core sealed_one (may_seal c pieces)
        (ap (λ t. t && not c.sealed) (sym finished_all ∙ e)))

    abbrev text : Text
    text = text_in_segment segment

    text_is : (may : may_seal c pieces ≡ true) → IsBookOf v.params v.book.book → length segment.items < 2 ^ 32 → IsTextOf index text (record { number = segment_of b; graph = entered index (joined c.pieces pieces) })
    text_is may book few =
        let graph : entered index (joined c.pieces pieces) ≡ made_graph index c.list = sealed_graph index c core.facts b made.open_now may in
        let items : length segment.items ≡ length (made_graph index c.list).points = ap (λ (t : List Item). length t) made.holds.items ∙ length-map (made_graph index c.list).points _ in
        record {
          number = made.numbered;
          fits = subst (Fits index.params index.book) (sym graph) (record {
            belongs = subst (λ (i : Index). IsBookOf i.params i.book) (sym core.index_is) book;
            sound = made.holds.sound;
            numbers = made.holds.numbers;
            rows = omega (arith, items, few);
          });
          bytes =
              made.holds.text
              ∙ ap (λ (n : ℕ). segment_text index.params index.book (made_graph index c.list) n) made.numbered
              ∙ ap (λ (g : Graph). segment_text index.params index.book g (segment_of b)) (sym graph);
        }

    pub seal_done : are_finished v.pieces count ≡ true → v.sealed ≡ false → IsBookOf v.params v.book.book → length segment.items < 2 ^ 32 → ComesTo index (seal index c (open_begin index c)) (record v { sealed = true; kept = v.kept ++ text ∷ [] }) Done
    seal_done all unsealed book few =
        let may : may_seal c pieces ≡ true = ap (λ t. t && not c.sealed) (sym finished_all ∙ all) ∙ ap not (sym core.sealed ∙ unsealed) in
        let now : seal index c (Some b) ≡ done sealed_one = ap (λ t. cond t (done sealed_one) (refused c)) may in
        seal_at (record v { sealed = true; kept = v.kept ++ text ∷ [] }) Done
        (subst (λ (next : CoreState × Step). ComesTo index next (record v { sealed = true; kept = v.kept ++ text ∷ [] }) Done) (sym now)
        (record {
          step_is = refl;
          state = record {
            index_is = core.index_is;
            sizes = core.sizes;
            list = core.list;
            shown = core.shown;
            pins = core.pins;
            pieces = core.pieces;
            sealed = refl;
            kept = more_same index v.kept c.kept text (record { number = segment_of b; graph = entered index (joined c.pieces pieces) }) core.kept (text_is may book few);
            facts = facts_of event.Seal sealed_one (ap (λ (o : Option Begun). (seal index c o).0) made.open_now ∙ ap (λ (next : CoreState × Step). next.0) now);
          };
        }))

  -- ---- an End

  pub switch_unsealed : (by : ℕ) → v.sealed ≡ false → (o : Option Begun) → ComesTo index (switch c by o) v NotAllowed
  switch_unsealed by e None = stays index v c core
  switch_unsealed by e (Some b) = refused_by index v c core (ended c by (segment_of b)) c.sealed (sym core.sealed ∙ e)

  abbrev with_end : ℕ → ℕ → CoreView
  with_end by position = record v { list = v.list ++ End by (2 * position + 1) ∷ []; sealed = false }

  switch_at : (by position : ℕ) (b : Begun) → open_begin index c ≡ Some b → b.position ≡ position → v.sealed ≡ true → ComesTo index (switch c by (Some b)) (with_end by position) Done
  switch_at by position b opened same sealed =
      let is : c.sealed ≡ true = sym core.sealed ∙ sealed in
      let now : switch c by (Some b) ≡ done (ended c by (segment_of b)) = ap (λ t. cond t (done (ended c by (segment_of b))) (refused c)) is in
      subst (λ (next : CoreState × Step). ComesTo index next (with_end by position) Done) (sym now)
      (record {
        step_is = refl;
        state = record {
          index_is = core.index_is;
          sizes = core.sizes;
          list = ap (λ (t : List Entry). t ++ End by (2 * position + 1) ∷ []) core.list ∙ ap (λ (p : ℕ). c.list ++ End by (2 * p + 1) ∷ []) (sym same);
          shown = core.shown;
          pins = core.pins;
          pieces = core.pieces;
          sealed = refl;
          kept = core.kept;
          facts = facts_of (event.Switch by) (ended c by (segment_of b)) (ap (λ (o : Option Begun). (switch c by o).0) opened ∙ ap (λ (next : CoreState × Step). next.0) now);
        };
      })

  switch_by : (by position : ℕ) → v.sealed ≡ true → (o : Option Begun) → open_begin index c ≡ o → Some position ≡ option_map (λ (x : Begun). x.position) o → ComesTo index (switch c by o) (with_end by position) Done
  switch_by by position sealed None e is = absurd (let no : Some position ≡ None = is in cc)
  switch_by by position sealed (Some b) e is = switch_at by position b e (let same : b.position ≡ position = cc in same) sealed

  pub switch_done : (by position : ℕ) → v.sealed ≡ true → Some position ≡ option_map (λ (x : Begun). x.position) (open_begin index c) → ComesTo index (switch c by (open_begin index c)) (with_end by position) Done
  switch_done by position sealed is = switch_by by position sealed (open_begin index c) refl is
