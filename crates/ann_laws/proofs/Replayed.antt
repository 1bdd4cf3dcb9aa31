-- The replay law: a list with an End is, behind its Begin, a list on the graph that the merge made.
use Rattle.std.proofs.Common.{◌≡◌, ◌≢◌, ℕ, ◌+◌, ◌*◌, ◌<◌, true, false, cond, eqb, not, List, [], ◌∷◌, ◌++◌, ◌&&◌, refl, sym, ap, ◌∙◌, subst, arith, filter, drop, length, append_assoc, append-nil, eqb-true, eq-eqb, AllPairs}
use Rattle.std.specs.Prelude.{Option, Some, None, nat_lt}
use Rattle.std.specs.List.{AllByRecursion, list_all, slice_get}
use Rattle.std.proofs.lemmas.Bool.{false≢true, and_parts, or_parts, not-true, both_ways}
use Rattle.std.proofs.lemmas.List.{length_push, take_all, drop_all, nil_from_length, length-append}
use Rattle.std.proofs.lemmas.List.Sums.{sum_by-append}
use Rattle.std.proofs.lemmas.List.Kept.{AllPairs-cons}
use Rattle.std.proofs.lemmas.List.Elements.{All-from_recursion}
use Rattle.ann_types.specs.Order.{has}
use Rattle.ann_types.specs.Graph.{Point, Graph, empty_graph, is_empty, pids_of, IsGraphOf}
use Rattle.ann_types.specs.Put.{put}
use Rattle.ann_types.specs.Index.{Index}
use Rattle.ann_types.specs.Merge.{without, survivors}
use Rattle.ann_types.specs.Lists.{ListBase, BasedList, IsBaseOf, bare, length_of, with_entry, with_entries, makes_point, next_pid, Names, names_of, is_live, pids_at, live_from, live_of}
use Rattle.ann_types.specs.Fold.{Begun, State, all_points, alive_of, start, frozen, grown, inserted, deleted, opened, begun_at, merge_of, switched, step, fold_from, fold_of}
use Rattle.ann_types.specs.Legal.{pid_end, fits, names_segment, may_follow, legal_from, is_legal, IsLegal}
use Rattle.ann_types.specs.declared.params.Params.{Params}
use Rattle.ann_types.specs.declared.entry.Entry.{Entry}
use Rattle.ann_types.specs.declared.entry.Entry.TheVariants.{Insert, Delete, Begin, End, Replace}
use Rattle.ann_types.proofs.Sets.{all_filter, all_map, all_of_map}
use Rattle.ann_types.proofs.Named.{pids_are, names_merge_of}
use Rattle.ann_types.proofs.Folds.{next_pid_push, live_push, live_entries, fold_entries, fold_push, legal_entries, legal_push}
use Rattle.ann_types.proofs.Alive.{Good, pids, good_of}
use Rattle.ann_types.proofs.Entered.{IsEnteredFirst, memory_entered}
use Rattle.ann_types.proofs.States.{fold_leaves_graphs}
use Rattle.ann_types.proofs.Tagged.{TagsDiffer, tags_differ}
use Rattle.ann_laws.specs.Replays.{is_mark, is_end, HasMerge, with_only, rebased_on, rebased, StandsForList}
use Rattle.ann_types.proofs.Alive.{frozen_points, names_survivors}
use Rattle.ann_laws.proofs.Outlined.{without_all}
use Rattle.ann_laws.proofs.Commuted.{Agree, agree_push, state, closed, Keeps, merge_kept, Inner, fold_inner}

-- ---- lists that agree in length too

pub record Alike (h g : BasedList) : Type 0 where
  pub length : length_of g ≡ length_of h
  pub next : next_pid g ≡ next_pid h
  pub live : live_of g ≡ live_of h

pub alike_push : (h g : BasedList) (e : Entry) → Alike h g → Alike (with_entry h e) (with_entry g e)
alike_push h g e a =
    let next_live : Agree (with_entry h e) (with_entry g e) = agree_push h g e (record { next = a.next; live = a.live }) in
    record {
      length = (let one = length_push h.entries e in let two = length_push g.entries e in let same = a.length in omega arith);
      next = next_live.next;
      live = next_live.live;
    }

step_alike : (index : Index) (h g : BasedList) (s : State) (e : Entry) → Alike h g → step index g s e ≡ step index h s e
step_alike index h g s (Insert by tag vector) a = ap (λ n. inserted index.params s n tag vector) a.next
step_alike index h g s (Delete by tag) a = ap (λ (t : Names). deleted s (pids_at t tag)) a.live
step_alike index h g s (Begin by) a = ap (λ n. begun_at s n) a.length
step_alike index h g s (End by segment) a = refl
step_alike index h g s (Replace by tag vector) a =
    ap (λ (t : Names). inserted index.params (deleted s (pids_at t tag)) (next_pid g) tag vector) a.live
    ∙ ap (λ n. inserted index.params (deleted s (pids_at (live_of h) tag)) n tag vector) a.next

follow_alike : (params : Params) (h g : BasedList) (s : State) (e : Entry) → Alike h g → may_follow params g s e ≡ may_follow params h s e
follow_alike params h g s (Insert by tag vector) a =
    ap (λ n. (eqb (length vector) params.d && nat_lt n pid_end) && not (is_live (live_of g) tag)) a.next
    ∙ ap (λ (x : Names). fits params h vector && not (is_live x tag)) a.live
follow_alike params h g s (Delete by tag) a = ap (λ (x : Names). is_live x tag) a.live
follow_alike params h g s (Begin by) a = refl
follow_alike params h g s (End by segment) a = refl
follow_alike params h g s (Replace by tag vector) a =
    ap (λ n. (eqb (length vector) params.d && nat_lt n pid_end) && is_live (live_of g) tag) a.next
    ∙ ap (λ (x : Names). fits params h vector && is_live x tag) a.live

-- Lists that agree in length, next Pid and live tags go on alike.
pub fold_alike : (index : Index) (h g : BasedList) (s : State) (es : List Entry) → Alike h g → fold_from index g s es ≡ fold_from index h s es
fold_alike index h g s [] a = refl
fold_alike index h g s (e ∷ es) a =
    ap (λ (t : State). fold_from index (with_entry g e) t es) (step_alike index h g s e a)
    ∙ fold_alike index (with_entry h e) (with_entry g e) (step index h s e) es (alike_push h g e a)

pub legal_alike : (index : Index) (h g : BasedList) (s : State) (es : List Entry) → Alike h g → legal_from index g s es ≡ legal_from index h s es
legal_alike index h g s [] a = refl
legal_alike index h g s (e ∷ es) a =
    ap (λ t. t && legal_from index (with_entry g e) (step index g s e) es) (follow_alike index.params h g s e a)
    ∙ ap (λ (t : State). may_follow index.params h s e && legal_from index (with_entry g e) t es) (step_alike index h g s e a)
    ∙ ap (λ t. may_follow index.params h s e && t) (legal_alike index (with_entry h e) (with_entry g e) (step index h s e) es (alike_push h g e a))

pub alike_entries : (h g : BasedList) (es : List Entry) → Alike h g → Alike (with_entries h es) (with_entries g es)
alike_entries h g es a = record {
  length = (let one = length-append h.entries es in let two = length-append g.entries es in let same = a.length in omega arith);
  next = (let one = sum_by-append (λ x. cond (makes_point x) 1 0) h.entries es in let two = sum_by-append (λ x. cond (makes_point x) 1 0) g.entries es in let same = a.next in omega arith);
  live = live_entries g es ∙ ap (λ t. live_from t (next_pid g) es) a.live ∙ ap (λ n. live_from (live_of h) n es) a.next ∙ sym (live_entries h es);
}

-- ---- an entry that is no End leaves the long-term graph

pub grown_lti : (params : Params) (s : State) (g : Graph) → (grown params s g).lti ≡ s.lti
grown_lti params s g = elim (eqb (length g.points) params.freeze_at) as (λ t. (cond t (frozen s g) (record s { rw = g })).lti ≡ s.lti) [ true ↦ refl | false ↦ refl ]

step_lti : (index : Index) (h : BasedList) (s : State) (e : Entry) → is_end e ≡ false → (step index h s e).lti ≡ s.lti
step_lti index h s (Insert by tag vector) n = grown_lti index.params s (put index.params s.rw (next_pid h) tag vector)
step_lti index h s (Delete by tag) n = refl
step_lti index h s (Begin by) n = elim (is_empty s.rw) as (λ t. (opened (cond t s (frozen s s.rw)) (length_of h)).lti ≡ s.lti) [ true ↦ refl | false ↦ refl ]
step_lti index h s (End by segment) n = absurd (false≢true (sym n))
step_lti index h s (Replace by tag vector) n = grown_lti index.params (deleted s (pids_at (live_of h) tag)) (put index.params s.rw (next_pid h) tag vector)

pub fold_lti : (index : Index) (h : BasedList) (s : State) (es : List Entry) → list_all (λ e. not (is_end e)) es ≡ true → (fold_from index h s es).lti ≡ s.lti
fold_lti index h s [] n = refl
fold_lti index h s (e ∷ es) n =
    let both = and_parts (not (is_end e)) (list_all (λ x. not (is_end x)) es) n in
    fold_lti index (with_entry h e) (step index h s e) es both.1 ∙ step_lti index h s e (not-true (is_end e) both.0)

-- ---- directly behind a Begin

-- what the state of an open Begin is before it is opened
abbrev pub settled : State → State
settled s = cond (is_empty s.rw) s (frozen s s.rw)

abbrev pub begun_with : State → ℕ → Begun
begun_with s position = record { position = position; frozen = length (settled s).ros; gone = (settled s).dead }

empty_is : (g : Graph) → IsEnteredFirst g → g.points ≡ [] → g ≡ empty_graph
empty_is g w e =
    ap (λ (o : Option ℕ). graph o g.points) (w ∙ ap (λ (ps : List Point). first ps) e) ∙ ap (λ (ps : List Point). graph None ps) e
  where
    graph : Option ℕ → List Point → Graph
    graph o ps = record { entry = o; points = ps }

    first : List Point → Option ℕ
    first ps = slice_get (pids_of ps) 0

settled_rw : (s : State) → IsEnteredFirst s.rw → (settled s).rw ≡ empty_graph
settled_rw s w =
    elim (is_empty s.rw) as (λ t. is_empty s.rw ≡ t → (cond t s (frozen s s.rw)).rw ≡ empty_graph) [
      | true ↦ λ e. empty_is s.rw w (nil_from_length s.rw.points (eqb-true (length s.rw.points) 0 e))
      | false ↦ λ e. refl
    ] refl

-- An End directly behind its Begin leaves the graph alone.
closed_begun : (s : State) (position : ℕ) (graph : Graph) → IsEnteredFirst s.rw → closed graph (begun_with s position) (begun_at s position) ≡ start graph
closed_begun s position graph w =
    let x : State = settled s in
    ap (λ (r : Graph). state r (drop (length x.ros) x.ros) graph (without x.dead x.dead) None) (settled_rw s w)
    ∙ ap (λ (gs : List Graph). state empty_graph gs graph (without x.dead x.dead) None) (drop_all (length x.ros) x.ros (omega arith))
    ∙ ap (λ (d : List ℕ). state empty_graph [] graph d None) (without_all x.dead x.dead (λ p h. h))

-- The merge of what stands before a Begin has the points that weren't deleted there.
names_merged_begun : (index : Index) (s : State) (position : ℕ) → IsEnteredFirst s.rw → names_of (merge_of index (begun_at s position) (Some (begun_with s position))).points ≡ alive_of (begun_at s position)
names_merged_begun index s position w =
    let x : State = settled s in
    let older : List Point = x.lti.points ++ frozen_points x.ros in
    names_merge_of index (begun_at s position) (begun_with s position)
    ∙ ap (λ (gs : List Graph). names_of (survivors x.dead (x.lti.points ++ frozen_points gs))) (take_all (length x.ros) x.ros (omega arith))
    ∙ names_survivors x.dead older
    ∙ ap (λ (ps : List Point). filter (λ e. not (has x.dead e.1)) (names_of ps))
    (sym (append-nil older) ∙ ap (λ (r : Graph). older ++ r.points) (sym (settled_rw s w)))

-- ---- what a base must be

differ_from_tag : (tag : ℕ) (points : List Point) → is_live (names_of points) tag ≡ false → AllByRecursion (λ (y : Point). tag ≢ y.tag) points
differ_from_tag tag [] h = tt
differ_from_tag tag (y ∷ points) h =
    let both = or_parts (eqb y.tag tag) (is_live (names_of points) tag) h in
    (λ e. both_ways _ both.0 (eq-eqb y.tag tag (sym e)), differ_from_tag tag points both.1)

pairs_from_differ : (points : List Point) → TagsDiffer (names_of points) → AllPairs (λ (a : Point) (b : Point). a.tag ≢ b.tag) points
pairs_from_differ [] d = λ i j y l m. absurd (omega arith)
pairs_from_differ (x ∷ points) (n, d) =
    AllPairs-cons (λ (a : Point) (b : Point). a.tag ≢ b.tag) x points (All-from_recursion (λ (y : Point). x.tag ≢ y.tag) points (differ_from_tag x.tag points n)) (pairs_from_differ points d)

live_below : (next : ℕ) (live : Names) (s : State) → Good next live s → AllByRecursion (λ p. p < next) (pids live)
live_below next live s w =
    let all : Names = names_of (all_points s) in
    subst (λ (t : Names). AllByRecursion (λ p. p < next) (pids t)) (sym w.alive)
    (all_map (λ p. p < next) (λ (e : ℕ × ℕ). e.1) (alive_of s) (all_filter (λ (e : ℕ × ℕ). e.1 < next) (λ e. not (has s.dead e.1)) all (all_of_map (λ p. p < next) (λ (e : ℕ × ℕ). e.1) all w.below)))

points_below : (next : ℕ) (live : Names) (points : List Point) → names_of points ≡ live → AllByRecursion (λ p. p < next) (pids live) → AllByRecursion (λ (x : Point). x.pid < next) points
points_below next live points e a =
    all_of_map (λ p. p < next) (λ (x : Point). x.pid) points (subst (AllByRecursion (λ p. p < next)) (pids_are points) (subst (λ (t : Names). AllByRecursion (λ p. p < next) (pids t)) (sym e) a))

odd_segment : (segment position : ℕ) → eqb segment (2 * position + 1) ≡ true → segment ≢ 0
odd_segment segment position h e = let same = eqb-true segment (2 * position + 1) h in omega arith

-- ---- the law

module _ (index : Index) (base : ListBase) (before inside : List Entry) (begin_by end_by segment : ℕ) (behind : List Entry) where
  abbrev h0 : BasedList
  h0 = record { base = base; entries = before }

  abbrev h1 : BasedList
  h1 = with_entry h0 (Begin begin_by)

  abbrev h2 : BasedList
  h2 = with_entries h1 inside

  abbrev h3 : BasedList
  h3 = with_entry h2 (End end_by segment)

  abbrev whole : BasedList
  whole = with_entries h3 behind

  abbrev s0 : State
  s0 = fold_of index h0

  abbrev b : Begun
  b = begun_with s0 (length_of h0)

  abbrev s1 : State
  s1 = begun_at s0 (length_of h0)

  abbrev s2 : State
  s2 = fold_from index h1 s1 inside

  module _ (params : IsBaseOf index.params base) (legal : is_legal index whole ≡ true) (inner : list_all (λ e. not (is_mark e)) inside ≡ true) (last : list_all (λ e. not (is_end e)) behind ≡ true) where
    legal3 : is_legal index h3 ≡ true
    legal3 = (and_parts (is_legal index h3) (legal_from index h3 (fold_of index h3) behind) (sym (legal_entries index h3 behind) ∙ legal)).0

    legal_behind : legal_from index h3 (fold_of index h3) behind ≡ true
    legal_behind = (and_parts (is_legal index h3) (legal_from index h3 (fold_of index h3) behind) (sym (legal_entries index h3 behind) ∙ legal)).1

    ends : (is_legal index h2 ≡ true) × (may_follow index.params h2 (fold_of index h2) (End end_by segment) ≡ true)
    ends = and_parts (is_legal index h2) (may_follow index.params h2 (fold_of index h2) (End end_by segment)) (sym (legal_push index h2 (End end_by segment)) ∙ legal3)

    begins : (is_legal index h1 ≡ true) × (legal_from index h1 (fold_of index h1) inside ≡ true)
    begins = and_parts (is_legal index h1) (legal_from index h1 (fold_of index h1) inside) (sym (legal_entries index h1 inside) ∙ ends.0)

    legal0 : is_legal index h0 ≡ true
    legal0 = (and_parts (is_legal index h0) (may_follow index.params h0 s0 (Begin begin_by)) (sym (legal_push index h0 (Begin begin_by)) ∙ begins.0)).0

    fold1 : fold_of index h1 ≡ s1
    fold1 = fold_push index h0 (Begin begin_by)

    fold2 : fold_of index h2 ≡ s2
    fold2 = fold_entries index h1 inside ∙ ap (λ (t : State). fold_from index h1 t inside) fold1

    good0 : Good (next_pid h0) (live_of h0) s0
    good0 = good_of index h0 params legal0

    good1 : Good (next_pid h1) (live_of h1) s1
    good1 = subst (Good (next_pid h1) (live_of h1)) fold1 (good_of index h1 params begins.0)

    legal_inside : legal_from index h1 s1 inside ≡ true
    legal_inside = subst (λ (t : State). legal_from index h1 t inside ≡ true) fold1 begins.1

    entered0 : IsEnteredFirst s0.rw
    entered0 = (memory_entered index h0).rw

    -- the graph that the merge made
    abbrev made : Graph
    made = merge_of index s2 (Some b)

    kept : Keeps b s1 s2
    kept = (fold_inner index h1 h1 s1 (merge_of index s1 (Some b)) b inside inner legal_inside good1 refl (record { next = refl; live = refl })).keeps

    begun2 : s2.begun ≡ Some b
    begun2 = kept.begun

    fold3 : fold_of index h3 ≡ closed made b s2
    fold3 =
        fold_push index h2 (End end_by segment)
        ∙ ap (λ (t : State). switched t (merge_of index t t.begun) t.begun) fold2
        ∙ ap (λ (o : Option Begun). switched s2 (merge_of index s2 o) o) begun2

    live1 : live_of h1 ≡ live_of h0
    live1 = live_push h0 (Begin begin_by)

    next1 : next_pid h1 ≡ next_pid h0
    next1 = let push = next_pid_push h0 (Begin begin_by) in omega arith

    names_made : names_of made.points ≡ live_of h0
    names_made =
        ap (λ (g : Graph). names_of g.points) (merge_kept index b s1 s2 kept)
        ∙ names_merged_begun index s0 (length_of h0) entered0
        ∙ sym good1.alive
        ∙ live1

    lti_is : (fold_of index whole).lti ≡ made
    lti_is =
        ap (λ (t : State). t.lti) (fold_entries index h3 behind)
        ∙ fold_lti index h3 (fold_of index h3) behind last
        ∙ ap (λ (t : State). t.lti) fold3

    abbrev new_base : ListBase
    new_base = rebased_on h0 before segment made

    abbrev g0 : BasedList
    g0 = bare new_base

    abbrev g2 : BasedList
    g2 = with_entries g0 inside

    agree0 : Agree h1 g0
    agree0 = record { next = (let same = next1 in omega arith); live = names_made ∙ sym live1 }

    inside_is : Inner index h1 g0 s1 made b inside
    inside_is = fold_inner index h1 g0 s1 made b inside inner legal_inside good1 refl agree0

    started : closed made b s1 ≡ start made
    started = closed_begun s0 (length_of h0) made entered0

    fold_g2 : fold_of index g2 ≡ closed made b s2
    fold_g2 = ap (λ (t : State). fold_from index g0 t inside) (sym started) ∙ inside_is.state

    legal_g2 : is_legal index g2 ≡ true
    legal_g2 = ap (λ (t : State). legal_from index g0 t inside) (sym started) ∙ inside_is.legal

    alike : Alike h3 g2
    alike = record {
      length = (let one = length_push before (Begin begin_by) in let two = length-append h1.entries inside in let three = length_push h2.entries (End end_by segment) in omega arith);
      next = (let push = next_pid_push h2 (End end_by segment) in let more = sum_by-append (λ x. cond (makes_point x) 1 0) h1.entries inside in let same = next1 in omega arith);
      live =
          live_entries g0 inside
          ∙ ap (λ t. live_from t (next_pid g0) inside) agree0.live
          ∙ ap (λ n. live_from (live_of h1) n inside) agree0.next
          ∙ sym (live_entries h1 inside)
          ∙ sym (live_push h2 (End end_by segment));
    }

    abbrev replayed : BasedList
    replayed = with_entries g2 behind

    fold_replayed : fold_of index replayed ≡ fold_of index whole
    fold_replayed =
        fold_entries index g2 behind
        ∙ ap (λ (t : State). fold_from index g2 t behind) (fold_g2 ∙ sym fold3)
        ∙ fold_alike index h3 g2 (fold_of index h3) behind alike
        ∙ sym (fold_entries index h3 behind)

    legal_replayed : is_legal index replayed ≡ true
    legal_replayed =
        legal_entries index g2 behind
        ∙ ap (λ t. t && legal_from index g2 (fold_of index g2) behind) legal_g2
        ∙ ap (λ (t : State). legal_from index g2 t behind) (fold_g2 ∙ sym fold3)
        ∙ legal_alike index h3 g2 (fold_of index h3) behind alike
        ∙ legal_behind

    named : eqb segment (2 * length_of h0 + 1) ≡ true
    named =
        (subst (λ (o : Option Begun). names_segment segment o ≡ true) begun2 (subst (λ (t : State). names_segment segment t.begun ≡ true) fold2 ends.1))

    segment_odd : segment ≢ 0
    segment_odd = odd_segment segment (length_of h0) named

    pub whole_number : segment ≡ 2 * length_of h0 + 1
    whole_number = eqb-true segment (2 * length_of h0 + 1) named

    pub whole_names : names_of (fold_of index whole).lti.points ≡ live_of h0
    whole_names = ap (λ (g : Graph). names_of g.points) lti_is ∙ names_made

    made_graph : IsGraphOf index.params made
    made_graph = subst (IsGraphOf index.params) lti_is (fold_leaves_graphs index whole params legal).lti

    new_base_is : IsBaseOf index.params new_base
    new_base_is = record {
      graph = made_graph;
      pids = All-from_recursion (λ (x : Point). x.pid < next_pid h0) made.points (points_below (next_pid h0) (live_of h0) made.points names_made (live_below (next_pid h0) (live_of h0) s0 good0));
      tags = pairs_from_differ made.points (subst TagsDiffer (sym names_made) (tags_differ index.params h0 params));
      none = λ e. absurd (segment_odd e);
    }

    made_stands : StandsForList index whole replayed
    made_stands =
        let same : Alike whole replayed = alike_entries h3 g2 behind alike in
        record {
          legal = record { base = new_base_is; entries = legal_replayed };
          length = same.length;
          state = fold_replayed;
          live = same.live;
          next = same.next;
        }

    pub whole_stands : StandsForList index whole (rebased index whole before inside segment behind)
    whole_stands = subst (λ (graph : Graph). StandsForList index whole (record { base = rebased_on h0 before segment graph; entries = inside ++ behind })) (sym lti_is) made_stands

-- the entries of a list with a merge, part by part
parts : (before inside behind : List Entry) (first last : Entry) → before ++ first ∷ inside ++ last ∷ behind ≡ (((before ++ first ∷ []) ++ inside) ++ last ∷ []) ++ behind
parts before inside behind first last =
    sym (
    append_assoc ((before ++ first ∷ []) ++ inside) (last ∷ []) behind
    ∙ ap (λ t. t ++ last ∷ behind) (append_assoc before (first ∷ []) inside))

whole_is : (index : Index) (h : BasedList) (before inside : List Entry) (segment : ℕ) (behind : List Entry) → (m : HasMerge h before inside segment behind) → h ≡ whole index h.base before inside m.begin_by m.end_by segment behind
whole_is index h before inside segment behind m = ap (λ (t : List Entry). with_only h t) (m.entries ∙ parts before inside behind (Begin m.begin_by) (End m.end_by segment))

-- A legal list with an End is as long as the list on the graph that its last merge made, whose entries are those behind
-- the Begin without that End; this list is legal, and has the same state, the same live tags and the same next Pid.
pub replay_law : (index : Index) (h : BasedList) (before inside : List Entry) (segment : ℕ) (behind : List Entry) → IsLegal index h → HasMerge h before inside segment behind → StandsForList index h (rebased index h before inside segment behind)
replay_law index h before inside segment behind l m =
    let is_whole = whole_is index h before inside segment behind m in
    subst (λ (g : BasedList). StandsForList index g (rebased index g before inside segment behind)) (sym is_whole)
    (whole_stands index h.base before inside m.begin_by m.end_by segment behind l.base (subst (λ (g : BasedList). is_legal index g ≡ true) is_whole l.entries) m.inner m.last)

-- The End's segment is numbered by the position of its Begin.
pub merge_number : (index : Index) (h : BasedList) (before inside : List Entry) (segment : ℕ) (behind : List Entry) → IsLegal index h → HasMerge h before inside segment behind → segment ≡ 2 * length_of (with_only h before) + 1
merge_number index h before inside segment behind l m =
    whole_number index h.base before inside m.begin_by m.end_by segment behind l.base (subst (λ (g : BasedList). is_legal index g ≡ true) (whole_is index h before inside segment behind m) l.entries) m.inner m.last

-- The tags and Pids of the graph that the merge made are the live tags before its Begin.
pub merged_names : (index : Index) (h : BasedList) (before inside : List Entry) (segment : ℕ) (behind : List Entry) → IsLegal index h → HasMerge h before inside segment behind → names_of (fold_of index h).lti.points ≡ live_of (with_only h before)
merged_names index h before inside segment behind l m =
    let is_whole = whole_is index h before inside segment behind m in
    ap (λ (g : BasedList). names_of (fold_of index g).lti.points) is_whole
    ∙ whole_names index h.base before inside m.begin_by m.end_by segment behind l.base (subst (λ (g : BasedList). is_legal index g ≡ true) is_whole l.entries) m.inner m.last

-- ---- lists in the place of others

alike_of : (index : Index) (h g : BasedList) → StandsForList index h g → Alike h g
alike_of index h g w = record { length = w.length; next = w.next; live = w.live }

-- A list in the place of another stays so with further entries that are legal there.
pub stands_longer : (index : Index) (h g : BasedList) (es : List Entry) → StandsForList index h g → is_legal index (with_entries h es) ≡ true → StandsForList index (with_entries h es) (with_entries g es)
stands_longer index h g es w l =
    let same : Alike (with_entries h es) (with_entries g es) = alike_entries h g es (alike_of index h g w) in
    let legal : legal_from index h (fold_of index h) es ≡ true = (and_parts (is_legal index h) (legal_from index h (fold_of index h) es) (sym (legal_entries index h es) ∙ l)).1 in
    record {
      legal = record {
        base = w.legal.base;
        entries =
            legal_entries index g es
            ∙ ap (λ t. t && legal_from index g (fold_of index g) es) w.legal.entries
            ∙ ap (λ (t : State). legal_from index g t es) w.state
            ∙ legal_alike index h g (fold_of index h) es (alike_of index h g w)
            ∙ legal;
      };
      length = same.length;
      state =
          fold_entries index g es
          ∙ ap (λ (t : State). fold_from index g t es) w.state
          ∙ fold_alike index h g (fold_of index h) es (alike_of index h g w)
          ∙ sym (fold_entries index h es);
      live = same.live;
      next = same.next;
    }

-- And what stands in its place stands in the place of the other.
pub stands_then : (index : Index) (h g f : BasedList) → StandsForList index h g → StandsForList index g f → StandsForList index h f
stands_then index h g f w v = record {
  legal = v.legal;
  length = v.length ∙ w.length;
  state = v.state ∙ w.state;
  live = v.live ∙ w.live;
  next = v.next ∙ w.next;
}
