-- The law of the fold: every graph of the state of a legal list is a graph of the index.
use Rattle.std.proofs.Common.{◌≡◌, ℕ, ◌<◌, Bool, true, false, cond, eqb, ltb, not, List, [], ◌∷◌, ◌++◌, refl, sym, ap, ◌∙◌, subst, map, filter, flat_map, take, length, eqb-true}
use Rattle.std.specs.Prelude.{Option, Some, None}
use Rattle.std.specs.List.{AllByRecursion}
use Rattle.std.proofs.lemmas.Bool.{and_parts}
use Rattle.ann_types.specs.Order.{has}
use Rattle.ann_types.specs.Graph.{Point, Graph, is_empty, pids_of, IsGraphOf}
use Rattle.ann_types.specs.Put.{put}
use Rattle.ann_types.specs.Index.{Index}
use Rattle.ann_types.specs.Merge.{survivors}
use Rattle.ann_types.specs.Lists.{BasedList, bare, length_of, with_entry, IsBaseOf, next_pid, Names, is_live, pids_at, live_of}
use Rattle.ann_types.specs.Fold.{Begun, State, all_points, start, frozen, grown, inserted, deleted, opened, begun_at, new_point, new_points, merge_of, switched, step, fold_from, fold_of}
use Rattle.ann_types.specs.Legal.{pid_end, fits, may_follow, legal_from, is_legal}
use Rattle.ann_types.specs.declared.params.Params.{Params}
use Rattle.ann_types.specs.declared.new_point.NewPoint.{NewPoint}
use Rattle.ann_types.specs.declared.entry.Entry.{Entry}
use Rattle.ann_types.specs.declared.entry.Entry.TheVariants.{Insert, Delete, Begin, End, Replace}
use Rattle.ann_types.proofs.Sets.{Rises, all_append, all_left, all_right, all_filter, all_map, all_of_map, rises_left}
use Rattle.ann_types.proofs.Named.{pids_are, pids_append}
use Rattle.ann_types.proofs.Graphs.{AreLong, long_of, put_graph, empty_is_graph}
use Rattle.ann_types.proofs.Merges.{new_pids, NewLong, merged_graph}
use Rattle.ann_types.proofs.Alive.{Good, behind, split_points, base_good, good_after}
use Rattle.ann_types.proofs.Each.{all_take, all_drop}

-- each graph of a state is a graph of the index
pub record AreGraphs (params : Params) (s : State) : Type 0 where
  pub rw : IsGraphOf params s.rw
  pub ros : AllByRecursion (IsGraphOf params) s.ros
  pub lti : IsGraphOf params s.lti

frozen_graphs : (params : Params) (s : State) (g : Graph) → AreGraphs params s → IsGraphOf params g → AreGraphs params (frozen s g)
frozen_graphs params s g w k = record { rw = empty_is_graph params; ros = all_append (IsGraphOf params) s.ros (g ∷ []) w.ros (k, tt); lti = w.lti }

grown_graphs : (params : Params) (s : State) (g : Graph) → AreGraphs params s → IsGraphOf params g → AreGraphs params (grown params s g)
grown_graphs params s g w k =
    elim (eqb (length g.points) params.freeze_at) as (λ t. AreGraphs params (cond t (frozen s g) (record s { rw = g }))) [
      | true ↦ frozen_graphs params s g w k
      | false ↦ record { rw = k; ros = w.ros; lti = w.lti }
    ]

deleted_graphs : (params : Params) (s : State) (ps : List ℕ) → AreGraphs params s → AreGraphs params (deleted s ps)
deleted_graphs params s ps w = record { rw = w.rw; ros = w.ros; lti = w.lti }

opened_graphs : (params : Params) (s : State) (at : ℕ) → AreGraphs params s → AreGraphs params (opened s at)
opened_graphs params s at w = record { rw = w.rw; ros = w.ros; lti = w.lti }

begun_graphs : (params : Params) (s : State) (at : ℕ) → AreGraphs params s → AreGraphs params (begun_at s at)
begun_graphs params s at w =
    elim (is_empty s.rw) as (λ t. AreGraphs params (opened (cond t s (frozen s s.rw)) at)) [
      | true ↦ opened_graphs params s at w
      | false ↦ opened_graphs params (frozen s s.rw) at (frozen_graphs params s s.rw w w.rw)
    ]

-- ---- what a merge is given

new_pids_of : (points : List Point) → new_pids (map new_point points) ≡ pids_of points
new_pids_of [] = refl
new_pids_of (x ∷ points) = ap (λ t. x.pid ∷ t) (new_pids_of points)

new_long : (d : ℕ) (points : List Point) → AreLong d points → NewLong d (map new_point points)
new_long d points a = all_map (λ (x : NewPoint). length x.vector ≡ d) new_point points a

abbrev points_in : List Graph → List Point
points_in gs = flat_map (λ (g : Graph). g.points) gs

graphs_long : (params : Params) (gs : List Graph) → AllByRecursion (IsGraphOf params) gs → AreLong params.d (points_in gs)
graphs_long params [] a = tt
graphs_long params (g ∷ gs) (w, a) = all_append (λ x. length x.vector ≡ params.d) g.points (points_in gs) (long_of params g w) (graphs_long params gs a)

rises_some : (q : Point → Bool) (xs : List ℕ) (ys : List Point) → Rises (xs ++ pids_of ys) → Rises (xs ++ pids_of (filter q ys))
rises_some q [] [] r = tt
rises_some q [] (y ∷ ys) (a, r) =
    elim (q y) as (λ t. Rises (pids_of (cond t (y ∷ filter q ys) (filter q ys)))) [
      | true ↦ (all_map (λ z. y.pid < z) (λ (x : Point). x.pid) (filter q ys) (all_filter (λ x. y.pid < x.pid) q ys (all_of_map (λ z. y.pid < z) (λ (x : Point). x.pid) ys a)), rises_some q [] ys r)
      | false ↦ rises_some q [] ys r
    ]
rises_some q (x ∷ xs) ys (a, r) =
    (all_append (λ z. x < z) xs (pids_of (filter q ys)) (all_left (λ z. x < z) xs (pids_of ys) a) (all_map (λ z. x < z) (λ (y : Point). y.pid) (filter q ys) (all_filter (λ y. x < y.pid) q ys (all_of_map (λ z. x < z) (λ (y : Point). y.pid) ys (all_right (λ z. x < z) xs (pids_of ys) a)))), rises_some q xs ys r)

-- the long-term graph and the points that a merge adds stand in order
merge_order : (next : ℕ) (live : Names) (s : State) (b : Begun) → Good next live s → Rises (pids_of s.lti.points ++ new_pids (new_points s b))
merge_order next live s b w =
    let taken : List Point = points_in (take b.frozen s.ros) in
    let all : Rises (pids_of (all_points s)) = subst Rises (pids_are (all_points s)) w.rises in
    let parts : pids_of (all_points s) ≡ (pids_of s.lti.points ++ pids_of taken) ++ pids_of (behind s b) =
    ap pids_of (split_points s b) ∙ pids_append (s.lti.points ++ taken) (behind s b) ∙ ap (λ t. t ++ pids_of (behind s b)) (pids_append s.lti.points taken) in
    let front : Rises (pids_of s.lti.points ++ pids_of taken) = rises_left (pids_of s.lti.points ++ pids_of taken) (pids_of (behind s b)) (subst Rises parts all) in
    subst (λ (t : List ℕ). Rises (pids_of s.lti.points ++ t)) (sym (new_pids_of (survivors b.gone taken))) (rises_some (λ x. not (has b.gone x.pid)) (pids_of s.lti.points) taken front)

pub merge_graph : (index : Index) (next : ℕ) (live : Names) (s : State) (o : Option Begun) → Good next live s → AreGraphs index.params s → IsGraphOf index.params (merge_of index s o)
merge_graph index next live s None w g = g.lti
merge_graph index next live s (Some b) w g =
    let taken : List Point = points_in (take b.frozen s.ros) in
    merged_graph index s.lti (new_points s b) b.gone g.lti (merge_order next live s b w)
    (new_long index.params.d (survivors b.gone taken) (all_filter (λ x. length x.vector ≡ index.params.d) (λ x. not (has b.gone x.pid)) taken (graphs_long index.params (take b.frozen s.ros) (all_take (IsGraphOf index.params) b.frozen s.ros g.ros))))

switched_graphs : (params : Params) (s : State) (lti : Graph) (o : Option Begun) → AreGraphs params s → IsGraphOf params lti → AreGraphs params (switched s lti o)
switched_graphs params s lti None w g = w
switched_graphs params s lti (Some b) w g = record { rw = w.rw; ros = all_drop (IsGraphOf params) b.frozen s.ros w.ros; lti = g }

-- ---- one entry more

rw_below : (next : ℕ) (live : Names) (s : State) → Good next live s → AllByRecursion (λ p. p < next) (pids_of s.rw.points)
rw_below next live s w =
    let older : List Point = s.lti.points ++ points_in s.ros in
    all_right (λ p. p < next) (pids_of older) (pids_of s.rw.points)
    (subst (AllByRecursion (λ p. p < next)) (pids_append older s.rw.points) (subst (AllByRecursion (λ p. p < next)) (pids_are (all_points s)) w.below))

insert_graphs : (params : Params) (h : BasedList) (live : Names) (s : State) (tag : ℕ) (vector : List ℕ) → fits params h vector ≡ true → Good (next_pid h) live s → AreGraphs params s → AreGraphs params (inserted params s (next_pid h) tag vector)
insert_graphs params h live s tag vector f w g =
    let long : length vector ≡ params.d = eqb-true (length vector) params.d (and_parts (eqb (length vector) params.d) (ltb (next_pid h) pid_end) f).0 in
    grown_graphs params s (put params s.rw (next_pid h) tag vector) g (put_graph params s.rw (next_pid h) tag vector g.rw (rw_below (next_pid h) live s w) long)

step_graphs : (index : Index) (h : BasedList) (s : State) (e : Entry) → may_follow index.params h s e ≡ true → Good (next_pid h) (live_of h) s → AreGraphs index.params s → AreGraphs index.params (step index h s e)
step_graphs index h s (Insert by tag vector) m w g = insert_graphs index.params h (live_of h) s tag vector (and_parts (fits index.params h vector) (not (is_live (live_of h) tag)) m).0 w g
step_graphs index h s (Delete by tag) m w g = deleted_graphs index.params s (pids_at (live_of h) tag) g
step_graphs index h s (Begin by) m w g = begun_graphs index.params s (length_of h) g
step_graphs index h s (End by segment) m w g = switched_graphs index.params s (merge_of index s s.begun) s.begun g (merge_graph index (next_pid h) (live_of h) s s.begun w g)
step_graphs index h s (Replace by tag vector) m w g =
    let left : State = deleted s (pids_at (live_of h) tag) in
    let fit : fits index.params h vector ≡ true = (and_parts (fits index.params h vector) (is_live (live_of h) tag) m).0 in
    let long : length vector ≡ index.params.d = eqb-true (length vector) index.params.d (and_parts (eqb (length vector) index.params.d) (ltb (next_pid h) pid_end) fit).0 in
    grown_graphs index.params left (put index.params s.rw (next_pid h) tag vector) (deleted_graphs index.params s (pids_at (live_of h) tag) g) (put_graph index.params s.rw (next_pid h) tag vector g.rw (rw_below (next_pid h) (live_of h) s w) long)

fold_graphs : (index : Index) (h : BasedList) (s : State) (es : List Entry) → legal_from index h s es ≡ true → Good (next_pid h) (live_of h) s → AreGraphs index.params s → AreGraphs index.params (fold_from index h s es)
fold_graphs index h s [] l w g = g
fold_graphs index h s (e ∷ es) l w g =
    let both = and_parts (may_follow index.params h s e) (legal_from index (with_entry h e) (step index h s e) es) l in
    fold_graphs index (with_entry h e) (step index h s e) es both.1 (good_after index h s e both.0 w) (step_graphs index h s e both.0 w g)

-- Each graph of the state of a legal list is a graph of the index.
pub fold_leaves_graphs : (index : Index) (h : BasedList) → IsBaseOf index.params h.base → is_legal index h ≡ true → AreGraphs index.params (fold_of index h)
fold_leaves_graphs index h b l =
    fold_graphs index (bare h.base) (start h.base.graph) h.entries l (base_good index.params h.base b) (record { rw = empty_is_graph index.params; ros = tt; lti = b.graph })
