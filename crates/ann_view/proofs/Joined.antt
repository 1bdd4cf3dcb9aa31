-- The results of the graphs in memory are one result.
use Rattle.std.proofs.Common.{◌≡◌, ℕ, true, false, not, List, [], ◌∷◌, ◌++◌, ◌||◌, refl, sym, ap, ap₂, ◌∙◌, subst, arith, map}
use Rattle.std.specs.List.{AllByRecursion, flat_map}
use Rattle.std.proofs.Math.Seq.{take-nil}
use Rattle.std.proofs.lemmas.Bool.{false≢true}
use Rattle.std.proofs.lemmas.List.{map-append}
use Rattle.std.proofs.lemmas.List.Elements.{filter-append}
use Rattle.ann_types.specs.Order.{has, top}
use Rattle.ann_types.specs.Graph.{Point, Graph, pids_of, tag_of, far_from, near_to}
use Rattle.ann_types.specs.Merge.{without}
use Rattle.ann_types.specs.Fold.{State, all_points}
use Rattle.ann_types.proofs.Ordered.{has_append}
use Rattle.ann_types.proofs.Sets.{Rises, rises_left, rises_right, rises_across, has_filter}
use Rattle.ann_types.proofs.Named.{pids_append}
use Rattle.ann_types.proofs.Graphs.{wider_left, wider_right}
use Rattle.ann_beam.specs.Ranking.{Ranked, RankingView, rank, with_all}
use Rattle.ann_beam.proofs.Rankings.{all_ranked, with_all-append}
use Rattle.ann_view.specs.Near.{near_points, AreInside}
use Rattle.ann_view.specs.Search.{near_memory, ranked_of}
use Rattle.ann_view.proofs.Distinct.{Distinct, Apart, distinct_append, distinct_filter, near_distinct, new_from}
use Rattle.ann_view.proofs.Agrees.{Agrees, agrees_left, agrees_right, agrees_trans, ranks_agree}

abbrev points_in : List Graph → List Point
points_in graphs = flat_map (λ (g : Graph). g.points) graphs

abbrev nears : List ℕ → ℕ → List Graph → List ℕ
nears query width graphs = flat_map (λ (g : Graph). near_to g query width) graphs

-- ---- frozen graphs

pub nears_inside : (query : List ℕ) (width : ℕ) (graphs : List Graph) → AllByRecursion (AreInside query width) graphs → (p : ℕ) → has (nears query width graphs) p ≡ true → has (pids_of (points_in graphs)) p ≡ true
nears_inside query width [] a p h = absurd (false≢true h)
nears_inside query width (g ∷ graphs) (i, a) p h =
    ap (λ (t : List ℕ). has t p) (pids_append g.points (points_in graphs))
    ∙ elim (has (near_to g query width) p) as (λ t. has (near_to g query width) p ≡ t → has (pids_of g.points ++ pids_of (points_in graphs)) p ≡ true) [
      | true ↦ λ e. wider_left (pids_of g.points) (pids_of (points_in graphs)) p (i p e)
      | false ↦ λ e. wider_right (pids_of g.points) (pids_of (points_in graphs)) p (nears_inside query width graphs a p (sym (ap (λ t. t || has (nears query width graphs) p) e) ∙ sym (has_append (near_to g query width) (nears query width graphs) p) ∙ h))
    ] refl

pub apart_across : (xs ys : List ℕ) (some more : List ℕ) → Rises (xs ++ ys) → ((p : ℕ) → has some p ≡ true → has xs p ≡ true) → ((p : ℕ) → has more p ≡ true → has ys p ≡ true) → Apart some more
apart_across xs ys some more r one two p h k = let below = rises_across xs ys p p r (one p h) (two p k) in absurd (omega arith)

pub nears_distinct : (query : List ℕ) (width : ℕ) (graphs : List Graph) → AllByRecursion (AreInside query width) graphs → Rises (pids_of (points_in graphs)) → Distinct (nears query width graphs)
nears_distinct query width [] a r = tt
nears_distinct query width (g ∷ graphs) (i, a) r =
    let split : Rises (pids_of g.points ++ pids_of (points_in graphs)) = subst Rises (pids_append g.points (points_in graphs)) r in
    distinct_append (near_to g query width) (nears query width graphs) (near_distinct g query width)
    (nears_distinct query width graphs a (rises_right (pids_of g.points) (pids_of (points_in graphs)) split))
    (apart_across (pids_of g.points) (pids_of (points_in graphs)) (near_to g query width) (nears query width graphs) split i (nears_inside query width graphs a))

-- ---- their points, ranked among all

module _ (dead query : List ℕ) (width : ℕ) (all : List Point) where
  abbrev ranks : List ℕ → List Ranked
  ranks pids = map (rank (far_from all query) (tag_of all)) pids

  one_ranks : (g : Graph) → Agrees g.points all → AreInside query width g → near_points dead g query width ≡ ranks (without dead (near_to g query width))
  one_ranks g agrees inside = ranks_agree g.points all query (without dead (near_to g query width)) agrees (λ p h. inside p (has_filter (λ q. not (has dead q)) (near_to g query width) p h).0)

  ranks_append : (xs ys : List ℕ) → ranks (without dead xs) ++ ranks (without dead ys) ≡ ranks (without dead (xs ++ ys))
  ranks_append xs ys =
      sym (map-append (rank (far_from all query) (tag_of all)) (without dead xs) (without dead ys))
      ∙ ap ranks (sym (filter-append (λ q. not (has dead q)) xs ys))

  all_ranks : (graphs : List Graph) → Agrees (points_in graphs) all → Rises (pids_of (points_in graphs)) → AllByRecursion (AreInside query width) graphs → flat_map (λ (g : Graph). near_points dead g query width) graphs ≡ ranks (without dead (nears query width graphs))
  all_ranks [] agrees r a = refl
  all_ranks (g ∷ graphs) agrees r (i, a) =
      let rest : List Point = points_in graphs in
      let split : Rises (pids_of g.points ++ pids_of rest) = subst Rises (pids_append g.points rest) r in
      let left : (p : ℕ) → has (pids_of g.points) p ≡ true → has (pids_of (g.points ++ rest)) p ≡ true = λ p h. ap (λ (t : List ℕ). has t p) (pids_append g.points rest) ∙ wider_left (pids_of g.points) (pids_of rest) p h in
      let right : (p : ℕ) → has (pids_of rest) p ≡ true → has (pids_of (g.points ++ rest)) p ≡ true = λ p h. ap (λ (t : List ℕ). has t p) (pids_append g.points rest) ∙ wider_right (pids_of g.points) (pids_of rest) p h in
      ap (λ t. t ++ flat_map (λ (x : Graph). near_points dead x query width) graphs) (one_ranks g (agrees_trans g.points (g.points ++ rest) all left (agrees_left g.points rest) agrees) i)
      ∙ ap (λ t. ranks (without dead (near_to g query width)) ++ t) (all_ranks graphs (agrees_trans rest (g.points ++ rest) all right (agrees_right g.points rest r) agrees) (rises_right (pids_of g.points) (pids_of rest) split) a)
      ∙ ranks_append (near_to g query width) (nears query width graphs)

-- Points that differ, ranked one after the other, are the least of all.
pub ranked_new : (far tag : ℕ → ℕ) (k : ℕ) (pids : List ℕ) → Distinct pids → with_all k (map (rank far tag) pids) [] ≡ map (rank far tag) (top far k pids)
ranked_new far tag k pids d =
    ap (with_all k (map (rank far tag) pids)) (sym (ap (map (rank far tag)) (take-nil k)))
    ∙ all_ranked far tag k [] pids (new_from [] pids d (λ p h e. false≢true e))

-- ---- the whole

module _ (s : State) (query : List ℕ) (width : ℕ) (r : Rises (pids_of (all_points s))) (own : AreInside query width s.rw) (frozen : AllByRecursion (AreInside query width) s.ros) where
  abbrev older : List Point
  older = s.lti.points ++ points_in s.ros

  split : Rises (pids_of older ++ pids_of s.rw.points)
  split = subst Rises (pids_append older s.rw.points) r

  older_split : Rises (pids_of s.lti.points ++ pids_of (points_in s.ros))
  older_split = subst Rises (pids_append s.lti.points (points_in s.ros)) (rises_left (pids_of older) (pids_of s.rw.points) split)

  ros_inside : (p : ℕ) → has (pids_of (points_in s.ros)) p ≡ true → has (pids_of older) p ≡ true
  ros_inside p h = ap (λ (t : List ℕ). has t p) (pids_append s.lti.points (points_in s.ros)) ∙ wider_right (pids_of s.lti.points) (pids_of (points_in s.ros)) p h

  pub near_points_are : near_points s.dead s.rw query width ++ flat_map (λ (g : Graph). near_points s.dead g query width) s.ros ≡ map (rank (far_from (all_points s) query) (tag_of (all_points s))) (without s.dead (near_memory s query width))
  near_points_are =
      let all : List Point = all_points s in
      let frozen_agree : Agrees (points_in s.ros) all = agrees_trans (points_in s.ros) older all ros_inside (agrees_right s.lti.points (points_in s.ros) (subst Rises (sym (pids_append s.lti.points (points_in s.ros))) older_split)) (agrees_left older s.rw.points) in
      ap (λ t. t ++ flat_map (λ (g : Graph). near_points s.dead g query width) s.ros) (one_ranks s.dead query width all s.rw (agrees_right older s.rw.points r) own)
      ∙ ap (λ t. ranks s.dead query width all (without s.dead (near_to s.rw query width)) ++ t) (all_ranks s.dead query width all s.ros frozen_agree (rises_right (pids_of s.lti.points) (pids_of (points_in s.ros)) older_split) frozen)
      ∙ ranks_append s.dead query width all (near_to s.rw query width) (nears query width s.ros)

  pub near_differ : Distinct (near_memory s query width)
  near_differ =
      distinct_append (near_to s.rw query width) (nears query width s.ros) (near_distinct s.rw query width)
      (nears_distinct query width s.ros frozen (rises_right (pids_of s.lti.points) (pids_of (points_in s.ros)) older_split))
      (λ p h k. apart_across (pids_of older) (pids_of s.rw.points) (nears query width s.ros) (near_to s.rw query width) split (λ q i. ros_inside q (nears_inside query width s.ros frozen q i)) own p k h)

  pub near_memory_inside : (p : ℕ) → has (near_memory s query width) p ≡ true → has (pids_of (all_points s)) p ≡ true
  near_memory_inside p h =
      ap (λ (t : List ℕ). has t p) (pids_append older s.rw.points)
      ∙ elim (has (near_to s.rw query width) p) as (λ t. has (near_to s.rw query width) p ≡ t → has (pids_of older ++ pids_of s.rw.points) p ≡ true) [
        | true ↦ λ e. wider_right (pids_of older) (pids_of s.rw.points) p (own p e)
        | false ↦ λ e. wider_left (pids_of older) (pids_of s.rw.points) p (ros_inside p (nears_inside query width s.ros frozen p (sym (ap (λ t. t || has (nears query width s.ros) p) e) ∙ sym (has_append (near_to s.rw query width) (nears query width s.ros) p) ∙ h)))
      ] refl

  -- Ranked one after the other, the points near the query are the least of all.
  pub near_joined : (k : ℕ) → with_all k (near_points s.dead s.rw query width ++ flat_map (λ (g : Graph). near_points s.dead g query width) s.ros) [] ≡ ranked_of (all_points s) query k (without s.dead (near_memory s query width))
  near_joined k =
      ap (λ (t : List Ranked). with_all k t []) near_points_are
      ∙ ranked_new (far_from (all_points s) query) (tag_of (all_points s)) k (without s.dead (near_memory s query width)) (distinct_filter (λ q. not (has s.dead q)) (near_memory s query width) near_differ)

  -- The result of one graph after the other.
  pub result_is : (k : ℕ) (first mid end : RankingView) → first ≡ record { limit = k; points = [] } → mid.limit ≡ first.limit → mid.points ≡ with_all first.limit (near_points s.dead s.rw query width) first.points → end.limit ≡ mid.limit → end.points ≡ with_all mid.limit (flat_map (λ (g : Graph). near_points s.dead g query width) s.ros) mid.points → end ≡ record { limit = k; points = ranked_of (all_points s) query k (without s.dead (near_memory s query width)) }
  result_is k first mid end empty l p m q =
      let one : List Ranked = near_points s.dead s.rw query width in
      let two : List Ranked = flat_map (λ (g : Graph). near_points s.dead g query width) s.ros in
      let start_limit : first.limit ≡ k = ap (λ (t : RankingView). t.limit) empty in
      let points : end.points ≡ with_all k (one ++ two) [] =
      q ∙ ap (λ n. with_all n two mid.points) (l ∙ start_limit)
      ∙ ap (with_all k two) (p ∙ ap (λ (t : RankingView). with_all t.limit one t.points) empty)
      ∙ sym (with_all-append k one two []) in
      ap₂ (λ (n : ℕ) (t : List Ranked). (let x : RankingView = record { limit = n; points = t } in x)) (m ∙ l ∙ start_limit) (points ∙ near_joined k)

-- ---- frozen graphs by their rows

pub by_graph : {A B : Type 0} (f : B → List Ranked) (g : A → B) (xs : List A) → flat_map (λ x. f (g x)) xs ≡ flat_map f (map g xs)
by_graph f g [] = refl
by_graph f g (x ∷ xs) = ap (λ t. f (g x) ++ t) (by_graph f g xs)
