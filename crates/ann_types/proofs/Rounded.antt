-- The laws of rounds: they stay in their graph, visit no point twice and end where there is none left;
-- with one point a round they are the walk.
use Rattle.std.proofs.Common.{◌≡◌, ℕ, zero, suc, ◌+◌, ◌≤◌, Bool, true, false, cond, eqb, not, List, [], ◌∷◌, ◌++◌, ◌||◌, refl, sym, ap, ◌∙◌, subst, arith, take, filter, length, append_assoc, append-nil, ◌⊎◌, inl, inr, eqb-true, eq-eqb}
use Rattle.std.specs.Prelude.{Option, Some, None}
use Rattle.std.specs.List.{AllByRecursion, IsDistinct}
use Rattle.std.specs.Cmp.{nat_eq_equiv}
use Rattle.std.proofs.lemmas.Bool.{false≢true, or_from, both_ways, not-true, ne_eqb}
use Rattle.std.proofs.lemmas.List.{length-append, length-map}
use Rattle.std.proofs.lemmas.Map.Keys.{IsDistinct-push, IsDistinct-head, IsDistinct-tail, IsDistinct-cons}
use Rattle.std.proofs.lemmas.Map.Made.{length-le_from_is_member}
use Rattle.ann_types.specs.Order.{before, has}
use Rattle.ann_types.specs.Walk.{Ground, near, met, visited_of}
use Rattle.ann_types.specs.Graph.{Point, Graph, with_vector, pids_of, ground, visited, IsGraph}
use Rattle.ann_types.specs.Codes.{Book, decoded, decoded_points, decoded_graph}
use Rattle.ann_types.specs.Rounds.{round, rounds_on, rounds_of, rounds_from, rounds}
use Rattle.ann_types.specs.Index.{Index}
use Rattle.ann_types.proofs.Ordered.{IsAfter, IsRising, has_append, has_here, has_later, has_cases, has_from_take, before-irreflexive, top_inside, rising_top}
use Rattle.ann_types.proofs.Walks.{Inside, Closed, inside_append, met_inside, none_distinct, one_at_a_time}
use Rattle.ann_types.proofs.Sets.{has_filter}
use Rattle.ann_types.proofs.Graphs.{AreLinked, IsEntry, linked_from_graph, entry_from_graph, ground_closed}
use Rattle.ann_types.proofs.Merges.{pids_decoded, linked_decoded, entry_decoded}

-- ---- a round has new points near the query, each once

pub round_near : (g : Ground) (width w p : ℕ) (v : List ℕ) → has (round g width w v) p ≡ true → (has (near g width v) p ≡ true) × (has v p ≡ false)
round_near g width w p v h =
    let both = has_filter (λ q. not (has v q)) (near g width v) p (has_from_take w p (filter (λ q. not (has v q)) (near g width v)) h) in
    (both.0, not-true (has v p) both.1)

apart_after : (far : ℕ → ℕ) (x : ℕ) (s : List ℕ) → IsAfter far x s → AllByRecursion (λ y. eqb x y ≡ false) s
apart_after far x [] a = tt
apart_after far x (y ∷ s) (h, a) = (ne_eqb x y (λ e. both_ways _ (before-irreflexive far y) (subst (λ (t : ℕ). before far t y ≡ true) e h)), apart_after far x s a)

distinct_rising : (far : ℕ → ℕ) (s : List ℕ) → IsRising far s → IsDistinct eqb s
distinct_rising far [] r = none_distinct
distinct_rising far (x ∷ s) (a, r) = IsDistinct-cons eqb x s (apart_after far x s a) (distinct_rising far s r)

apart_filter : (x : ℕ) (q : ℕ → Bool) (s : List ℕ) → AllByRecursion (λ y. eqb x y ≡ false) s → AllByRecursion (λ y. eqb x y ≡ false) (filter q s)
apart_filter x q [] a = tt
apart_filter x q (y ∷ s) (h, a) = elim (q y) as (λ t. AllByRecursion (λ z. eqb x z ≡ false) (cond t (y ∷ filter q s) (filter q s))) [ true ↦ (h, apart_filter x q s a) | false ↦ apart_filter x q s a ]

apart_take : (x n : ℕ) (s : List ℕ) → AllByRecursion (λ y. eqb x y ≡ false) s → AllByRecursion (λ y. eqb x y ≡ false) (take n s)
apart_take x zero s a = tt
apart_take x (suc n) [] a = tt
apart_take x (suc n) (y ∷ s) (h, a) = (h, apart_take x n s a)

distinct_filter : (q : ℕ → Bool) (s : List ℕ) → IsDistinct eqb s → IsDistinct eqb (filter q s)
distinct_filter q [] d = none_distinct
distinct_filter q (x ∷ s) d =
    elim (q x) as (λ t. IsDistinct eqb (cond t (x ∷ filter q s) (filter q s))) [
      | true ↦ IsDistinct-cons eqb x (filter q s) (apart_filter x q s (IsDistinct-head eqb x s d)) (distinct_filter q s (IsDistinct-tail eqb x s d))
      | false ↦ distinct_filter q s (IsDistinct-tail eqb x s d)
    ]

distinct_take : (n : ℕ) (s : List ℕ) → IsDistinct eqb s → IsDistinct eqb (take n s)
distinct_take zero s d = none_distinct
distinct_take (suc n) [] d = none_distinct
distinct_take (suc n) (x ∷ s) d = IsDistinct-cons eqb x (take n s) (apart_take x n s (IsDistinct-head eqb x s d)) (distinct_take n s (IsDistinct-tail eqb x s d))

pub round_distinct : (g : Ground) (width w : ℕ) (v : List ℕ) → IsDistinct eqb (round g width w v)
round_distinct g width w v = distinct_take w (filter (λ q. not (has v q)) (near g width v)) (distinct_filter (λ q. not (has v q)) (near g width v) (distinct_rising g.far (near g width v) (rising_top g.far width (met g v))))

not_there : (y p : ℕ) (ys : List ℕ) → AllByRecursion (λ z. eqb y z ≡ false) ys → has ys p ≡ true → eqb p y ≡ false
not_there y p [] a h = absurd (false≢true h)
not_there y p (z ∷ ys) (k, a) h = elim (has_cases z p ys h) [
  | inl e ↦ ne_eqb p y (λ s. both_ways _ k (eq-eqb y z (sym s ∙ eqb-true p z e)))
  | inr m ↦ not_there y p ys a m
]

pub distinct_append : (xs ys : List ℕ) → IsDistinct eqb xs → IsDistinct eqb ys → ((p : ℕ) → has ys p ≡ true → has xs p ≡ false) → IsDistinct eqb (xs ++ ys)
distinct_append xs [] d e apart = subst (IsDistinct eqb) (sym (append-nil xs)) d
distinct_append xs (y ∷ ys) d e apart =
    subst (IsDistinct eqb) (append_assoc xs (y ∷ []) ys)
    (distinct_append (xs ++ y ∷ []) ys (IsDistinct-push nat_eq_equiv xs y d (apart y (has_here y y ys (eq-eqb y y refl)))) (IsDistinct-tail eqb y ys e) (λ p h.
    has_append xs (y ∷ []) p ∙ or_from (has xs p) (eqb p y || false) (apart p (has_later y p ys h)) (or_from (eqb p y) false (not_there y p ys (IsDistinct-head eqb y ys e) h) refl)))

-- ---- many rounds

rounds_cases : (g : Ground) (width w n : ℕ) (v : List ℕ) (P : List ℕ → Type 0) → (round g width w v ≡ [] → P v) → ((p : ℕ) (ps : List ℕ) → round g width w v ≡ p ∷ ps → P (rounds_on g width w n (v ++ p ∷ ps))) → P (rounds_on g width w (suc n) v)
rounds_cases g width w n v P stop go =
    elim (round g width w v) as (λ o. round g width w v ≡ o → P (elim o as (λ _. List ℕ) [ [] ↦ v | p ∷ ps ↦ rounds_on g width w n (v ++ p ∷ ps) ])) [
      | [] ↦ λ e. stop e
      | p ∷ ps ↦ λ e. go p ps e
    ] refl

round_inside : (q : ℕ → Bool) (g : Ground) (width w : ℕ) (v : List ℕ) → Closed q g → Inside q v → Inside q (round g width w v)
round_inside q g width w v c a p h = met_inside q g v c a p (top_inside g.far width p (met g v) (round_near g width w p v h).0)

pub rounds_inside : (q : ℕ → Bool) (g : Ground) (width w n : ℕ) (v : List ℕ) → Closed q g → Inside q v → Inside q (rounds_on g width w n v)
rounds_inside q g width w zero v c a = a
rounds_inside q g width w (suc n) v c a =
    rounds_cases g width w n v (Inside q) (λ e. a) (λ p ps e.
    rounds_inside q g width w n (v ++ p ∷ ps) c (inside_append q v (p ∷ ps) a (subst (Inside q) e (round_inside q g width w v c a))))

more_distinct : (g : Ground) (width w : ℕ) (v ps : List ℕ) → round g width w v ≡ ps → IsDistinct eqb v → IsDistinct eqb (v ++ ps)
more_distinct g width w v ps e d =
    distinct_append v ps d (subst (IsDistinct eqb) e (round_distinct g width w v)) (λ r h. (round_near g width w r v (subst (λ (t : List ℕ). has t r ≡ true) (sym e) h)).1)

-- The members of rounds differ.
pub rounds_distinct : (g : Ground) (width w n : ℕ) (v : List ℕ) → IsDistinct eqb v → IsDistinct eqb (rounds_on g width w n v)
rounds_distinct g width w zero v d = d
rounds_distinct g width w (suc n) v d =
    rounds_cases g width w n v (IsDistinct eqb) (λ e. d) (λ p ps e. rounds_distinct g width w n (v ++ p ∷ ps) (more_distinct g width w v (p ∷ ps) e d))

-- Rounds end where a round is empty, or each was made.
pub rounds_end : (g : Ground) (width w n : ℕ) (v : List ℕ) → (round g width w (rounds_on g width w n v) ≡ []) ⊎ (length v + n ≤ length (rounds_on g width w n v))
rounds_end g width w zero v = inr (omega arith)
rounds_end g width w (suc n) v =
    rounds_cases g width w n v (λ x. (round g width w x ≡ []) ⊎ (length v + suc n ≤ length x)) (λ e. inl e) (λ p ps e.
    elim (rounds_end g width w n (v ++ p ∷ ps)) [ inl none ↦ inl none | inr many ↦ inr (let size = length-append v (p ∷ ps) in omega arith) ])

-- Rounds in a set of so many points end where a round is empty.
pub rounds_whole : (g : Ground) (width w count : ℕ) (all : List ℕ) → Closed (has all) g → length all ≤ count → round g width w (rounds_of g width w count) ≡ []
rounds_whole g width w count all c few =
    let v : List ℕ = rounds_of g width w count in
    let distinct : IsDistinct eqb v = rounds_distinct g width w count [] none_distinct in
    let inside : Inside (has all) v = rounds_inside (has all) g width w count [] c (λ p h. absurd (false≢true h)) in
    elim (rounds_end g width w count []) [
      | inl none ↦ none
      | inr many ↦ elim (round g width w v) as (λ o. round g width w v ≡ o → o ≡ []) [
        | [] ↦ λ e. refl
        | p ∷ ps ↦ λ e.
            let more : IsDistinct eqb (v ++ p ∷ ps) = more_distinct g width w v (p ∷ ps) e distinct in
            let there : Inside (has all) (v ++ p ∷ ps) = inside_append (has all) v (p ∷ ps) inside (subst (Inside (has all)) e (round_inside (has all) g width w v c inside)) in
            let size = length-append v (p ∷ ps) in
            let fits : length (v ++ p ∷ ps) ≤ length all = length-le_from_is_member nat_eq_equiv (v ++ p ∷ ps) all more there in
            absurd (omega arith)
      ] refl
    ]

-- ---- rounds of a graph

-- With one point a round, rounds are the walk of the decoded graph.
rounds_of_one_from : (book : Book) (points : List Point) (query : List ℕ) (width : ℕ) (e : Option ℕ) → rounds_from book points query width 1 e ≡ visited (record { entry = e; points = decoded_points book points }) query width
rounds_of_one_from book points query width None = refl
rounds_of_one_from book points query width (Some e) =
    let g : Ground = ground (decoded_points book points) query e in
    one_at_a_time g width (length points) []
    ∙ ap (λ n. visited_of g width n) (sym (length-map points (λ (x : Point). with_vector (decoded book x.vector) x)))

pub rounds_of_one : (book : Book) (graph : Graph) (query : List ℕ) (width : ℕ) → rounds book graph query width 1 ≡ visited (decoded_graph book graph) query width
rounds_of_one book graph query width = rounds_of_one_from book graph.points query width graph.entry

-- The points that rounds visit are points of the graph, differ, are at most as many, and the rounds end
-- where one is empty.
abbrev pub HaveEnded : Index → List Point → List ℕ → ℕ → ℕ → Option ℕ → Type 0
HaveEnded index points query width w None = Unit {0}
HaveEnded index points query width w (Some e) = round (ground (decoded_points index.book points) query e) width w (rounds_from index.book points query width w (Some e)) ≡ []

pub record RoundsWithin (index : Index) (g : Graph) (query : List ℕ) (width w : ℕ) : Type 0 where
  pub inside : Inside (has (pids_of g.points)) (rounds index.book g query width w)
  pub distinct : IsDistinct eqb (rounds index.book g query width w)
  pub few : length (rounds index.book g query width w) ≤ length g.points
  pub ended : HaveEnded index g.points query width w g.entry

closed_decoded : (index : Index) (points : List Point) (query : List ℕ) (e : ℕ) → AreLinked points → has (pids_of points) e ≡ true → Closed (has (pids_of points)) (ground (decoded_points index.book points) query e)
closed_decoded index points query e w h =
    subst (λ (all : List ℕ). Closed (has all) (ground (decoded_points index.book points) query e)) (pids_decoded index points)
    (ground_closed (decoded_points index.book points) query e (linked_decoded index points w) (entry_decoded index points (Some e) h))

inside_from : (index : Index) (points : List Point) (query : List ℕ) (width w : ℕ) (e : Option ℕ) → AreLinked points → IsEntry points e → Inside (has (pids_of points)) (rounds_from index.book points query width w e)
inside_from index points query width w None l n = λ p h. absurd (false≢true h)
inside_from index points query width w (Some e) l n = rounds_inside (has (pids_of points)) (ground (decoded_points index.book points) query e) width w (length points) [] (closed_decoded index points query e l n) (λ p h. absurd (false≢true h))

distinct_from : (index : Index) (points : List Point) (query : List ℕ) (width w : ℕ) (e : Option ℕ) → IsDistinct eqb (rounds_from index.book points query width w e)
distinct_from index points query width w None = none_distinct
distinct_from index points query width w (Some e) = rounds_distinct (ground (decoded_points index.book points) query e) width w (length points) [] none_distinct

ended_from : (index : Index) (points : List Point) (query : List ℕ) (width w : ℕ) (e : Option ℕ) → AreLinked points → IsEntry points e → HaveEnded index points query width w e
ended_from index points query width w None l n = tt
ended_from index points query width w (Some e) l n = rounds_whole (ground (decoded_points index.book points) query e) width w (length points) (pids_of points) (closed_decoded index points query e l n) (let size = length-map points (λ (x : Point). x.pid) in omega arith)

pub rounds_of_graph : (index : Index) (g : Graph) (query : List ℕ) (width w : ℕ) → IsGraph g → RoundsWithin index g query width w
rounds_of_graph index g query width w k =
    let inside : Inside (has (pids_of g.points)) (rounds index.book g query width w) = inside_from index g.points query width w g.entry (linked_from_graph g k) (entry_from_graph g k) in
    let distinct : IsDistinct eqb (rounds index.book g query width w) = distinct_from index g.points query width w g.entry in
    record {
      inside = inside;
      distinct = distinct;
      few = (let fits : length (rounds index.book g query width w) ≤ length (pids_of g.points) = length-le_from_is_member nat_eq_equiv (rounds index.book g query width w) (pids_of g.points) distinct inside in let size = length-map g.points (λ (x : Point). x.pid) in omega arith);
      ended = ended_from index g.points query width w g.entry (linked_from_graph g k) (entry_from_graph g k);
    }
