-- The law of answers: what a search finds is live, and is at most what was asked for.
use Rattle.std.proofs.Common.{◌≡◌, ℕ, ◌≤◌, true, false, cond, eqb, not, IsTrue, List, [], ◌∷◌, ◌++◌, refl, sym, ap, ◌∙◌, subst, arith, filter, flat_map, length, eqb-true, eq-eqb, inl, inr, All}
use Rattle.std.specs.List.{AllByRecursion}
use Rattle.std.proofs.lemmas.Bool.{false≢true, or_left, or_right, not-true}
use Rattle.std.proofs.lemmas.List.{length-map, length-take}
use Rattle.std.proofs.lemmas.List.Elements.{All-from_recursion}
use Rattle.ann_types.specs.Order.{has, in_order, top}
use Rattle.ann_types.specs.Graph.{Point, Graph, pids_of, tag_of, far_from, near_to, IsGraphOf}
use Rattle.ann_types.specs.Rounds.{rounds}
use Rattle.ann_types.specs.Index.{Index}
use Rattle.ann_types.specs.Merge.{without}
use Rattle.ann_types.specs.Lists.{BasedList, IsBaseOf, Names, names_of, is_live, live_of}
use Rattle.ann_types.specs.Fold.{State, all_points, alive_of, fold_of}
use Rattle.ann_types.specs.Legal.{is_legal}
use Rattle.ann_types.specs.Answer.{found, hit, hits, answer}
use Rattle.ann_types.specs.declared.ask.Ask.{Ask}
use Rattle.ann_types.specs.declared.hit.Hit.{Hit}
use Rattle.ann_types.proofs.Ordered.{has_cases, top_inside}
use Rattle.ann_types.proofs.Walks.{Inside, inside_append}
use Rattle.ann_types.proofs.Sets.{has_filter, all_map}
use Rattle.ann_types.proofs.Named.{pids_append}
use Rattle.ann_types.proofs.Graphs.{all_from_has, near_inside, wider_left, wider_right}
use Rattle.ann_types.proofs.Rounded.{rounds_of_graph}
use Rattle.ann_types.proofs.Alive.{live_tags}
use Rattle.ann_types.proofs.States.{AreGraphs, fold_leaves_graphs}

inside_wider : (all more xs : List ℕ) → Inside (has more) all → Inside (has all) xs → Inside (has more) xs
inside_wider all more xs w a p h = w p (a p h)

-- what is near in frozen graphs is among their points
near_all : (index : Index) (gs : List Graph) (query : List ℕ) (width : ℕ) → AllByRecursion (IsGraphOf index.params) gs → Inside (has (pids_of (flat_map (λ (g : Graph). g.points) gs))) (flat_map (λ (g : Graph). near_to g query width) gs)
near_all index [] query width a = λ p h. absurd (false≢true h)
near_all index (g ∷ gs) query width (w, a) =
    let rest : List Point = flat_map (λ (x : Graph). x.points) gs in
    subst (λ (t : List ℕ). Inside (has t) (near_to g query width ++ flat_map (λ (x : Graph). near_to x query width) gs)) (sym (pids_append g.points rest))
    (inside_append (has (pids_of g.points ++ pids_of rest)) (near_to g query width) (flat_map (λ (x : Graph). near_to x query width) gs)
    (inside_wider (pids_of g.points) (pids_of g.points ++ pids_of rest) (near_to g query width) (wider_left (pids_of g.points) (pids_of rest)) (near_inside g query width w.sound))
    (inside_wider (pids_of rest) (pids_of g.points ++ pids_of rest) (flat_map (λ (x : Graph). near_to x query width) gs) (wider_right (pids_of g.points) (pids_of rest)) (near_all index gs query width a)))

-- The candidates of a search are points of the state.
pub found_inside : (index : Index) (s : State) (query : List ℕ) (width : ℕ) → AreGraphs index.params s → Inside (has (pids_of (all_points s))) (found index s query width)
found_inside index s query width w =
    let frozen : List Point = flat_map (λ (g : Graph). g.points) s.ros in
    let all : List ℕ = (pids_of s.lti.points ++ pids_of frozen) ++ pids_of s.rw.points in
    let parts : pids_of (all_points s) ≡ all = pids_append (s.lti.points ++ frozen) s.rw.points ∙ ap (λ t. t ++ pids_of s.rw.points) (pids_append s.lti.points frozen) in
    let lti : Inside (has all) (pids_of s.lti.points) = λ p h. wider_left (pids_of s.lti.points ++ pids_of frozen) (pids_of s.rw.points) p (wider_left (pids_of s.lti.points) (pids_of frozen) p h) in
    let ros : Inside (has all) (pids_of frozen) = λ p h. wider_left (pids_of s.lti.points ++ pids_of frozen) (pids_of s.rw.points) p (wider_right (pids_of s.lti.points) (pids_of frozen) p h) in
    let rw : Inside (has all) (pids_of s.rw.points) = wider_right (pids_of s.lti.points ++ pids_of frozen) (pids_of s.rw.points) in
    subst (λ (t : List ℕ). Inside (has t) (found index s query width)) (sym parts)
    (inside_append (has all) (near_to s.rw query width ++ flat_map (λ (g : Graph). near_to g query width) s.ros) (rounds index.book s.lti query width index.params.w)
    (inside_append (has all) (near_to s.rw query width) (flat_map (λ (g : Graph). near_to g query width) s.ros)
    (inside_wider (pids_of s.rw.points) all (near_to s.rw query width) rw (near_inside s.rw query width w.rw.sound))
    (inside_wider (pids_of frozen) all (flat_map (λ (g : Graph). near_to g query width) s.ros) ros (near_all index s.ros query width w.ros)))
    (inside_wider (pids_of s.lti.points) all (rounds index.book s.lti query width index.params.w) lti (rounds_of_graph index s.lti query width index.params.w w.lti.sound).inside))

-- a point that isn't deleted has its tag among those of the points that aren't
tag_alive : (dead : List ℕ) (points : List Point) (p : ℕ) → has (pids_of points) p ≡ true → has dead p ≡ false → is_live (filter (λ e. not (has dead e.1)) (names_of points)) (tag_of points p) ≡ true
tag_alive dead [] p h n = absurd (false≢true h)
tag_alive dead (x ∷ points) p h n =
    let rest : Names = filter (λ e. not (has dead e.1)) (names_of points) in
    elim (eqb x.pid p) as (λ t. eqb x.pid p ≡ t → is_live (cond (not (has dead x.pid)) ((x.tag, x.pid) ∷ rest) rest) (cond t x.tag (tag_of points p)) ≡ true) [
      | true ↦ λ e.
          ap (λ t. is_live (cond (not t) ((x.tag, x.pid) ∷ rest) rest) x.tag) (ap (has dead) (eqb-true x.pid p e) ∙ n)
          ∙ or_left (eqb x.tag x.tag) (is_live rest x.tag) (eq-eqb x.tag x.tag refl)
      | false ↦ λ e.
          let later : is_live rest (tag_of points p) ≡ true = tag_alive dead points p (elim (has_cases x.pid p (pids_of points) h) [ inl s ↦ absurd (differs (sym (eqb-true p x.pid s)) e) | inr m ↦ m ]) n in
          elim (has dead x.pid) as (λ t. is_live (cond (not t) ((x.tag, x.pid) ∷ rest) rest) (tag_of points p) ≡ true) [
            | true ↦ later
            | false ↦ or_right (eqb x.tag (tag_of points p)) (is_live rest (tag_of points p)) later
          ]
    ] refl
  where
    differs : {a b : ℕ} → a ≡ b → eqb a b ≡ false → ⊥
    differs {a = a} {b = b} s e = false≢true (sym e ∙ eq-eqb a b s)

hits_alive : (index : Index) (s : State) (k width : ℕ) (query : List ℕ) → AreGraphs index.params s → AllByRecursion (λ (x : Hit). is_live (alive_of s) x.tag ≡ true) (hits index s k width query)
unfolding hits
hits_alive index s k width query w =
    let far : ℕ → ℕ = far_from (all_points s) query in
    let some : List ℕ = without s.dead (found index s query width) in
    all_map (λ (x : Hit). is_live (alive_of s) x.tag ≡ true) (hit (all_points s) query) (top far k some)
    (all_from_has (λ p. is_live (alive_of s) (tag_of (all_points s) p) ≡ true) (top far k some) (λ p h.
    let both = has_filter (λ q. not (has s.dead q)) (found index s query width) p (top_inside far k p some h) in
    tag_alive s.dead (all_points s) p (found_inside index s query width w p both.0) (not-true (has s.dead p) both.1)))

-- Every tag that a search finds is live.
pub hits_are_live : (index : Index) (h : BasedList) (k width : ℕ) (query : List ℕ) → IsBaseOf index.params h.base → is_legal index h ≡ true → AllByRecursion (λ (x : Hit). is_live (live_of h) x.tag ≡ true) (hits index (fold_of index h) k width query)
hits_are_live index h k width query b l =
    subst (λ (t : Names). AllByRecursion (λ (x : Hit). is_live t x.tag ≡ true) (hits index (fold_of index h) k width query)) (sym (live_tags index h b l))
    (hits_alive index (fold_of index h) k width query (fold_leaves_graphs index h b l))

-- Every tag that an answer tells is live.
pub answer_is_live : (index : Index) (h : BasedList) (ask : Ask) → IsBaseOf index.params h.base → is_legal index h ≡ true → All (λ (x : Hit). IsTrue (is_live (live_of h) x.tag)) (answer index h ask)
answer_is_live index h ask b l =
    All-from_recursion (λ (x : Hit). is_live (live_of h) x.tag ≡ true) (answer index h ask) (hits_are_live index h ask.k ask.l ask.vector b l)

-- An answer has at most k hits.
pub answer_is_short : (index : Index) (h : BasedList) (ask : Ask) → length (answer index h ask) ≤ ask.k
unfolding hits
answer_is_short index h ask =
    let s : State = fold_of index h in
    let far : ℕ → ℕ = far_from (all_points s) ask.vector in
    let some : List ℕ = without s.dead (found index s ask.vector ask.l) in
    let size = length-map (top far ask.k some) (hit (all_points s) ask.vector) in
    let cut = length-take ask.k (in_order far some) in
    omega arith
