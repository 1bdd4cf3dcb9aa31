-- The laws of graphs: a walk stays in its graph, and `put` leaves a graph.
use Rattle.std.proofs.Common.{◌≡◌, ◌≢◌, ℕ, ◌≤◌, ◌<◌, true, false, cond, eqb, IsTrue, List, [], ◌∷◌, ◌++◌, refl, sym, ap, ◌∙◌, subst, arith, map, length, eqb-true, eq-eqb, All, inl, inr, unwrap_or, MatchOption}
use Rattle.std.specs.Prelude.{Option, Some, None}
use Rattle.std.specs.List.{AllByRecursion, IsDistinct}
use Rattle.std.specs.List.Sorted.{IsStrictlyIncreasing}
use Rattle.std.proofs.lemmas.Bool.{false≢true, or_left, or_right, both_ways}
use Rattle.std.proofs.lemmas.List.{length-map, map-append}
use Rattle.std.proofs.lemmas.List.Elements.{recursion_from_All, All-from_recursion}
use Rattle.ann_types.specs.Order.{has, ascending}
use Rattle.ann_types.specs.Walk.{Ground, met, next, visited_of}
use Rattle.ann_types.specs.Kept.{Rule, rule_of, kept, within}
use Rattle.ann_types.specs.Graph.{Point, Graph, empty_graph, pids_of, links_of, apart_in, ground, visited_from, visited, near_from, near_to, IsGraph, IsGraphOf}
use Rattle.ann_types.specs.Put.{alone, linked_back, put}
use Rattle.ann_types.specs.declared.params.Params.{Params}
use Rattle.ann_types.proofs.Ordered.{has_append, has_here, has_later, has_cases, top_inside}
use Rattle.ann_types.proofs.Walks.{Inside, Closed, met_inside, walk_inside, walk_distinct, walk_short, walk_whole, none_distinct}
use Rattle.ann_types.proofs.Sets.{Rises, increasing_from_rises, rises_from_increasing, has_ascending, rises_ascending, none_from_below, all_append, all_weaker, all_map, all_of_map, rises_push, not_among}
use Rattle.ann_types.proofs.Keeps.{kept_inside, kept_few, kept_rises, within_inside, within_few, within_rises}
use Rattle.ann_types.proofs.Named.{name, pids_are, names_put}

-- ---- members

pub all_from_has : (P : ℕ → Type 0) (xs : List ℕ) → ((p : ℕ) → has xs p ≡ true → P p) → AllByRecursion P xs
all_from_has P [] f = tt
all_from_has P (x ∷ xs) f = (f x (has_here x x xs (eq-eqb x x refl)), all_from_has P xs (λ p h. f p (has_later x p xs h)))

pub has_all : (P : ℕ → Type 0) (xs : List ℕ) (p : ℕ) → AllByRecursion P xs → has xs p ≡ true → P p
has_all P [] p a h = absurd (false≢true h)
has_all P (x ∷ xs) p (k, a) h = elim (has_cases x p xs h) [ inl e ↦ subst P (sym (eqb-true p x e)) k | inr m ↦ has_all P xs p a m ]

pub all_two : {A : Type 0} (P Q R : A → Type 0) (xs : List A) → ((x : A) → P x → Q x → R x) → AllByRecursion P xs → AllByRecursion Q xs → AllByRecursion R xs
all_two P Q R [] f a b = tt
all_two P Q R (x ∷ xs) f (h, a) (k, b) = (f x h k, all_two P Q R xs f a b)

-- ---- what makes points a graph

-- a set of neighbours among these Pids, without the point's own
pub record IsLinked (all : List ℕ) (pid : ℕ) (links : List ℕ) : Type 0 where
  pub rises : Rises links
  pub inside : Inside (has all) links
  pub other : has links pid ≡ false

pub record AreLinked (points : List Point) : Type 0 where
  pub rises : Rises (pids_of points)
  pub linked : AllByRecursion (λ x. IsLinked (pids_of points) x.pid x.links) points

abbrev pub IsEntry : List Point → Option ℕ → Type 0
IsEntry points None = points ≡ []
IsEntry points (Some e) = has (pids_of points) e ≡ true

abbrev pub AreFew : ℕ → List Point → Type 0
AreFew r points = AllByRecursion (λ x. length x.links ≤ r) points

abbrev pub AreLong : ℕ → List Point → Type 0
AreLong d points = AllByRecursion (λ x. length x.vector ≡ d) points

pub linked_wider : (all more : List ℕ) (pid : ℕ) (links : List ℕ) → Inside (has more) all → IsLinked all pid links → IsLinked more pid links
linked_wider all more pid links wider w = record { rises = w.rises; inside = λ p h. wider p (w.inside p h); other = w.other }

pub linked_smaller : (all : List ℕ) (pid : ℕ) (set links : List ℕ) → Rises links → Inside (has set) links → IsLinked all pid set → IsLinked all pid links
linked_smaller all pid set links r sub w = record { rises = r; inside = λ p h. w.inside p (sub p h); other = not_among links pid (λ h. both_ways _ w.other (sub pid h)) }

-- between this and the words of the definitions
entry_match : (points : List Point) (e : Option ℕ) → IsEntry points e → MatchOption e (points ≡ []) (λ p. IsTrue (has (pids_of points) p))
entry_match points None w = w
entry_match points (Some e) w = w

match_entry : (points : List Point) (e : Option ℕ) → MatchOption e (points ≡ []) (λ p. IsTrue (has (pids_of points) p)) → IsEntry points e
match_entry points None w = w
match_entry points (Some e) w = w

pub graph_from_linked : (g : Graph) → AreLinked g.points → IsEntry g.points g.entry → IsGraph g
graph_from_linked g w e = record {
  pids = increasing_from_rises (pids_of g.points) w.rises;
  sets = All-from_recursion (λ (x : Point). IsStrictlyIncreasing x.links) g.points (all_weaker (λ (x : Point). IsLinked (pids_of g.points) x.pid x.links) (λ (x : Point). IsStrictlyIncreasing x.links) g.points (λ x k. increasing_from_rises x.links k.rises) w.linked);
  others = All-from_recursion (λ (x : Point). All (λ p. IsTrue (has (pids_of g.points) p) × (p ≢ x.pid)) x.links) g.points (all_weaker (λ (x : Point). IsLinked (pids_of g.points) x.pid x.links) (λ (x : Point). All (λ p. IsTrue (has (pids_of g.points) p) × (p ≢ x.pid)) x.links) g.points (λ x k. All-from_recursion (λ p. IsTrue (has (pids_of g.points) p) × (p ≢ x.pid)) x.links (all_from_has (λ p. IsTrue (has (pids_of g.points) p) × (p ≢ x.pid)) x.links (λ p h. (k.inside p h, λ same. both_ways _ k.other (subst (λ (t : ℕ). has x.links t ≡ true) same h))))) w.linked);
  entry = entry_match g.points g.entry e;
}

pub linked_from_graph : (g : Graph) → IsGraph g → AreLinked g.points
linked_from_graph g w = record {
  rises = rises_from_increasing (pids_of g.points) w.pids;
  linked =
      all_two (λ (x : Point). IsStrictlyIncreasing x.links) (λ (x : Point). All (λ p. IsTrue (has (pids_of g.points) p) × (p ≢ x.pid)) x.links) (λ (x : Point). IsLinked (pids_of g.points) x.pid x.links) g.points
      (λ x s o.
      let each : AllByRecursion (λ p. IsTrue (has (pids_of g.points) p) × (p ≢ x.pid)) x.links = recursion_from_All (λ p. IsTrue (has (pids_of g.points) p) × (p ≢ x.pid)) x.links o in
      record {
        rises = rises_from_increasing x.links s;
        inside = λ p h. (has_all (λ q. IsTrue (has (pids_of g.points) q) × (q ≢ x.pid)) x.links p each h).0;
        other = not_among x.links x.pid (λ h. (has_all (λ q. IsTrue (has (pids_of g.points) q) × (q ≢ x.pid)) x.links x.pid each h).1 refl);
      })
      (recursion_from_All (λ (x : Point). IsStrictlyIncreasing x.links) g.points w.sets)
      (recursion_from_All (λ (x : Point). All (λ p. IsTrue (has (pids_of g.points) p) × (p ≢ x.pid)) x.links) g.points w.others);
}

pub entry_from_graph : (g : Graph) → IsGraph g → IsEntry g.points g.entry
entry_from_graph g w = match_entry g.points g.entry w.entry

-- ---- walks stay in their graph

pub links_inside : (all : List ℕ) (points : List Point) (r : ℕ) → AllByRecursion (λ x. IsLinked all x.pid x.links) points → Inside (has all) (links_of points r)
links_inside all [] r a = λ p h. absurd (false≢true h)
links_inside all (x ∷ points) r (w, a) = elim (eqb x.pid r) as (λ t. Inside (has all) (cond t x.links (links_of points r))) [ true ↦ w.inside | false ↦ links_inside all points r a ]

pub ground_closed : (points : List Point) (query : List ℕ) (entry : ℕ) → AreLinked points → has (pids_of points) entry ≡ true → Closed (has (pids_of points)) (ground points query entry)
ground_closed points query entry w e = record { entry = e; links = λ r h. links_inside (pids_of points) points r w.linked }

visited_from_inside : (points : List Point) (query : List ℕ) (width : ℕ) (e : Option ℕ) → AreLinked points → IsEntry points e → Inside (has (pids_of points)) (visited_from points query width e)
visited_from_inside points query width None w n = λ p h. absurd (false≢true h)
visited_from_inside points query width (Some e) w n = walk_inside (has (pids_of points)) (ground points query e) width (length points) [] (ground_closed points query e w n) (λ p h. absurd (false≢true h))

pub visited_inside : (g : Graph) (query : List ℕ) (width : ℕ) → AreLinked g.points → IsEntry g.points g.entry → Inside (has (pids_of g.points)) (visited g query width)
visited_inside g query width w e = visited_from_inside g.points query width g.entry w e

near_from_inside : (points : List Point) (query : List ℕ) (width : ℕ) (e : Option ℕ) → AreLinked points → IsEntry points e → Inside (has (pids_of points)) (near_from points query width e)
near_from_inside points query width None w n p h = absurd (false≢true h)
near_from_inside points query width (Some e) w n p h =
    let g : Ground = ground points query e in
    met_inside (has (pids_of points)) g (visited_of g width (length points)) (ground_closed points query e w n) (visited_from_inside points query width (Some e) w n) p
    (top_inside g.far width p (met g (visited_of g width (length points))) h)

-- The points near a query are points of the graph.
pub near_inside : (g : Graph) (query : List ℕ) (width : ℕ) → IsGraph g → Inside (has (pids_of g.points)) (near_to g query width)
near_inside g query width w = near_from_inside g.points query width g.entry (linked_from_graph g w) (entry_from_graph g w)

-- The points that a walk of a graph visits are points of the graph; they differ; they are at most as many;
-- and the walk ends where there is no next point.
abbrev pub HasEnded : List Point → List ℕ → ℕ → Option ℕ → Type 0
HasEnded points query width None = Unit {0}
HasEnded points query width (Some e) = next (ground points query e) width (visited_from points query width (Some e)) ≡ None

pub record WalksWithin (g : Graph) (query : List ℕ) (width : ℕ) : Type 0 where
  pub inside : Inside (has (pids_of g.points)) (visited g query width)
  pub distinct : IsDistinct eqb (visited g query width)
  pub few : length (visited g query width) ≤ length g.points
  pub ended : HasEnded g.points query width g.entry

distinct_from : (points : List Point) (query : List ℕ) (width : ℕ) (e : Option ℕ) → IsDistinct eqb (visited_from points query width e)
distinct_from points query width None = none_distinct
distinct_from points query width (Some e) = walk_distinct (ground points query e) width (length points) [] none_distinct

few_from : (points : List Point) (query : List ℕ) (width : ℕ) (e : Option ℕ) → length (visited_from points query width e) ≤ length points
few_from points query width None = omega arith
few_from points query width (Some e) = let short = walk_short (ground points query e) width (length points) [] in omega arith

ended_from : (points : List Point) (query : List ℕ) (width : ℕ) (e : Option ℕ) → AreLinked points → IsEntry points e → HasEnded points query width e
ended_from points query width None w n = tt
ended_from points query width (Some e) w n = walk_whole (ground points query e) width (length points) (pids_of points) (ground_closed points query e w n) (let size = length-map points (λ x. x.pid) in omega arith)

pub walk_of_graph : (g : Graph) (query : List ℕ) (width : ℕ) → IsGraph g → WalksWithin g query width
walk_of_graph g query width w = record {
  inside = visited_inside g query width (linked_from_graph g w) (entry_from_graph g w);
  distinct = distinct_from g.points query width g.entry;
  few = few_from g.points query width g.entry;
  ended = ended_from g.points query width g.entry (linked_from_graph g w) (entry_from_graph g w);
}

-- ---- put

pub pids_put : (params : Params) (g : Graph) (n tag : ℕ) (vector : List ℕ) → pids_of (put params g n tag vector).points ≡ pids_of g.points ++ n ∷ []
pids_put params g n tag vector =
    sym (pids_are (put params g n tag vector).points)
    ∙ ap (map (λ (e : ℕ × ℕ). e.1)) (names_put params g n tag vector)
    ∙ map-append (λ (e : ℕ × ℕ). e.1) (map name g.points) ((tag, n) ∷ [])
    ∙ ap (λ t. t ++ n ∷ []) (pids_are g.points)

pub wider_left : (xs ys : List ℕ) → Inside (has (xs ++ ys)) xs
wider_left xs ys p h = has_append xs ys p ∙ or_left (has xs p) (has ys p) h

pub wider_right : (xs ys : List ℕ) → Inside (has (xs ++ ys)) ys
wider_right xs ys p h = has_append xs ys p ∙ or_right (has xs p) (has ys p) h

-- a point below n with n among its neighbours
back_linked : (rule : Rule) (apart : ℕ → ℕ → ℕ) (all : List ℕ) (n : ℕ) (x : Point) → x.pid < n → IsLinked all x.pid x.links → IsLinked (all ++ n ∷ []) x.pid (linked_back rule apart n x).links
back_linked rule apart all n x l w =
    let set : List ℕ = ascending (n ∷ x.links) in
    let whole : IsLinked (all ++ n ∷ []) x.pid set = record {
      rises = rises_ascending (n ∷ x.links);
      inside = λ p h. elim (has_cases n p x.links (sym (has_ascending p (n ∷ x.links)) ∙ h)) [
        | inl e ↦ wider_right all (n ∷ []) p (has_here n p [] e)
        | inr k ↦ wider_left all (n ∷ []) p (w.inside p k)
      ];
      other = not_among set x.pid (λ h. elim (has_cases n x.pid x.links (sym (has_ascending x.pid (n ∷ x.links)) ∙ h)) [
        | inl e ↦ (let same = eqb-true x.pid n e in absurd (omega arith))
        | inr k ↦ both_ways _ w.other k
      ]);
    } in
    linked_smaller (all ++ n ∷ []) x.pid set (within rule apart x.pid set) (within_rises rule apart x.pid set whole.rises) (within_inside rule apart x.pid set) whole

module _ (params : Params) (g : Graph) (n tag : ℕ) (vector : List ℕ) (w : AreLinked g.points) (e : IsEntry g.points g.entry) (fresh : AllByRecursion (λ p. p < n) (pids_of g.points)) where
  abbrev apart : ℕ → ℕ → ℕ
  apart = apart_in (g.points ++ alone n tag vector ∷ [])

  abbrev out : List ℕ
  out = kept (rule_of params) apart n (visited g vector params.l_build)

  abbrev back : Point → Point
  back x = cond (has out x.pid) (linked_back (rule_of params) apart n x) x

  out_inside : Inside (has (pids_of g.points)) out
  out_inside p h = visited_inside g vector params.l_build w e p (kept_inside (rule_of params) apart n (visited g vector params.l_build) p h)

  new_linked : IsLinked (pids_of g.points ++ n ∷ []) n out
  new_linked = record {
    rises = kept_rises (rule_of params) apart n (visited g vector params.l_build);
    inside = λ p h. wider_left (pids_of g.points) (n ∷ []) p (out_inside p h);
    other = not_among out n (λ h. both_ways _ (none_from_below n n (pids_of g.points) fresh (omega arith)) (out_inside n h));
  }

  back_all : AllByRecursion (λ x. IsLinked (pids_of g.points ++ n ∷ []) x.pid x.links) (map back g.points)
  back_all =
      all_map (λ x. IsLinked (pids_of g.points ++ n ∷ []) x.pid x.links) back g.points
      (all_two (λ x. IsLinked (pids_of g.points) x.pid x.links) (λ x. x.pid < n) (λ x. IsLinked (pids_of g.points ++ n ∷ []) (back x).pid (back x).links) g.points
      (λ x l f.
      elim (has out x.pid) as (λ t. IsLinked (pids_of g.points ++ n ∷ []) (cond t (linked_back (rule_of params) apart n x) x).pid (cond t (linked_back (rule_of params) apart n x) x).links) [
        | true ↦ back_linked (rule_of params) apart (pids_of g.points) n x f l
        | false ↦ linked_wider (pids_of g.points) (pids_of g.points ++ n ∷ []) x.pid x.links (wider_left (pids_of g.points) (n ∷ [])) l
      ])
      w.linked (all_of_map (λ p. p < n) (λ (x : Point). x.pid) g.points fresh))

  pub linked_put : AreLinked (put params g n tag vector).points
  unfolding put
  linked_put =
      let pids : pids_of (map back g.points ++ (record (alone n tag vector) { links = out }) ∷ []) ≡ pids_of g.points ++ n ∷ [] = pids_put params g n tag vector in
      record {
        rises = subst Rises (sym pids) (rises_push (pids_of g.points) n w.rises fresh);
        linked = subst (λ (all : List ℕ). AllByRecursion (λ x. IsLinked all x.pid x.links) (map back g.points ++ (record (alone n tag vector) { links = out }) ∷ [])) (sym pids) (all_append (λ x. IsLinked (pids_of g.points ++ n ∷ []) x.pid x.links) (map back g.points) ((record (alone n tag vector) { links = out }) ∷ []) back_all (new_linked, tt));
      }

  entry_put_at : (o : Option ℕ) → IsEntry g.points o → has (pids_of g.points ++ n ∷ []) (unwrap_or o n) ≡ true
  entry_put_at None h = wider_right (pids_of g.points) (n ∷ []) n (has_here n n [] (eq-eqb n n refl))
  entry_put_at (Some s) h = wider_left (pids_of g.points) (n ∷ []) s h

  pub entry_put : IsEntry (put params g n tag vector).points (put params g n tag vector).entry
  unfolding put
  entry_put = ap (λ (t : List ℕ). has t (unwrap_or g.entry n)) (pids_put params g n tag vector) ∙ entry_put_at g.entry e

pub few_put : (params : Params) (g : Graph) (n tag : ℕ) (vector : List ℕ) → AreFew params.r g.points → AreFew params.r (put params g n tag vector).points
unfolding put
few_put params g n tag vector few =
    let apart : ℕ → ℕ → ℕ = apart_in (g.points ++ alone n tag vector ∷ []) in
    let out : List ℕ = kept (rule_of params) apart n (visited g vector params.l_build) in
    let back : Point → Point = λ x. cond (has out x.pid) (linked_back (rule_of params) apart n x) x in
    all_append (λ x. length x.links ≤ params.r) (map back g.points) ((record (alone n tag vector) { links = out }) ∷ [])
    (all_map (λ x. length x.links ≤ params.r) back g.points (all_weaker (λ x. length x.links ≤ params.r) (λ x. length (back x).links ≤ params.r) g.points (λ x l.
    elim (has out x.pid) as (λ t. length (cond t (linked_back (rule_of params) apart n x) x).links ≤ params.r) [ true ↦ within_few (rule_of params) apart x.pid (ascending (n ∷ x.links)) | false ↦ l ]) few))
    (kept_few (rule_of params) apart n (visited g vector params.l_build), tt)

pub long_put : (params : Params) (g : Graph) (n tag : ℕ) (vector : List ℕ) (d : ℕ) → AreLong d g.points → length vector ≡ d → AreLong d (put params g n tag vector).points
unfolding put
long_put params g n tag vector d long l =
    let apart : ℕ → ℕ → ℕ = apart_in (g.points ++ alone n tag vector ∷ []) in
    let out : List ℕ = kept (rule_of params) apart n (visited g vector params.l_build) in
    let back : Point → Point = λ x. cond (has out x.pid) (linked_back (rule_of params) apart n x) x in
    all_append (λ x. length x.vector ≡ d) (map back g.points) ((record (alone n tag vector) { links = out }) ∷ [])
    (all_map (λ x. length x.vector ≡ d) back g.points (all_weaker (λ x. length x.vector ≡ d) (λ x. length (back x).vector ≡ d) g.points (λ x k.
    elim (has out x.pid) as (λ t. length (cond t (linked_back (rule_of params) apart n x) x).vector ≡ d) [ true ↦ k | false ↦ k ]) long))
    (l, tt)

pub graph_of_from : (params : Params) (g : Graph) → AreLinked g.points → IsEntry g.points g.entry → AreFew params.r g.points → AreLong params.d g.points → IsGraphOf params g
graph_of_from params g w e few long = record {
  sound = graph_from_linked g w e;
  vectors = All-from_recursion (λ (x : Point). length x.vector ≡ params.d) g.points long;
  degrees = All-from_recursion (λ (x : Point). length x.links ≤ params.r) g.points few;
}

pub few_of : (params : Params) (g : Graph) → IsGraphOf params g → AreFew params.r g.points
few_of params g w = recursion_from_All (λ (x : Point). length x.links ≤ params.r) g.points w.degrees

pub long_of : (params : Params) (g : Graph) → IsGraphOf params g → AreLong params.d g.points
long_of params g w = recursion_from_All (λ (x : Point). length x.vector ≡ params.d) g.points w.vectors

-- `put` leaves a graph of the index, where the point's Pid is above all others and its vector has d
-- components.
pub put_graph : (params : Params) (g : Graph) (n tag : ℕ) (vector : List ℕ) → IsGraphOf params g → AllByRecursion (λ p. p < n) (pids_of g.points) → length vector ≡ params.d → IsGraphOf params (put params g n tag vector)
put_graph params g n tag vector w fresh l =
    let linked : AreLinked g.points = linked_from_graph g w.sound in
    let e : IsEntry g.points g.entry = entry_from_graph g w.sound in
    graph_of_from params (put params g n tag vector) (linked_put params g n tag vector linked e fresh) (entry_put params g n tag vector linked e fresh) (few_put params g n tag vector (few_of params g w)) (long_put params g n tag vector params.d (long_of params g w) l)

pub empty_is_graph : (params : Params) → IsGraphOf params empty_graph
empty_is_graph params = graph_of_from params empty_graph (record { rises = tt; linked = tt }) refl tt tt
