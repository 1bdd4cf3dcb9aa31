-- The law of the merge: it leaves a graph.
use Rattle.std.proofs.Common.{◌≡◌, ℕ, ◌≤◌, ◌<◌, Bool, true, false, cond, eqb, not, List, [], ◌∷◌, ◌++◌, refl, sym, ap, ◌∙◌, subst, arith, map, filter, flat_map, fold, take, drop, length, append_assoc, eqb-true, eq-eqb, ◌⊎◌, inl, inr, slice_get}
use Rattle.std.specs.Prelude.{Option, Some, None}
use Rattle.std.specs.List.{AllByRecursion, list_any}
use Rattle.std.proofs.lemmas.Bool.{false≢true, or_cases, or_parts, both_ways, not-true, not_from_false}
use Rattle.std.proofs.lemmas.List.{map-append, take-append-drop}
use Rattle.ann_types.specs.Order.{has, in_order, ascending}
use Rattle.ann_types.specs.Kept.{Rule, rule_of, kept, within}
use Rattle.ann_types.specs.Graph.{Point, Graph, with_vector, empty_graph, pids_of, links_of, far_from, apart_in, visited, IsGraphOf}
use Rattle.ann_types.specs.Put.{alone, put}
use Rattle.ann_types.specs.Codes.{decoded, decoded_points, decoded_graph}
use Rattle.ann_types.specs.Index.{Index}
use Rattle.ann_types.specs.Merge.{survivors, candidates, repaired, delete_phase, mean, central, mean_entry, entered, base_size, put_decoded, new_vector, first_base, base_points, outside, base_of, linked, insert_phase, delta, patched, patch_phase, merged}
use Rattle.ann_types.specs.Lists.{names_of}
use Rattle.ann_types.specs.declared.params.Params.{Params}
use Rattle.ann_types.specs.declared.new_point.NewPoint.{NewPoint}
use Rattle.ann_types.proofs.Ordered.{has_append, has_here, has_later, has_cases, has_in_order}
use Rattle.ann_types.proofs.Walks.{Inside, inside_append, inside_flat_map}
use Rattle.ann_types.proofs.Sets.{Rises, has_ascending, rises_ascending, all_append, all_left, all_right, all_weaker, all_filter, all_map, all_of_map, rises_left, rises_right, rises_across, rises_filter, has_filter, filter_has, not_among}
use Rattle.ann_types.proofs.Keeps.{kept_inside, kept_few, kept_rises, within_inside, within_few, within_rises}
use Rattle.ann_types.proofs.Named.{new_names, pids_are, pids_same, names_delete, names_first_base, names_base, names_insert, names_patch}
use Rattle.ann_types.proofs.Graphs.{all_from_has, all_two, IsLinked, AreLinked, IsEntry, AreFew, AreLong, linked_wider, linked_smaller, links_inside, visited_inside, wider_left, wider_right, pids_put, linked_put, entry_put, few_put, graph_of_from, linked_from_graph, long_of}
use Rattle.ann_types.proofs.Each.{all_take, all_drop}

abbrev pub new_pids : List NewPoint → List ℕ
new_pids new = map (λ x. x.pid) new

new_pids_are : (new : List NewPoint) → map (λ (e : ℕ × ℕ). e.1) (new_names new) ≡ new_pids new
new_pids_are [] = refl
new_pids_are (x ∷ new) = ap (λ t. x.pid ∷ t) (new_pids_are new)

-- ---- decoded points have the Pids and neighbours of the points

pub pids_decoded : (index : Index) (points : List Point) → pids_of (decoded_points index.book points) ≡ pids_of points
pids_decoded index [] = refl
pids_decoded index (x ∷ points) = ap (λ t. x.pid ∷ t) (pids_decoded index points)

linked_decoded_all : (index : Index) (all : List ℕ) (points : List Point) → AllByRecursion (λ x. IsLinked all x.pid x.links) points → AllByRecursion (λ x. IsLinked all x.pid x.links) (decoded_points index.book points)
linked_decoded_all index all [] a = tt
linked_decoded_all index all (x ∷ points) (w, a) = (w, linked_decoded_all index all points a)

pub linked_decoded : (index : Index) (points : List Point) → AreLinked points → AreLinked (decoded_points index.book points)
linked_decoded index points w = record {
  rises = subst Rises (sym (pids_decoded index points)) w.rises;
  linked = subst (λ (all : List ℕ). AllByRecursion (λ x. IsLinked all x.pid x.links) (decoded_points index.book points)) (sym (pids_decoded index points)) (linked_decoded_all index (pids_of points) points w.linked);
}

pub entry_decoded : (index : Index) (points : List Point) (o : Option ℕ) → IsEntry points o → IsEntry (decoded_points index.book points) o
entry_decoded index points None h = ap (decoded_points index.book) h
entry_decoded index points (Some e) h = ap (λ (t : List ℕ). has t e) (pids_decoded index points) ∙ h

-- ---- Delete phase

pids_survivors : (gone : List ℕ) (points : List Point) → pids_of (survivors gone points) ≡ filter (λ p. not (has gone p)) (pids_of points)
pids_survivors gone [] = refl
pids_survivors gone (x ∷ points) = elim (has gone x.pid) as (λ t. pids_of (cond (not t) (x ∷ survivors gone points) (survivors gone points)) ≡ cond (not t) (x.pid ∷ filter (λ p. not (has gone p)) (pids_of points)) (filter (λ p. not (has gone p)) (pids_of points))) [
  | true ↦ pids_survivors gone points
  | false ↦ ap (λ t. x.pid ∷ t) (pids_survivors gone points)
]

pub pids_delete : (index : Index) (points : List Point) (gone : List ℕ) → pids_of (delete_phase index points gone) ≡ filter (λ p. not (has gone p)) (pids_of points)
pids_delete index points gone = pids_same (delete_phase index points gone) (survivors gone points) (names_delete index points gone) ∙ pids_survivors gone points

pub none_any : (q : ℕ → Bool) (xs : List ℕ) (p : ℕ) → list_any q xs ≡ false → has xs p ≡ true → q p ≡ false
none_any q [] p n h = absurd (false≢true h)
none_any q (x ∷ xs) p n h =
    let both = or_parts (q x) (list_any q xs) n in
    elim (has_cases x p xs h) [ inl e ↦ subst (λ (t : ℕ). q t ≡ false) (sym (eqb-true p x e)) both.0 | inr m ↦ none_any q xs p both.1 m ]

module _ (rule : Rule) (apart : ℕ → ℕ → ℕ) (points : List Point) (gone : List ℕ) (w : AreLinked points) where
  abbrev alive : List ℕ
  alive = filter (λ p. not (has gone p)) (pids_of points)

  candidates_inside : (x : Point) → IsLinked (pids_of points) x.pid x.links → Inside (has alive) (candidates points gone x)
  candidates_inside x l p h =
      let all : List ℕ = x.links ++ flat_map (links_of points) (filter (has gone) x.links) in
      let both = has_filter (λ q. not (has (x.pid ∷ gone) q)) all p h in
      let there : Inside (has (pids_of points)) all = inside_append (has (pids_of points)) x.links (flat_map (links_of points) (filter (has gone) x.links)) l.inside (inside_flat_map (has (pids_of points)) (links_of points) (filter (has gone) x.links) (λ r k. links_inside (pids_of points) points r w.linked) (λ r k. l.inside r (has_filter (has gone) x.links r k).0)) in
      filter_has (λ q. not (has gone q)) (pids_of points) p (there p both.0) (not_from_false (has gone p) (or_parts (eqb p x.pid) (has gone p) (not-true (has (x.pid ∷ gone) p) both.1)).1)

  candidates_other : (x : Point) → has (candidates points gone x) x.pid ≡ false
  candidates_other x =
      not_among (candidates points gone x) x.pid (λ h.
      let both = has_filter (λ q. not (has (x.pid ∷ gone) q)) (x.links ++ flat_map (links_of points) (filter (has gone) x.links)) x.pid h in
      both_ways (eqb x.pid x.pid) (or_parts (eqb x.pid x.pid) (has gone x.pid) (not-true (has (x.pid ∷ gone) x.pid) both.1)).0 (eq-eqb x.pid x.pid refl))

  repaired_linked : (x : Point) → IsLinked (pids_of points) x.pid x.links → IsLinked alive x.pid (repaired rule apart points gone x).links
  repaired_linked x l =
      elim (list_any (has gone) x.links) as (λ t. list_any (has gone) x.links ≡ t → IsLinked alive x.pid (cond t (record x { links = kept rule apart x.pid (candidates points gone x) }) x).links) [
        | true ↦ λ e. record {
          rises = kept_rises rule apart x.pid (candidates points gone x);
          inside = λ p h. candidates_inside x l p (kept_inside rule apart x.pid (candidates points gone x) p h);
          other = not_among (kept rule apart x.pid (candidates points gone x)) x.pid (λ h. both_ways _ (candidates_other x) (kept_inside rule apart x.pid (candidates points gone x) x.pid h));
        }
        | false ↦ λ e. record {
          rises = l.rises;
          inside = λ p h. filter_has (λ q. not (has gone q)) (pids_of points) p (l.inside p h) (not_from_false (has gone p) (none_any (has gone) x.links p e h));
          other = l.other;
        }
      ] refl

  repaired_pid : (x : Point) → (repaired rule apart points gone x).pid ≡ x.pid
  repaired_pid x = elim (list_any (has gone) x.links) as (λ t. (cond t (record x { links = kept rule apart x.pid (candidates points gone x) }) x).pid ≡ x.pid) [ true ↦ refl | false ↦ refl ]

  repaired_all : AllByRecursion (λ x. IsLinked alive x.pid x.links) (map (repaired rule apart points gone) (survivors gone points))
  repaired_all =
      all_map (λ x. IsLinked alive x.pid x.links) (repaired rule apart points gone) (survivors gone points)
      (all_weaker (λ x. IsLinked (pids_of points) x.pid x.links) (λ x. IsLinked alive (repaired rule apart points gone x).pid (repaired rule apart points gone x).links) (survivors gone points)
      (λ x l. subst (λ (n : ℕ). IsLinked alive n (repaired rule apart points gone x).links) (sym (repaired_pid x)) (repaired_linked x l))
      (all_filter (λ x. IsLinked (pids_of points) x.pid x.links) (λ x. not (has gone x.pid)) points w.linked))

pub linked_delete : (index : Index) (points : List Point) (gone : List ℕ) → AreLinked points → AreLinked (delete_phase index points gone)
unfolding delete_phase
linked_delete index points gone w =
    let apart : ℕ → ℕ → ℕ = apart_in (decoded_points index.book points) in
    let pids : pids_of (map (repaired (rule_of index.params) apart points gone) (survivors gone points)) ≡ filter (λ p. not (has gone p)) (pids_of points) = pids_delete index points gone in
    record {
      rises = subst Rises (sym pids) (rises_filter (λ p. not (has gone p)) (pids_of points) w.rises);
      linked = subst (λ (all : List ℕ). AllByRecursion (λ x. IsLinked all x.pid x.links) (map (repaired (rule_of index.params) apart points gone) (survivors gone points))) (sym pids) (repaired_all (rule_of index.params) apart points gone w);
    }

pub few_delete : (index : Index) (points : List Point) (gone : List ℕ) → AreFew index.params.r points → AreFew index.params.r (delete_phase index points gone)
unfolding delete_phase
few_delete index points gone few =
    let rule : Rule = rule_of index.params in
    let apart : ℕ → ℕ → ℕ = apart_in (decoded_points index.book points) in
    all_map (λ x. length x.links ≤ index.params.r) (repaired rule apart points gone) (survivors gone points)
    (all_weaker (λ x. length x.links ≤ index.params.r) (λ x. length (repaired rule apart points gone x).links ≤ index.params.r) (survivors gone points)
    (λ x l. elim (list_any (has gone) x.links) as (λ t. length (cond t (record x { links = kept rule apart x.pid (candidates points gone x) }) x).links ≤ index.params.r) [ true ↦ kept_few rule apart x.pid (candidates points gone x) | false ↦ l ])
    (all_filter (λ x. length x.links ≤ index.params.r) (λ x. not (has gone x.pid)) points few))

pub long_delete : (index : Index) (points : List Point) (gone : List ℕ) (d : ℕ) → AreLong d points → AreLong d (delete_phase index points gone)
unfolding delete_phase
long_delete index points gone d long =
    let rule : Rule = rule_of index.params in
    let apart : ℕ → ℕ → ℕ = apart_in (decoded_points index.book points) in
    all_map (λ x. length x.vector ≡ d) (repaired rule apart points gone) (survivors gone points)
    (all_weaker (λ x. length x.vector ≡ d) (λ x. length (repaired rule apart points gone x).vector ≡ d) (survivors gone points)
    (λ x l. elim (list_any (has gone) x.links) as (λ t. length (cond t (record x { links = kept rule apart x.pid (candidates points gone x) }) x).vector ≡ d) [ true ↦ l | false ↦ l ])
    (all_filter (λ x. length x.vector ≡ d) (λ x. not (has gone x.pid)) points long))

-- ---- MeanEntry is a point exactly where there is one

first_at : (far : ℕ → ℕ) (points : List Point) (order : List ℕ) → order ≡ in_order far (pids_of points) → IsEntry points (slice_get (take 1 order) 0)
first_at far [] [] e = refl
first_at far (x ∷ points) [] e = absurd (false≢true (ap (λ (t : List ℕ). has t x.pid) e ∙ has_in_order far x.pid (x.pid ∷ pids_of points) ∙ has_here x.pid x.pid (pids_of points) (eq-eqb x.pid x.pid refl)))
first_at far points (p ∷ order) e = sym (has_in_order far p (pids_of points)) ∙ sym (ap (λ (t : List ℕ). has t p) e) ∙ has_here p p order (eq-eqb p p refl)

pub central_entry : (d : ℕ) (points : List Point) → IsEntry points (central d points)
central_entry d points = first_at (far_from points (mean d (map (λ (x : Point). x.vector) points))) points (in_order (far_from points (mean d (map (λ (x : Point). x.vector) points))) (pids_of points)) refl

entry_same : (xs ys : List Point) (o : Option ℕ) → pids_of xs ≡ pids_of ys → (xs ≡ [] → ys ≡ []) → IsEntry xs o → IsEntry ys o
entry_same xs ys None e n h = n h
entry_same xs ys (Some p) e n h = sym (ap (λ (t : List ℕ). has t p) e) ∙ h

none_decoded : (index : Index) (points : List Point) → decoded_points index.book points ≡ [] → points ≡ []
none_decoded index [] e = refl
none_decoded index (x ∷ points) e = absurd (nothing e)
  where
    nothing : {y : Point} {ys : List Point} → y ∷ ys ≡ [] → ⊥
    nothing e = cc

pub mean_entry_is : (index : Index) (points : List Point) → IsEntry points (mean_entry index points)
mean_entry_is index points = entry_same (decoded_points index.book points) points (mean_entry index points) (pids_decoded index points) (none_decoded index points) (central_entry index.params.d (decoded_points index.book points))

-- ---- Base

-- new points put one after the other over a graph
module _ (index : Index) where
  abbrev put_one : Graph → NewPoint → Graph
  put_one g x = put index.params g x.pid x.tag (decoded index.book x.vector)

  pub record PutAll (g : Graph) : Type 0 where
    pub linked : AreLinked g.points
    pub entry : IsEntry g.points g.entry
    pub few : AreFew index.params.r g.points

  put_all : (g : Graph) (new : List NewPoint) → Rises (pids_of g.points ++ new_pids new) → PutAll g → PutAll (fold put_one g new)
  put_all g [] r w = w
  put_all g (x ∷ new) r w =
      let fresh : AllByRecursion (λ p. p < x.pid) (pids_of g.points) = all_from_has (λ p. p < x.pid) (pids_of g.points) (λ p h. rises_across (pids_of g.points) (x.pid ∷ new_pids new) p x.pid r h (has_here x.pid x.pid (new_pids new) (eq-eqb x.pid x.pid refl))) in
      let vector : List ℕ = decoded index.book x.vector in
      put_all (put_one g x) new
      (subst (λ (t : List ℕ). Rises (t ++ new_pids new)) (sym (pids_put index.params g x.pid x.tag vector)) (subst Rises (sym (append_assoc (pids_of g.points) (x.pid ∷ []) (new_pids new))) r))
      (record {
        linked = linked_put index.params g x.pid x.tag vector w.linked w.entry fresh;
        entry = entry_put index.params g x.pid x.tag vector w.linked w.entry fresh;
        few = few_put index.params g x.pid x.tag vector w.few;
      })

  pub put_decoded_all : (new : List NewPoint) → Rises (new_pids new) → PutAll (put_decoded index new)
  put_decoded_all new r = put_all empty_graph new r (record { linked = record { rises = tt; linked = tt }; entry = refl; few = tt })

-- other vectors leave the links
pids_revectored : (f : Point → List ℕ) (points : List Point) → pids_of (map (λ (x : Point). with_vector (f x) x) points) ≡ pids_of points
pids_revectored f [] = refl
pids_revectored f (x ∷ points) = ap (λ t. x.pid ∷ t) (pids_revectored f points)

linked_revectored : (f : Point → List ℕ) (points : List Point) → AreLinked points → AreLinked (map (λ (x : Point). with_vector (f x) x) points)
linked_revectored f points w = record {
  rises = subst Rises (sym (pids_revectored f points)) w.rises;
  linked = subst (λ (all : List ℕ). AllByRecursion (λ x. IsLinked all x.pid x.links) (map (λ (x : Point). with_vector (f x) x) points)) (sym (pids_revectored f points)) (all_map (λ x. IsLinked (pids_of points) x.pid x.links) (λ (x : Point). with_vector (f x) x) points w.linked);
}

pub linked_first_base : (index : Index) (new : List NewPoint) → Rises (new_pids new) → AreLinked (first_base index new)
linked_first_base index new r = linked_revectored (λ x. new_vector new x.pid) (put_decoded index new).points (put_decoded_all index new r).linked

pub few_first_base : (index : Index) (new : List NewPoint) → Rises (new_pids new) → AreFew index.params.r (first_base index new)
few_first_base index new r = all_map (λ x. length x.links ≤ index.params.r) (λ (x : Point). with_vector (new_vector new x.pid) x) (put_decoded index new).points (put_decoded_all index new r).few

abbrev pub NewLong : ℕ → List NewPoint → Type 0
NewLong d new = AllByRecursion (λ x. length x.vector ≡ d) new

long_new : (d : ℕ) (new : List NewPoint) (p : ℕ) → NewLong d new → has (new_pids new) p ≡ true → length (new_vector new p) ≡ d
long_new d [] p a h = absurd (false≢true h)
long_new d (x ∷ new) p (l, a) h =
    elim (eqb x.pid p) as (λ t. eqb x.pid p ≡ t → length (cond t x.vector (new_vector new p)) ≡ d) [
      | true ↦ λ e. l
      | false ↦ λ e. elim (has_cases x.pid p (new_pids new) h) [ inl s ↦ absurd (both_ways _ e (eq-eqb x.pid p (sym (eqb-true p x.pid s)))) | inr m ↦ long_new d new p a m ]
    ] refl

pids_first_base : (index : Index) (new : List NewPoint) → pids_of (first_base index new) ≡ new_pids new
pids_first_base index new = sym (pids_are (first_base index new)) ∙ ap (map (λ (e : ℕ × ℕ). e.1)) (names_first_base index new) ∙ new_pids_are new

pub long_first_base : (index : Index) (new : List NewPoint) (d : ℕ) → NewLong d new → AreLong d (first_base index new)
long_first_base index new d long =
    let points : List Point = (put_decoded index new).points in
    let pids : pids_of points ≡ new_pids new = sym (pids_revectored (λ x. new_vector new x.pid) points) ∙ pids_first_base index new in
    all_map (λ x. length x.vector ≡ d) (λ (x : Point). with_vector (new_vector new x.pid) x) points
    (all_of_map (λ p. length (new_vector new p) ≡ d) (λ (x : Point). x.pid) points
    (all_from_has (λ p. length (new_vector new p) ≡ d) (pids_of points) (λ p h. long_new d new p long (subst (λ (t : List ℕ). has t p ≡ true) pids h))))

-- the survivors and the new points, in order
pids_base : (index : Index) (left : List Point) (new : List NewPoint) → pids_of (base_points index left new) ++ new_pids (outside left new) ≡ pids_of left ++ new_pids new
pids_base index left new =
    let first : ℕ × ℕ → ℕ = λ e. e.1 in
    ap (λ t. t ++ new_pids (outside left new)) (sym (pids_are (base_points index left new)))
    ∙ ap (λ t. map first (names_of (base_points index left new)) ++ t) (sym (new_pids_are (outside left new)))
    ∙ sym (map-append first (names_of (base_points index left new)) (new_names (outside left new)))
    ∙ ap (map first) (names_base index left new)
    ∙ map-append first (names_of left) (new_names new)
    ∙ ap (λ t. t ++ map first (new_names new)) (pids_are left)
    ∙ ap (λ t. pids_of left ++ t) (new_pids_are new)

rises_take_new : (n : ℕ) (new : List NewPoint) → Rises (new_pids new) → Rises (new_pids (take n new))
rises_take_new n new r =
    rises_left (new_pids (take n new)) (new_pids (drop n new)) (subst Rises (sym (sym (map-append (λ (x : NewPoint). x.pid) (take n new) (drop n new)) ∙ ap new_pids (take-append-drop n new))) r)

pub linked_base : (index : Index) (left : List Point) (new : List NewPoint) → AreLinked left → Rises (new_pids new) → AreLinked (base_points index left new)
linked_base index [] new w r = linked_first_base index (take base_size new) (rises_take_new base_size new r)
linked_base index (x ∷ left) new w r = w

few_base : (index : Index) (left : List Point) (new : List NewPoint) → AreFew index.params.r left → Rises (new_pids new) → AreFew index.params.r (base_points index left new)
few_base index [] new w r = few_first_base index (take base_size new) (rises_take_new base_size new r)
few_base index (x ∷ left) new w r = w

long_base : (index : Index) (left : List Point) (new : List NewPoint) (d : ℕ) → AreLong d left → NewLong d new → AreLong d (base_points index left new)
long_base index [] new d w l = long_first_base index (take base_size new) d (all_take (λ x. length x.vector ≡ d) base_size new l)
long_base index (x ∷ left) new d w l = w

long_outside : (left : List Point) (new : List NewPoint) (d : ℕ) → NewLong d new → NewLong d (outside left new)
long_outside [] new d l = all_drop (λ x. length x.vector ≡ d) base_size new l
long_outside (x ∷ left) new d l = l

-- ---- Insert phase

-- a new point outside the base is linked to points of the base
linked_new : (index : Index) (base : Graph) (x : NewPoint) → AreLinked base.points → IsEntry base.points base.entry → has (pids_of base.points) x.pid ≡ false → IsLinked (pids_of base.points) x.pid (linked index base x).links
linked_new index base x w e n =
    let known : Graph = decoded_graph index.book base in
    let apart : ℕ → ℕ → ℕ = apart_in (known.points ++ alone x.pid x.tag (decoded index.book x.vector) ∷ []) in
    let seen : List ℕ = visited known x.vector index.params.l_build in
    let inside : Inside (has (pids_of base.points)) (kept (rule_of index.params) apart x.pid seen) = λ p h.
    subst (λ (t : List ℕ). has t p ≡ true) (pids_decoded index base.points) (visited_inside known x.vector index.params.l_build (linked_decoded index base.points w) (entry_decoded index base.points base.entry e) p (kept_inside (rule_of index.params) apart x.pid seen p h)) in
    record {
      rises = kept_rises (rule_of index.params) apart x.pid seen;
      inside = inside;
      other = not_among (kept (rule_of index.params) apart x.pid seen) x.pid (λ h. both_ways _ n (inside x.pid h));
    }

linked_insert : (index : Index) (base : Graph) (new : List NewPoint) → AreLinked base.points → IsEntry base.points base.entry → ((p : ℕ) → has (new_pids new) p ≡ true → has (pids_of base.points) p ≡ false) → AllByRecursion (λ x. IsLinked (pids_of base.points) x.pid x.links) (insert_phase index base new)
unfolding insert_phase
linked_insert index base [] w e n = tt
linked_insert index base (x ∷ new) w e n = (linked_new index base x w e (n x.pid (has_here x.pid x.pid (new_pids new) (eq-eqb x.pid x.pid refl))), linked_insert index base new w e (λ p h. n p (has_later x.pid p (new_pids new) h)))

few_insert : (index : Index) (base : Graph) (new : List NewPoint) → AreFew index.params.r (insert_phase index base new)
unfolding insert_phase
few_insert index base [] = tt
few_insert index base (x ∷ new) =
    let known : Graph = decoded_graph index.book base in
    (kept_few (rule_of index.params) (apart_in (known.points ++ alone x.pid x.tag (decoded index.book x.vector) ∷ [])) x.pid (visited known x.vector index.params.l_build), few_insert index base new)

long_insert : (index : Index) (base : Graph) (new : List NewPoint) (d : ℕ) → NewLong d new → AreLong d (insert_phase index base new)
unfolding insert_phase
long_insert index base [] d l = tt
long_insert index base (x ∷ new) d (l, a) = (l, long_insert index base new d a)

pids_insert : (index : Index) (base : Graph) (new : List NewPoint) → pids_of (insert_phase index base new) ≡ new_pids new
pids_insert index base new = sym (pids_are (insert_phase index base new)) ∙ ap (map (λ (e : ℕ × ℕ). e.1)) (names_insert index base new) ∙ new_pids_are new

-- ---- Patch phase

delta_inside : (new : List Point) (p : ℕ) → Inside (has (pids_of new)) (delta new p)
delta_inside [] p q h = absurd (false≢true h)
delta_inside (x ∷ new) p q h =
    let cases : has (delta (x ∷ new) p) q ≡ true → has (x.pid ∷ pids_of new) q ≡ true =
    elim (has x.links p) as (λ t. has (pids_of (cond t (x ∷ filter (λ y. has y.links p) new) (filter (λ y. has y.links p) new))) q ≡ true → has (x.pid ∷ pids_of new) q ≡ true) [
      | true ↦ λ k. elim (has_cases x.pid q (delta new p) k) [ inl e ↦ has_here x.pid q (pids_of new) e | inr m ↦ has_later x.pid q (pids_of new) (delta_inside new p q m) ]
      | false ↦ λ k. has_later x.pid q (pids_of new) (delta_inside new p q k)
    ] in
    cases h

patched_linked : (rule : Rule) (apart : ℕ → ℕ → ℕ) (all : List ℕ) (new : List Point) (x : Point) → has (pids_of new) x.pid ≡ false → IsLinked all x.pid x.links → IsLinked (all ++ pids_of new) x.pid (patched rule apart new x).links
patched_linked rule apart all new x n l =
    let set : List ℕ = ascending (x.links ++ delta new x.pid) in
    let cases : (p : ℕ) → has set p ≡ true → (has x.links p ≡ true) ⊎ (has (delta new x.pid) p ≡ true) = λ p h. or_cases (has x.links p) (has (delta new x.pid) p) (sym (has_append x.links (delta new x.pid) p) ∙ sym (has_ascending p (x.links ++ delta new x.pid)) ∙ h) in
    let whole : IsLinked (all ++ pids_of new) x.pid set = record {
      rises = rises_ascending (x.links ++ delta new x.pid);
      inside = λ p h. elim (cases p h) [ inl k ↦ wider_left all (pids_of new) p (l.inside p k) | inr k ↦ wider_right all (pids_of new) p (delta_inside new x.pid p k) ];
      other = not_among set x.pid (λ h. elim (cases x.pid h) [ inl k ↦ both_ways _ l.other k | inr k ↦ both_ways _ n (delta_inside new x.pid x.pid k) ]);
    } in
    linked_smaller (all ++ pids_of new) x.pid set (within rule apart x.pid set) (within_rises rule apart x.pid set whole.rises) (within_inside rule apart x.pid set) whole

pub pids_patch : (index : Index) (base new : List Point) → pids_of (patch_phase index base new).points ≡ pids_of base ++ pids_of new
pids_patch index base new =
    let first : ℕ × ℕ → ℕ = λ e. e.1 in
    sym (pids_are (patch_phase index base new).points)
    ∙ ap (map first) (names_patch index base new)
    ∙ map-append first (names_of base) (names_of new)
    ∙ ap (λ t. t ++ map first (names_of new)) (pids_are base)
    ∙ ap (λ t. pids_of base ++ t) (pids_are new)

-- a point of the one part isn't of the other
across : (xs ys : List ℕ) (p : ℕ) → Rises (xs ++ ys) → has xs p ≡ true → has ys p ≡ false
across xs ys p r h = not_among ys p (λ k. let b = rises_across xs ys p p r h k in absurd (omega arith))

across_back : (xs ys : List ℕ) (p : ℕ) → Rises (xs ++ ys) → has ys p ≡ true → has xs p ≡ false
across_back xs ys p r k = not_among xs p (λ h. let b = rises_across xs ys p p r h k in absurd (omega arith))

pub linked_patch : (index : Index) (base new : List Point) → AreLinked base → AllByRecursion (λ x. IsLinked (pids_of base) x.pid x.links) new → Rises (pids_of base ++ pids_of new) → AreLinked (patch_phase index base new).points
unfolding patch_phase
linked_patch index base new w n r =
    let rule : Rule = rule_of index.params in
    let apart : ℕ → ℕ → ℕ = apart_in (decoded_points index.book (base ++ new)) in
    let all : List ℕ = pids_of base ++ pids_of new in
    let pids : pids_of (map (patched rule apart new) base ++ new) ≡ all = pids_patch index base new in
    record {
      rises = subst Rises (sym pids) r;
      linked = subst (λ (t : List ℕ). AllByRecursion (λ x. IsLinked t x.pid x.links) (map (patched rule apart new) base ++ new)) (sym pids)
          (all_append (λ x. IsLinked all x.pid x.links) (map (patched rule apart new) base) new
          (all_map (λ x. IsLinked all x.pid x.links) (patched rule apart new) base
          (all_two (λ x. IsLinked (pids_of base) x.pid x.links) (λ x. has (pids_of new) x.pid ≡ false) (λ x. IsLinked all x.pid (patched rule apart new x).links) base
          (λ x l f. patched_linked rule apart (pids_of base) new x f l) w.linked
          (all_of_map (λ p. has (pids_of new) p ≡ false) (λ (x : Point). x.pid) base (all_from_has (λ p. has (pids_of new) p ≡ false) (pids_of base) (λ p h. across (pids_of base) (pids_of new) p r h)))))
          (all_weaker (λ x. IsLinked (pids_of base) x.pid x.links) (λ x. IsLinked all x.pid x.links) new (λ x l. linked_wider (pids_of base) all x.pid x.links (wider_left (pids_of base) (pids_of new)) l) n));
    }

pub entry_patch : (index : Index) (base new : List Point) → IsEntry (patch_phase index base new).points (patch_phase index base new).entry
unfolding patch_phase
entry_patch index base new = mean_entry_is index (map (patched (rule_of index.params) (apart_in (decoded_points index.book (base ++ new))) new) base ++ new)

pub few_patch : (index : Index) (base new : List Point) → AreFew index.params.r new → AreFew index.params.r (patch_phase index base new).points
unfolding patch_phase
few_patch index base new few =
    let rule : Rule = rule_of index.params in
    let apart : ℕ → ℕ → ℕ = apart_in (decoded_points index.book (base ++ new)) in
    all_append (λ x. length x.links ≤ index.params.r) (map (patched rule apart new) base) new
    (all_map (λ x. length x.links ≤ index.params.r) (patched rule apart new) base (every base))
    few
  where
    every : (xs : List Point) → AllByRecursion (λ x. length (patched (rule_of index.params) (apart_in (decoded_points index.book (base ++ new))) new x).links ≤ index.params.r) xs
    every [] = tt
    every (x ∷ xs) = (within_few (rule_of index.params) (apart_in (decoded_points index.book (base ++ new))) x.pid (ascending (x.links ++ delta new x.pid)), every xs)

pub long_patch : (index : Index) (base new : List Point) (d : ℕ) → AreLong d base → AreLong d new → AreLong d (patch_phase index base new).points
unfolding patch_phase
long_patch index base new d a b =
    let rule : Rule = rule_of index.params in
    let apart : ℕ → ℕ → ℕ = apart_in (decoded_points index.book (base ++ new)) in
    all_append (λ x. length x.vector ≡ d) (map (patched rule apart new) base) new (all_map (λ x. length x.vector ≡ d) (patched rule apart new) base a) b

-- ---- the whole

rises_kept : (q : ℕ → Bool) (xs ys : List ℕ) → Rises (xs ++ ys) → Rises (filter q xs ++ ys)
rises_kept q [] ys r = r
rises_kept q (x ∷ xs) ys (a, r) =
    elim (q x) as (λ t. Rises (cond t (x ∷ filter q xs) (filter q xs) ++ ys)) [
      | true ↦ (all_append (λ y. x < y) (filter q xs) ys (all_filter (λ y. x < y) q xs (all_left (λ y. x < y) xs ys a)) (all_right (λ y. x < y) xs ys a), rises_kept q xs ys r)
      | false ↦ rises_kept q xs ys r
    ]

-- A merge leaves a graph of the index, where the new points stand in order behind those of the long-term
-- graph and their vectors have d components.
pub merged_graph : (index : Index) (lti : Graph) (new : List NewPoint) (gone : List ℕ) → IsGraphOf index.params lti → Rises (pids_of lti.points ++ new_pids new) → NewLong index.params.d new → IsGraphOf index.params (merged index lti new gone)
unfolding merged base_of
merged_graph index lti new gone w r long =
    let params : Params = index.params in
    let old : AreLinked lti.points = linked_from_graph lti w.sound in
    let left : List Point = delete_phase index lti.points gone in
    let base : List Point = base_points index left new in
    let rest : List NewPoint = outside left new in
    let more : List Point = insert_phase index (entered index base) rest in
    let new_rises : Rises (new_pids new) = rises_right (pids_of lti.points) (new_pids new) r in
    let left_linked : AreLinked left = linked_delete index lti.points gone old in
    let base_linked : AreLinked base = linked_base index left new left_linked new_rises in
    let order : Rises (pids_of left ++ new_pids new) = subst (λ (t : List ℕ). Rises (t ++ new_pids new)) (sym (pids_delete index lti.points gone)) (rises_kept (λ p. not (has gone p)) (pids_of lti.points) (new_pids new) r) in
    let whole : Rises (pids_of base ++ new_pids rest) = subst Rises (sym (pids_base index left new)) order in
    let more_linked : AllByRecursion (λ x. IsLinked (pids_of base) x.pid x.links) more = linked_insert index (entered index base) rest base_linked (mean_entry_is index base) (λ p h. across_back (pids_of base) (new_pids rest) p whole h) in
    graph_of_from params (patch_phase index base more)
    (linked_patch index base more base_linked more_linked (subst (λ (t : List ℕ). Rises (pids_of base ++ t)) (sym (pids_insert index (entered index base) rest)) whole))
    (entry_patch index base more)
    (few_patch index base more (few_insert index (entered index base) rest))
    (long_patch index base more params.d (long_base index left new params.d (long_delete index lti.points gone params.d (long_of params lti w)) long) (long_insert index (entered index base) rest params.d (long_outside left new params.d long)))
