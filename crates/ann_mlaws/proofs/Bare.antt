-- Without their neighbours, the points of a merge are the survivors and then the new points.
use Rattle.std.proofs.Common.{◌≡◌, ℕ, ◌<◌, cond, List, [], ◌∷◌, ◌++◌, refl, sym, ap, ap₂, subst, ◌∙◌, arith, map, take, drop, length, eq-eqb}
use Rattle.std.specs.List.{AllByRecursion}
use Rattle.std.proofs.lemmas.Bool.{ne_eqb}
use Rattle.std.proofs.lemmas.List.{length-map, map-append, take-append-drop}
use Rattle.ann_types.specs.Fold.{new_point}
use Rattle.ann_types.specs.Graph.{Point, Graph, with_vector}
use Rattle.ann_types.specs.Index.{Index}
use Rattle.ann_types.specs.Lists.{names_of}
use Rattle.ann_types.specs.Merge.{base_size, put_decoded, new_vector, first_base, base_points, base_of, outside, insert_phase}
use Rattle.ann_types.specs.declared.new_point.NewPoint.{NewPoint}
use Rattle.ann_types.proofs.Graphs.{all_two}
use Rattle.ann_types.proofs.Merges.{new_pids}
use Rattle.ann_types.proofs.Named.{new_names, names_first_base}
use Rattle.ann_types.proofs.Sets.{Rises, all_of_map, rises_left}

-- ---- the first new points have their own vectors again

found_later : (x : NewPoint) (new : List NewPoint) (y : NewPoint) → x.pid < y.pid → new_vector new y.pid ≡ y.vector → new_vector (x ∷ new) y.pid ≡ y.vector
found_later x new y l is = ap (λ t. cond t x.vector (new_vector new y.pid)) (ne_eqb x.pid y.pid (λ e. omega arith)) ∙ is

found_each : (new : List NewPoint) → Rises (new_pids new) → AllByRecursion (λ y. new_vector new y.pid ≡ y.vector) new
found_each [] r = tt
found_each (x ∷ new) (a, r) = (
  ap (λ t. cond t x.vector (new_vector new x.pid)) (eq-eqb x.pid x.pid refl),
  all_two (λ y. x.pid < y.pid) (λ y. new_vector new y.pid ≡ y.vector) (λ y. new_vector (x ∷ new) y.pid ≡ y.vector) new (found_later x new) (all_of_map (λ p. x.pid < p) (λ (y : NewPoint). y.pid) new a) (found_each new r),
)

-- the new point of this name, with the vector at its Pid
abbrev of_name : (ℕ → List ℕ) → ℕ × ℕ → NewPoint
of_name vector e = record { pid = e.1; tag = e.0; vector = vector e.1 }

bare_named : (vector : ℕ → List ℕ) (points : List Point) → map new_point (map (λ (x : Point). with_vector (vector x.pid) x) points) ≡ map (of_name vector) (names_of (map (λ (x : Point). with_vector (vector x.pid) x) points))
bare_named vector [] = refl
bare_named vector (x ∷ points) = ap (λ t. of_name vector (x.tag, x.pid) ∷ t) (bare_named vector points)

named_new : (vector : ℕ → List ℕ) (new : List NewPoint) → AllByRecursion (λ y. vector y.pid ≡ y.vector) new → map (of_name vector) (new_names new) ≡ new
named_new vector [] a = refl
named_new vector (x ∷ new) (h, a) = ap₂ (λ (v : List ℕ) (t : List NewPoint). (let y : NewPoint = record { pid = x.pid; tag = x.tag; vector = v } in y) ∷ t) h (named_new vector new a)

bare_first : (index : Index) (new : List NewPoint) → Rises (new_pids new) → map new_point (first_base index new) ≡ new
bare_first index new r =
    bare_named (new_vector new) (put_decoded index new).points
    ∙ ap (map (of_name (new_vector new))) (names_first_base index new)
    ∙ named_new (new_vector new) new (found_each new r)

-- how many they are
pub first_count : (index : Index) (new : List NewPoint) → length (first_base index new) ≡ length new
first_count index new =
    sym (length-map (first_base index new) (λ (x : Point). (x.tag, x.pid)))
    ∙ ap length (names_first_base index new)
    ∙ length-map new (λ (x : NewPoint). (x.tag, x.pid))

-- ---- the base and the new points outside it

bare_base : (index : Index) (left : List Point) (new : List NewPoint) → Rises (new_pids new) → map new_point (base_points index left new) ++ outside left new ≡ map new_point left ++ new
bare_base index [] new r =
    let first : Rises (new_pids (take base_size new)) =
    rises_left (new_pids (take base_size new)) (new_pids (drop base_size new))
    (subst Rises (sym (sym (map-append (λ (x : NewPoint). x.pid) (take base_size new) (drop base_size new)) ∙ ap new_pids (take-append-drop base_size new))) r) in
    ap (λ t. t ++ drop base_size new) (bare_first index (take base_size new) first)
    ∙ take-append-drop base_size new
bare_base index (x ∷ left) new r = refl

bare_insert : (index : Index) (g : Graph) (new : List NewPoint) → map new_point (insert_phase index g new) ≡ new
unfolding insert_phase
bare_insert index g [] = refl
bare_insert index g (x ∷ new) = ap (λ t. x ∷ t) (bare_insert index g new)

-- all points, without their neighbours
pub bare_all : (index : Index) (left : List Point) (new : List NewPoint) → Rises (new_pids new) → map new_point ((base_of index left new).points ++ insert_phase index (base_of index left new) (outside left new)) ≡ map new_point left ++ new
unfolding base_of
bare_all index left new r =
    let base : Graph = base_of index left new in
    map-append new_point base.points (insert_phase index base (outside left new))
    ∙ ap (λ t. map new_point base.points ++ t) (bare_insert index base (outside left new))
    ∙ bare_base index left new r
