-- The Pids of a merge's base and of the new points outside it ascend.
use Rattle.std.proofs.Common.{◌≡◌, ℕ, ◌<◌, Bool, true, false, cond, not, List, [], ◌∷◌, ◌++◌, refl, sym, ap, subst, ◌∙◌, map, filter, eq-eqb}
use Rattle.std.specs.List.{All, AllByRecursion}
use Rattle.std.proofs.lemmas.List.{map-append}
use Rattle.std.proofs.lemmas.List.Elements.{All-from_recursion}
use Rattle.ann_types.specs.Order.{has}
use Rattle.ann_types.specs.Graph.{Point, Graph, pids_of}
use Rattle.ann_types.specs.Index.{Index}
use Rattle.ann_types.specs.Lists.{names_of}
use Rattle.ann_types.specs.Merge.{delete_phase, base_points, outside, base_of, insert_phase}
use Rattle.ann_types.specs.declared.new_point.NewPoint.{NewPoint}
use Rattle.ann_types.proofs.Graphs.{all_from_has}
use Rattle.ann_types.proofs.Merges.{new_pids, pids_delete}
use Rattle.ann_types.proofs.Named.{new_names, names_base, pids_append, pids_are}
use Rattle.ann_types.proofs.Ordered.{has_here, has_later}
use Rattle.ann_types.proofs.Sets.{Rises, all_append, all_filter, all_left, all_right, rises_across}
use Rattle.ann_minsert.specs.Links.{IsBehind}

-- ---- what survives rises as before

rises_kept : (q : ℕ → Bool) (xs ys : List ℕ) → Rises (xs ++ ys) → Rises (filter q xs ++ ys)
rises_kept q [] ys r = r
rises_kept q (x ∷ xs) ys (a, r) =
    elim (q x) as (λ t. Rises (cond t (x ∷ filter q xs) (filter q xs) ++ ys)) [
      | true ↦ (all_append (λ y. x < y) (filter q xs) ys (all_filter (λ y. x < y) q xs (all_left (λ y. x < y) xs ys a)) (all_right (λ y. x < y) xs ys a), rises_kept q xs ys r)
      | false ↦ rises_kept q xs ys r
    ]

pub left_rise : (index : Index) (points : List Point) (dead ps : List ℕ) → Rises (pids_of points ++ ps) → Rises (pids_of (delete_phase index points dead) ++ ps)
left_rise index points dead ps r = subst (λ (t : List ℕ). Rises (t ++ ps)) (sym (pids_delete index points dead)) (rises_kept (λ p. not (has dead p)) (pids_of points) ps r)

-- ---- the base and the new points outside it have the Pids of the survivors and of all new points

new_pids_are : (new : List NewPoint) → map (λ (e : ℕ × ℕ). e.1) (new_names new) ≡ new_pids new
new_pids_are [] = refl
new_pids_are (x ∷ new) = ap (λ t. x.pid ∷ t) (new_pids_are new)

pids_base : (index : Index) (left : List Point) (new : List NewPoint) → pids_of (base_points index left new) ++ new_pids (outside left new) ≡ pids_of left ++ new_pids new
pids_base index left new =
    let first : ℕ × ℕ → ℕ = λ e. e.1 in
    ap (λ t. t ++ new_pids (outside left new)) (sym (pids_are (base_points index left new)))
    ∙ ap (λ t. map first (names_of (base_points index left new)) ++ t) (sym (new_pids_are (outside left new)))
    ∙ sym (map-append first (names_of (base_points index left new)) (new_names (outside left new)))
    ∙ ap (map first) (names_base index left new)
    ∙ map-append first (names_of left) (new_names new)
    ∙ ap (λ t. t ++ map first (new_names new)) (pids_are left)
    ∙ ap (λ t. pids_of left ++ t) (new_pids_are new)

pids_insert : (index : Index) (g : Graph) (new : List NewPoint) → pids_of (insert_phase index g new) ≡ new_pids new
unfolding insert_phase
pids_insert index g [] = refl
pids_insert index g (x ∷ new) = ap (λ t. x.pid ∷ t) (pids_insert index g new)

base_rises : (index : Index) (left : List Point) (new : List NewPoint) → Rises (pids_of left ++ new_pids new) → Rises (pids_of (base_of index left new).points ++ new_pids (outside left new))
unfolding base_of
base_rises index left new r = subst Rises (sym (pids_base index left new)) r

-- So all points ascend,
pub all_rise : (index : Index) (left : List Point) (new : List NewPoint) → Rises (pids_of left ++ new_pids new) → Rises (pids_of ((base_of index left new).points ++ insert_phase index (base_of index left new) (outside left new)))
all_rise index left new r =
    let base : Graph = base_of index left new in
    subst Rises (sym (pids_append base.points (insert_phase index base (outside left new)) ∙ ap (λ t. pids_of base.points ++ t) (pids_insert index base (outside left new)))) (base_rises index left new r)

behind_each : (ps : List ℕ) (rest : List NewPoint) → ((p q : ℕ) → has ps p ≡ true → has (new_pids rest) q ≡ true → p < q) → AllByRecursion (λ x. All (λ p. p < x.pid) ps) rest
behind_each ps [] below = tt
behind_each ps (x ∷ rest) below = (
  All-from_recursion (λ p. p < x.pid) ps (all_from_has (λ p. p < x.pid) ps (λ p h. below p x.pid h (has_here x.pid x.pid (new_pids rest) (eq-eqb x.pid x.pid refl)))),
  behind_each ps rest (λ p q h k. below p q h (has_later x.pid q (new_pids rest) k)),
)

-- and those outside the base come behind it.
pub all_behind : (index : Index) (left : List Point) (new : List NewPoint) → Rises (pids_of left ++ new_pids new) → All (IsBehind (base_of index left new)) (outside left new)
all_behind index left new r =
    let base : Graph = base_of index left new in
    All-from_recursion (IsBehind base) (outside left new)
    (behind_each (pids_of base.points) (outside left new) (λ p q h k. rises_across (pids_of base.points) (new_pids (outside left new)) p q (base_rises index left new r) h k))
