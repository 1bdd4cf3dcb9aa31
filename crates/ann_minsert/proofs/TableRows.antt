-- A table's rows, and the graph that they make.
use Rattle.std.proofs.Common.{◌≡◌, ℕ, zero, suc, ◌<◌, take, List, [], ◌∷◌, refl, sym, ap, subst, ◌∙◌, map, length, get_or, arith}
use Rattle.std.specs.List.{All, AllByRecursion}
use Rattle.std.specs.List.Sorted.{IsStrictlyIncreasing}
use Rattle.std.proofs.Math.ListN.{get_or-map}
use Rattle.std.proofs.lemmas.List.{length-map}
use Rattle.std.proofs.lemmas.List.Elements.{All-from_recursion, All-from_get_or, All-map}
use Rattle.ann_types.specs.Graph.{Point}
use Rattle.ann_types.specs.Merge.{central}
use Rattle.ann_types.specs.Rows.{pid_at}
use Rattle.ann_types.specs.declared.params.Params.{Params}
use Rattle.ann_types.specs.declared.new_point.NewPoint.{NewPoint}
use Rattle.ann_types.proofs.Sets.{Rises, rises_from_increasing, all_of_map}
use Rattle.ann_table.specs.Node.{Node, nothing, node_at, row_pid, row_pids, point_of, graph_of}
use Rattle.ann_table.specs.Table.{AreNodes}
use Rattle.ann_table.proofs.Graphs.{pids_are, pid_is, map_same}
use Rattle.ann_minsert.specs.Mean.{AreRowsOf}
use Rattle.ann_minsert.specs.Base.{BaseView, AreLinks, AreListsOf, IsBaseOf, StandsFor}
use Rattle.ann_minsert.specs.Made.{vectors_in, links_in}
use Rattle.ann_minsert.proofs.Firsts.{central_wide}

vectors_map : (all nodes : List Node) → map (λ (x : Point). x.vector) (map (point_of all) nodes) ≡ vectors_in nodes
vectors_map all [] = refl
vectors_map all (x ∷ nodes) = ap (λ t. x.vector ∷ t) (vectors_map all nodes)

links_map : (all nodes : List Node) → map (λ (x : Point). x.links) (map (point_of all) nodes) ≡ map (map (pid_at (graph_of all).points)) (links_in nodes)
links_map all [] = refl
links_map all (x ∷ nodes) =
    ap (λ l. l ∷ map (λ (y : Point). y.links) (map (point_of all) nodes)) (map_same (row_pid all) (pid_at (graph_of all).points) x.links (λ r. sym (pid_is all r)))
    ∙ ap (λ t. map (pid_at (graph_of all).points) x.links ∷ t) (links_map all nodes)

pub rows_are : (params : Params) (nodes : List Node) → AreNodes params nodes → AreRowsOf (graph_of nodes).points (vectors_in nodes)
rows_are params nodes sound = record {
  rising = subst IsStrictlyIncreasing (sym (pids_are nodes)) sound.rising;
  same = vectors_map nodes nodes;
}

links_may : (params : Params) (nodes : List Node) → AreNodes params nodes → (row : ℕ) → row < length (links_in nodes) → AreLinks (length (links_in nodes)) row (get_or (links_in nodes) row [])
links_may params nodes sound row l =
    let size = length-map nodes (λ (x : Node). x.links) in
    let neighbours = (sound.each row (omega arith)).links in
    let is : get_or (links_in nodes) row [] ≡ (node_at nodes row).links = get_or-map (λ (x : Node). x.links) nodes row nothing in
    subst (λ t. AreLinks (length (links_in nodes)) row t) (sym is)
    (subst (λ (n : ℕ). AreLinks n row (node_at nodes row).links) (sym size)
    (record { rising = neighbours.rising; inside = neighbours.inside; others = neighbours.others }))

pub lists_may : (params : Params) (nodes : List Node) → AreNodes params nodes → AreListsOf (length (vectors_in nodes)) (links_in nodes)
lists_may params nodes sound = record {
  count = length-map nodes (λ (x : Node). x.links) ∙ sym (length-map nodes (λ (x : Node). x.vector));
  links = links_may params nodes sound;
}

wide : (params : Params) (nodes : List Node) → AreNodes params nodes → All (λ v. length v ≡ params.d) (vectors_in nodes)
wide params nodes sound =
    All-map (λ v. length v ≡ params.d) (λ (x : Node). x.vector) nodes
    (All-from_get_or (λ (x : Node). length x.vector ≡ params.d) nodes nothing (λ row l. (sound.each row l).vector))

-- A base of a table's rows stands for the table's graph, entered at its centre.
pub stands_is : (params : Params) (nodes : List Node) (b : BaseView) → AreNodes params nodes → IsBaseOf (links_in nodes) (vectors_in nodes) b → StandsFor (record { entry = central params.d (graph_of nodes).points; points = (graph_of nodes).points }) b
stands_is params nodes b sound is =
    let rows : AreRowsOf (graph_of nodes).points (vectors_in nodes) = rows_are params nodes sound in
    record {
      rows = record { rising = rows.rising; same = rows.same ∙ sym is.vectors };
      links = links_map nodes nodes ∙ ap (map (map (pid_at (graph_of nodes).points))) (sym is.lists);
      entry = central_wide params.d (vectors_in nodes) b.entry (wide params nodes sound) is.entry (graph_of nodes).points rows;
    }

-- ---- widths and Pids

pub wide_take : (w : ℕ) (nodes : List Node) (n k : ℕ) (d : List ℕ) → ((r : ℕ) → r < length nodes → length (get_or nodes r nothing).vector ≡ w) → k < length (vectors_in (take n nodes)) → length (get_or (vectors_in (take n nodes)) k d) ≡ w
wide_take w nodes zero k d each l = absurd (omega arith)
wide_take w [] (suc n) k d each l = absurd (omega arith)
wide_take w (x ∷ nodes) (suc n) zero d each l = each 0 (omega arith)
wide_take w (x ∷ nodes) (suc n) (suc k) d each l = wide_take w nodes n k d (λ r m. each (suc r) (omega arith)) (omega arith)

later_above : (n : ℕ) (points : List NewPoint) (i : ℕ) (d : NewPoint) → AllByRecursion (λ z. n < z) (map (λ (x : NewPoint). x.pid) points) → i < length points → n < (get_or points i d).pid
later_above n [] i d a l = absurd (omega arith)
later_above n (y ∷ points) zero d (h, a) l = h
later_above n (y ∷ points) (suc i) d (h, a) l = later_above n points i d a (omega arith)

take_below : (points : List NewPoint) (i : ℕ) (d : NewPoint) → Rises (map (λ (x : NewPoint). x.pid) points) → i < length points → AllByRecursion (λ p. p < (get_or points i d).pid) (map (λ (x : NewPoint). x.pid) (take i points))
take_below points zero d r l = tt
take_below [] (suc i) d r l = tt
take_below (y ∷ points) (suc i) d (a, r) l = (later_above y.pid points i d a (omega arith), take_below points i d r (omega arith))

pub above_is : (points : List NewPoint) (i : ℕ) (nodes : List Node) (x : NewPoint) → IsStrictlyIncreasing (map (λ (y : NewPoint). y.pid) points) → row_pids nodes ≡ map (λ (y : NewPoint). y.pid) (take i points) → i < length points → x ≡ get_or points i x → All (λ node. node.pid < x.pid) nodes
above_is points i nodes x rising pids l is =
    All-from_recursion (λ (node : Node). node.pid < x.pid) nodes
    (all_of_map (λ p. p < x.pid) (λ (y : Node). y.pid) nodes
    (subst (AllByRecursion (λ p. p < x.pid)) (sym pids)
    (subst (λ (z : NewPoint). AllByRecursion (λ p. p < z.pid) (map (λ (y : NewPoint). y.pid) (take i points))) (sym is)
    (take_below points i x (rises_from_increasing (map (λ (y : NewPoint). y.pid) points) rising) l))))
