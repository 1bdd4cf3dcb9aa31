-- The new points of frozen graphs are the rows that aren't deleted, graph by graph.
use Rattle.std.proofs.Common.{◌≡◌, ℕ, ◌+◌, ◌≤◌, ◌<◌, List, [], ◌∷◌, ◌++◌, refl, sym, ap, ap₂, ◌∙◌, not, map, filter, take, length, get_or, arith}
use Rattle.std.specs.Prelude.{All}
use Rattle.std.specs.List.{flat_map}
use Rattle.std.proofs.lemmas.List.{map-append, get_or_default, get_or-map, length-map, take_all, take_more}
use Rattle.std.proofs.lemmas.List.Concat.{flat_map-cons}
use Rattle.std.proofs.lemmas.List.Elements.{All-from_recursion, All-map, recursion_from_All, filter-append}
use Rattle.ann_types.specs.Fold.{new_point}
use Rattle.ann_types.specs.Graph.{Point}
use Rattle.ann_types.specs.Merge.{survivors}
use Rattle.ann_types.specs.Order.{has}
use Rattle.ann_types.specs.declared.new_point.NewPoint.{NewPoint}
use Rattle.ann_types.specs.declared.params.Params.{Params}
use Rattle.ann_types.proofs.Each.{flat_map_push}
use Rattle.ann_types.proofs.Sets.{all_filter}
use Rattle.ann_frozen.specs.Frozen.{FrozenView}
use Rattle.ann_table.specs.Node.{Node, graph_of, nothing, point_of}
use Rattle.ann_table.specs.Table.{AreNodes}
use Rattle.ann_mdelete.proofs.Points.{filter_of, map_twice}
use Rattle.ann_merge.specs.Gathered.{frozen_points, kept_rows, new_of, plain}

pub kept_append : (gone : List ℕ) (xs ys : List Node) → kept_rows gone (xs ++ ys) ≡ kept_rows gone xs ++ kept_rows gone ys
kept_append gone xs ys =
    ap (map plain) (filter-append (λ (x : Node). not (has gone x.pid)) xs ys)
    ∙ map-append plain (filter (λ (x : Node). not (has gone x.pid)) xs) (filter (λ (x : Node). not (has gone x.pid)) ys)

-- one row more
pub kept_next : (gone : List ℕ) (nodes : List Node) (row : ℕ) (d : Node) → row < length nodes → kept_rows gone (take (row + 1) nodes) ≡ kept_rows gone (take row nodes) ++ kept_rows gone (get_or nodes row d ∷ [])
kept_next gone nodes row d below = ap (kept_rows gone) (take_more nodes row d below) ∙ kept_append gone (take row nodes) (get_or nodes row d ∷ [])

-- the new points of one graph
graph_new : (gone : List ℕ) (nodes : List Node) → map new_point (survivors gone (graph_of nodes).points) ≡ kept_rows gone nodes
graph_new gone nodes =
    ap (map new_point) (filter_of (point_of nodes) (λ (x : Point). not (has gone x.pid)) nodes)
    ∙ map_twice (point_of nodes) new_point (filter (λ (x : Node). not (has gone x.pid)) nodes)

pub new_each : (gone : List ℕ) (frozen : List FrozenView) → new_of gone frozen ≡ flat_map (λ (f : FrozenView). kept_rows gone f.nodes) frozen
new_each gone [] = refl
new_each gone (f ∷ frozen) =
    ap (λ (ps : List Point). map new_point (survivors gone ps)) (flat_map-cons (λ (g : FrozenView). (graph_of g.nodes).points) f frozen)
    ∙ ap (map new_point) (filter-append (λ (x : Point). not (has gone x.pid)) (graph_of f.nodes).points (frozen_points frozen))
    ∙ map-append new_point (survivors gone (graph_of f.nodes).points) (survivors gone (frozen_points frozen))
    ∙ ap₂ ◌++◌ (graph_new gone f.nodes) (new_each gone frozen)
    ∙ sym (flat_map-cons (λ (g : FrozenView). kept_rows gone g.nodes) f frozen)

-- one graph more
pub graphs_more : {A B C : Type 0} (v : A → B) (f : B → List C) (xs : List A) (i : ℕ) (x : A) (now after : List C) → i < length xs → x ≡ get_or xs i x → now ≡ flat_map f (map v (take i xs)) → after ≡ now ++ f (v x) → after ≡ flat_map f (map v (take (i + 1) xs))
graphs_more v f xs i x now after below is was more =
    more
    ∙ ap (λ t. t ++ f (v x)) was
    ∙ sym (ap (λ t. flat_map f (map v t)) (take_more xs i x below ∙ ap (λ (y : _). take i xs ++ y ∷ []) (sym is))
    ∙ ap (flat_map f) (map-append v (take i xs) (x ∷ []))
    ∙ flat_map_push f (map v (take i xs)) (v x))

pub graphs_all : {A B C : Type 0} (v : A → B) (f : B → List C) (xs : List A) (i : ℕ) (now : List C) → length xs ≤ i → now ≡ flat_map f (map v (take i xs)) → now ≡ flat_map f (map v xs)
graphs_all v f xs i now past was = was ∙ ap (λ t. flat_map f (map v t)) (take_all i xs past)

-- one of the graphs has the index's parameters
pub graph_of_index : {A : Type 0} (v : A → FrozenView) (params : Params) (xs : List A) (i : ℕ) (x : A) → i < length xs → x ≡ get_or xs i x → All (λ (f : FrozenView). f.params ≡ params) (map v xs) → (v x).params ≡ params
graph_of_index v params xs i x below is all =
    ap (λ (y : _). (v y).params) is
    ∙ ap (λ (f : FrozenView). f.params) (sym (get_or-map v xs i x (v x) below))
    ∙ all i (v x) (let size = length-map xs v in omega arith)

-- each of them has as many components as the index
pub kept_wide : (gone : List ℕ) (params : Params) (nodes : List Node) → AreNodes params nodes → All (λ (x : NewPoint). length x.vector ≡ params.d) (kept_rows gone nodes)
kept_wide gone params nodes are =
    let kept : List Node = filter (λ (x : Node). not (has gone x.pid)) nodes in
    let each : All (λ (x : Node). length x.vector ≡ params.d) nodes =
    λ k d h. ap (λ (x : Node). length x.vector) (get_or_default nodes k d nothing h) ∙ (are.each k h).vector in
    All-map (λ (x : NewPoint). length x.vector ≡ params.d) plain kept
    (All-from_recursion (λ (x : Node). length x.vector ≡ params.d) kept
    (all_filter (λ (x : Node). length x.vector ≡ params.d) (λ (x : Node). not (has gone x.pid)) nodes
    (recursion_from_All (λ (x : Node). length x.vector ≡ params.d) nodes each)))
