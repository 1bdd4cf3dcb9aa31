-- The Pids of frozen graphs are those of their rows, graph by graph.
use Rattle.std.proofs.Common.{◌≡◌, ℕ, ◌+◌, ◌≤◌, ◌<◌, List, [], ◌∷◌, ◌++◌, refl, sym, ap, ap₂, ◌∙◌, map, take, length, get_or, append_assoc}
use Rattle.std.specs.List.{flat_map}
use Rattle.std.proofs.lemmas.List.{map-append, take_all, take_more}
use Rattle.std.proofs.lemmas.List.Concat.{flat_map-cons}
use Rattle.ann_types.specs.Graph.{Point, pids_of}
use Rattle.ann_types.proofs.Each.{flat_map_push}
use Rattle.ann_table.specs.Node.{graph_of, row_pids}
use Rattle.ann_table.proofs.Graphs.{pids_are}
use Rattle.ann_frozen.specs.Frozen.{FrozenView}
use Rattle.ann_merge.specs.Gathered.{frozen_points}

graph_pids : (frozen : List FrozenView) → flat_map (λ (f : FrozenView). row_pids f.nodes) frozen ≡ pids_of (frozen_points frozen)
graph_pids [] = refl
graph_pids (f ∷ frozen) =
    flat_map-cons (λ (g : FrozenView). row_pids g.nodes) f frozen
    ∙ ap₂ ◌++◌ (sym (pids_are f.nodes)) (graph_pids frozen)
    ∙ sym (ap pids_of (flat_map-cons (λ (g : FrozenView). (graph_of g.nodes).points) f frozen)
    ∙ map-append (λ (x : Point). x.pid) (graph_of f.nodes).points (frozen_points frozen))

module _ {A : Type 0} (v : A → FrozenView) (front : List ℕ) (xs : List A) where
  -- the Pids in front, and those of the first graphs
  abbrev pub so_far : ℕ → List ℕ
  so_far i = front ++ flat_map (λ (f : FrozenView). row_pids f.nodes) (map v (take i xs))

  -- one graph more
  pub one_more : (i : ℕ) (x : A) (now after : List ℕ) → i < length xs → x ≡ get_or xs i x → now ≡ so_far i → after ≡ now ++ row_pids (v x).nodes → after ≡ so_far (i + 1)
  one_more i x now after below is was more =
      let f : FrozenView → List ℕ = λ g. row_pids g.nodes in
      more
      ∙ ap (λ t. t ++ f (v x)) was
      ∙ append_assoc front (flat_map f (map v (take i xs))) (f (v x))
      ∙ ap (λ t. front ++ t)
      (sym (ap (λ t. flat_map f (map v t)) (take_more xs i x below ∙ ap (λ (y : A). take i xs ++ y ∷ []) (sym is))
      ∙ ap (flat_map f) (map-append v (take i xs) (x ∷ []))
      ∙ flat_map_push f (map v (take i xs)) (v x)))

  pub all_graphs : (i : ℕ) (now : List ℕ) → length xs ≤ i → now ≡ so_far i → now ≡ front ++ pids_of (frozen_points (map v xs))
  all_graphs i now past was =
      was
      ∙ ap (λ t. front ++ flat_map (λ (f : FrozenView). row_pids f.nodes) (map v t)) (take_all i xs past)
      ∙ ap (λ t. front ++ t) (graph_pids (map v xs))
