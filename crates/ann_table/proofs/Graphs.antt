-- The graph that rows make: its walks and distances are those by rows, by the rows' Pids.
use Rattle.std.proofs.Common.{◌≡◌, ℕ, ◌<◌, List, [], ◌∷◌, refl, sym, ap, subst, ◌∙◌, arith, map, length, get_or}
use Rattle.std.proofs.Math.ListN.{get_or-map}
use Rattle.std.proofs.lemmas.List.{length-map}
use Rattle.ann_types.specs.Distance.{distance}
use Rattle.ann_types.specs.Walk.{Ground, near, visited_of}
use Rattle.ann_types.specs.Graph.{Point, pids_of, links_of, far_from, apart_in, ground, visited, near_to}
use Rattle.ann_types.specs.declared.params.Params.{Params}
use Rattle.ann_types.proofs.Sets.{Rises, rises_from_increasing}
use Rattle.ann_types.proofs.Renamed.{Below, Renames, visited_map, near_visited_map}
use Rattle.ann_types.specs.Rows.{pid_at}
use Rattle.ann_types.proofs.Rowed.{links_at, far_at, apart_at, renames_at}
use Rattle.ann_greedy.specs.Rows.{far_row, ground_at, visited_rows, near_rows}
use Rattle.ann_table.specs.Node.{Node, nothing, node_at, rows_of, first_row, apart_rows, row_pids, row_pid, point_of, graph_of}
use Rattle.ann_table.specs.Table.{AreNodes}
use Rattle.std.proofs.lemmas.List.Elements.{recursion_from_All}

-- ---- Pids

pids_map : (f : Node → Point) (nodes : List Node) → ((x : Node) → (f x).pid ≡ x.pid) → pids_of (map f nodes) ≡ row_pids nodes
pids_map f [] same = refl
pids_map f (x ∷ nodes) same = ap (λ p. p ∷ pids_of (map f nodes)) (same x) ∙ ap (λ t. x.pid ∷ t) (pids_map f nodes same)

pub pids_are : (nodes : List Node) → pids_of (graph_of nodes).points ≡ row_pids nodes
pids_are nodes = pids_map (point_of nodes) nodes (λ x. refl)

pub pid_is : (nodes : List Node) (row : ℕ) → pid_at (graph_of nodes).points row ≡ row_pid nodes row
pid_is nodes row = ap (λ t. get_or t row 0) (pids_are nodes) ∙ get_or-map (λ (x : Node). x.pid) nodes row nothing

pub length_points : (nodes : List Node) → length (graph_of nodes).points ≡ length nodes
length_points nodes = length-map nodes (point_of nodes)

pub map_same : (f g : ℕ → ℕ) (xs : List ℕ) → ((x : ℕ) → f x ≡ g x) → map f xs ≡ map g xs
map_same f g [] same = refl
map_same f g (x ∷ xs) same = ap (λ y. y ∷ map f xs) (same x) ∙ ap (λ t. g x ∷ t) (map_same f g xs same)

-- the point of a row
point_is : (nodes : List Node) (row : ℕ) → get_or (graph_of nodes).points row (point_of nodes nothing) ≡ point_of nodes (node_at nodes row)
point_is nodes row = get_or-map (point_of nodes) nodes row nothing

-- ---- walks and distances

module _ (params : Params) (nodes : List Node) (sound : AreNodes params nodes) where
  pub rises_are : Rises (pids_of (graph_of nodes).points)
  rises_are = subst Rises (sym (pids_are nodes)) (rises_from_increasing (row_pids nodes) sound.rising)

  inside_points : (row : ℕ) → row < length (graph_of nodes).points → row < length nodes
  inside_points row l = let size = length_points nodes in omega arith

  as_points : (row : ℕ) → row < length nodes → row < length (graph_of nodes).points
  as_points row l = let size = length_points nodes in omega arith

  -- Distances by Pids are those by rows.
  pub apart_is : (r s : ℕ) → r < length nodes → s < length nodes → apart_in (graph_of nodes).points (row_pid nodes r) (row_pid nodes s) ≡ apart_rows nodes r s
  apart_is r s a b =
      ap (λ p. apart_in (graph_of nodes).points p (row_pid nodes s)) (sym (pid_is nodes r))
      ∙ ap (apart_in (graph_of nodes).points (pid_at (graph_of nodes).points r)) (sym (pid_is nodes s))
      ∙ apart_at (graph_of nodes).points r s (point_of nodes nothing) rises_are (as_points r a) (as_points s b)
      ∙ ap (λ (x : Point). distance x.vector (get_or (graph_of nodes).points s (point_of nodes nothing)).vector) (point_is nodes r)
      ∙ ap (λ (x : Point). distance (node_at nodes r).vector x.vector) (point_is nodes s)

  links_by_pid : (row : ℕ) → row < length (graph_of nodes).points → links_of (graph_of nodes).points (pid_at (graph_of nodes).points row) ≡ map (pid_at (graph_of nodes).points) (node_at nodes row).links
  links_by_pid row l =
      links_at (graph_of nodes).points row (point_of nodes nothing) rises_are l
      ∙ ap (λ (x : Point). x.links) (point_is nodes row)
      ∙ map_same (row_pid nodes) (pid_at (graph_of nodes).points) (node_at nodes row).links (λ other. sym (pid_is nodes other))

  links_below : (row : ℕ) → row < length (graph_of nodes).points → Below (length (graph_of nodes).points) (node_at nodes row).links
  links_below row l =
      subst (λ n. Below n (node_at nodes row).links) (sym (length_points nodes))
      (recursion_from_All (λ other. other < length nodes) (node_at nodes row).links (sound.each row (inside_points row l)).links.inside)

  far_by_pid : (query : List ℕ) (row : ℕ) → row < length (graph_of nodes).points → far_from (graph_of nodes).points query (pid_at (graph_of nodes).points row) ≡ far_row (rows_of params nodes) query row
  far_by_pid query row l =
      far_at (graph_of nodes).points query row (point_of nodes nothing) rises_are l
      ∙ ap (λ (x : Point). distance query x.vector) (point_is nodes row)

  pub renames_are : (query : List ℕ) (entry : ℕ) → entry < length nodes → Renames (pid_at (graph_of nodes).points) (length (graph_of nodes).points) (ground_at (rows_of params nodes) query entry) (ground (graph_of nodes).points query (pid_at (graph_of nodes).points entry))
  renames_are query entry l = renames_at (graph_of nodes).points query entry (λ row. (node_at nodes row).links) (far_row (rows_of params nodes) query) rises_are (as_points entry l) links_by_pid links_below (far_by_pid query)

-- Visited and Near of the graph are those of the rows.
pub visited_is : (params : Params) (nodes : List Node) (query : List ℕ) (width : ℕ) → AreNodes params nodes → visited (graph_of nodes) query width ≡ map (row_pid nodes) (visited_rows (rows_of params nodes) query width (first_row nodes))
visited_is params [] query width sound = refl
visited_is params (x ∷ rest) query width sound =
    let nodes : List Node = x ∷ rest in
    let points : List Point = (graph_of nodes).points in
    visited_map (pid_at points) (length points) (ground_at (rows_of params nodes) query 0) (ground points query (pid_at points 0)) (renames_are params nodes sound query 0 (omega arith)) width (length points)
    ∙ ap (λ n. map (pid_at points) (visited_of (ground_at (rows_of params nodes) query 0) width n)) (length_points nodes)
    ∙ map_same (pid_at points) (row_pid nodes) (visited_of (ground_at (rows_of params nodes) query 0) width (length nodes)) (pid_is nodes)

pub near_is : (params : Params) (nodes : List Node) (query : List ℕ) (width : ℕ) → AreNodes params nodes → near_to (graph_of nodes) query width ≡ map (row_pid nodes) (near_rows (rows_of params nodes) query width (first_row nodes))
near_is params [] query width sound = refl
near_is params (x ∷ rest) query width sound =
    let nodes : List Node = x ∷ rest in
    let points : List Point = (graph_of nodes).points in
    let g : Ground = ground_at (rows_of params nodes) query 0 in
    near_visited_map (pid_at points) (length points) g (ground points query (pid_at points 0)) (renames_are params nodes sound query 0 (omega arith)) width (length points)
    ∙ ap (λ n. map (pid_at points) (near g width (visited_of g width n))) (length_points nodes)
    ∙ map_same (pid_at points) (row_pid nodes) (near g width (visited_of g width (length nodes))) (pid_is nodes)
