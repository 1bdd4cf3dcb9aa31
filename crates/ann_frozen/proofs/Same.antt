-- A frozen graph has the table's rows, so it is sound as they are and gives the same graph.
use Rattle.std.proofs.Common.{◌≡◌, ℕ, zero, suc, ◌+◌, ◌≤◌, ◌<◌, List, [], ◌∷◌, ◌++◌, refl, sym, ap, subst, ◌∙◌, arith, map, take, length}
use Rattle.std.specs.List.{All}
use Rattle.std.specs.List.Sorted.{IsStrictlyIncreasing}
use Rattle.std.proofs.lemmas.List.{length-map, get_or-map, map-append, take_more}
use Rattle.std.proofs.Math.Seq.{take-length}
use Rattle.ann_types.specs.Graph.{Point}
use Rattle.ann_types.specs.Kept.{rule_of}
use Rattle.ann_types.specs.declared.params.Params.{Params}
use Rattle.ann_table.specs.Node.{Node, nothing, node_at, rows_of, first_row, first_pid, apart_rows, row_pids, row_pid, point_of, graph_of}
use Rattle.ann_table.specs.Table.{IsNode, AreNodes}
use Rattle.ann_table.proofs.Graphs.{map_same}
use Rattle.ann_table.proofs.Sound.{few_nodes}
use Rattle.ann_frozen.specs.Frozen.{forgotten, frozen_of, edges_of, AreSameRows}
use Rattle.ann_prune.proofs.Prunes.{settled_none}

pub frozen_count : (nodes : List Node) → length (frozen_of nodes) ≡ length nodes
frozen_count nodes = length-map nodes forgotten

pub frozen_at : (nodes : List Node) (row : ℕ) → node_at (frozen_of nodes) row ≡ forgotten (node_at nodes row)
frozen_at [] row = refl
frozen_at (x ∷ nodes) zero = refl
frozen_at (x ∷ nodes) (suc row) = frozen_at nodes row

pub frozen_pids : (nodes : List Node) → row_pids (frozen_of nodes) ≡ row_pids nodes
frozen_pids [] = refl
frozen_pids (x ∷ nodes) = ap (λ t. x.pid ∷ t) (frozen_pids nodes)

pid_same : (nodes : List Node) (row : ℕ) → row_pid (frozen_of nodes) row ≡ row_pid nodes row
pid_same nodes row = ap (λ (x : Node). x.pid) (frozen_at nodes row)

-- ---- rows

first_same : (nodes : List Node) → first_row (frozen_of nodes) ≡ first_row nodes
first_same [] = refl
first_same (x ∷ nodes) = refl

pub rows_same : (params : Params) (nodes : List Node) → AreSameRows (rows_of params nodes) (rows_of params (frozen_of nodes))
rows_same params nodes = record {
  count = sym (frozen_count nodes);
  width = refl;
  start = sym (first_same nodes);
  vector = λ row. sym (ap (λ (x : Node). x.vector) (frozen_at nodes row));
  links = λ row. sym (ap (λ (x : Node). x.links) (frozen_at nodes row));
}

-- ---- the graph

entry_same : (nodes : List Node) → first_pid (frozen_of nodes) ≡ first_pid nodes
entry_same [] = refl
entry_same (x ∷ nodes) = refl

points_same : (nodes : List Node) (xs : List Node) → map (point_of (frozen_of nodes)) (map forgotten xs) ≡ map (point_of nodes) xs
points_same nodes [] = refl
points_same nodes (x ∷ xs) =
    ap (λ (links : List ℕ). record { pid = x.pid; tag = x.tag; vector = x.vector; links = links } ∷ map (point_of (frozen_of nodes)) (map forgotten xs)) (map_same (row_pid (frozen_of nodes)) (row_pid nodes) x.links (pid_same nodes))
    ∙ ap (λ t. point_of nodes x ∷ t) (points_same nodes xs)

pub graph_same : (nodes : List Node) → graph_of (frozen_of nodes) ≡ graph_of nodes
graph_same nodes =
    ap (λ e. record { entry = e; points = map (point_of (frozen_of nodes)) (frozen_of nodes) }) (entry_same nodes)
    ∙ ap (λ (points : List Point). record { entry = first_pid nodes; points = points }) (points_same nodes nodes)

-- ---- what is true of every table is true of its frozen rows

pub sound_frozen : (params : Params) (nodes : List Node) → AreNodes params nodes → AreNodes params (frozen_of nodes)
sound_frozen params nodes a =
    let count : length (frozen_of nodes) ≡ length nodes = frozen_count nodes in
    record {
      rising = subst IsStrictlyIncreasing (sym (frozen_pids nodes)) a.rising;
      small = λ row d l.
          let inside : row < length nodes = omega arith in
          subst (λ (x : Node). x.pid < 4294967295) (sym (get_or-map forgotten nodes row nothing d inside)) (a.small row nothing inside);
      each = λ row l.
          let inside : row < length nodes = omega arith in
          let sound = a.each row inside in
          subst (λ x. IsNode params (frozen_of nodes) row x) (sym (frozen_at nodes row)) (record {
            vector = sound.vector;
            links = record {
              rising = sound.links.rising;
              inside = subst (λ n. All (λ other. other < n) (node_at nodes row).links) (sym count) sound.links.inside;
              others = sound.links.others;
              few = sound.links.few;
            };
            settled = settled_none (rule_of params) (apart_rows (frozen_of nodes)) row (node_at nodes row).links;
            newer = omega arith;
          });
    }

pub few_rows : (params : Params) (nodes : List Node) → AreNodes params nodes → length nodes ≤ 4294967295
few_rows params nodes a = few_nodes params 4294967295 nodes a a.small

-- ---- row by row

pub frozen_more : (nodes rest : List Node) (row : ℕ) → row < length nodes → rest ≡ frozen_of (take row nodes) → rest ++ forgotten (node_at nodes row) ∷ [] ≡ frozen_of (take (row + 1) nodes)
frozen_more nodes rest row l e =
    ap (λ t. t ++ forgotten (node_at nodes row) ∷ []) e
    ∙ sym (ap frozen_of (take_more nodes row nothing l) ∙ map-append forgotten (take row nodes) (node_at nodes row ∷ []))

edges_append : (xs : List Node) (x : Node) → edges_of (xs ++ x ∷ []) ≡ edges_of xs + length x.links
edges_append [] x = omega arith
edges_append (y ∷ xs) x = let rest = edges_append xs x in omega arith

pub edges_more : (nodes : List Node) (row n : ℕ) → row < length nodes → n ≡ edges_of (take row nodes) → n + length (node_at nodes row).links ≡ edges_of (take (row + 1) nodes)
edges_more nodes row n l e =
    let more : edges_of (take (row + 1) nodes) ≡ edges_of (take row nodes) + length (node_at nodes row).links = ap edges_of (take_more nodes row nothing l) ∙ edges_append (take row nodes) (node_at nodes row) in omega arith

pub take_all : (nodes : List Node) (n : ℕ) → n ≡ length nodes → take n nodes ≡ nodes
take_all nodes n e = ap (λ m. take m nodes) e ∙ take-length nodes
