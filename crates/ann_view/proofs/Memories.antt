-- What is in memory are graphs of the index, whatever is applied.
use Rattle.std.proofs.Common.{◌≡◌, ℕ, ◌<◌, true, false, cond, eqb, List, [], ◌∷◌, ◌++◌, refl, length, drop}
use Rattle.std.specs.Prelude.{Option, Some, None}
use Rattle.std.specs.List.{AllByRecursion}
use Rattle.std.proofs.lemmas.List.Elements.{All-from_recursion, recursion_from_All}
use Rattle.ann_types.specs.Graph.{Graph, is_empty, empty_graph, pids_of, IsGraphOf}
use Rattle.ann_types.specs.Put.{put}
use Rattle.ann_types.specs.Fold.{Begun, State, start, frozen, inserted, deleted, opened, begun_at, switched}
use Rattle.ann_types.specs.declared.params.Params.{Params}
use Rattle.ann_types.proofs.Sets.{all_append}
use Rattle.ann_types.proofs.Graphs.{put_graph, empty_is_graph}
use Rattle.ann_view.specs.View.{IsMemory}
use Rattle.ann_types.proofs.Each.{all_drop}

pub memory_start : (params : Params) → IsMemory params (start empty_graph)
memory_start params = record { lti = refl; rw = empty_is_graph params; ros = All-from_recursion (IsGraphOf params) [] tt }

memory_frozen : (params : Params) (s : State) (g : Graph) → IsMemory params s → IsGraphOf params g → IsMemory params (frozen s g)
memory_frozen params s g w k = record {
  lti = w.lti;
  rw = empty_is_graph params;
  ros = All-from_recursion (IsGraphOf params) (s.ros ++ g ∷ []) (all_append (IsGraphOf params) s.ros (g ∷ []) (recursion_from_All (IsGraphOf params) s.ros w.ros) (k, tt));
}

pub memory_inserted : (params : Params) (s : State) (n tag : ℕ) (vector : List ℕ) → AllByRecursion (λ p. p < n) (pids_of s.rw.points) → length vector ≡ params.d → IsMemory params s → IsMemory params (inserted params s n tag vector)
memory_inserted params s n tag vector fresh long w =
    let g : Graph = put params s.rw n tag vector in
    let k : IsGraphOf params g = put_graph params s.rw n tag vector w.rw fresh long in
    elim (eqb (length g.points) params.freeze_at) as (λ t. IsMemory params (cond t (frozen s g) (record s { rw = g }))) [
      | true ↦ memory_frozen params s g w k
      | false ↦ record { lti = w.lti; rw = k; ros = w.ros }
    ]

pub memory_deleted : (params : Params) (s : State) (pids : List ℕ) → IsMemory params s → IsMemory params (deleted s pids)
memory_deleted params s pids w = record { lti = w.lti; rw = w.rw; ros = w.ros }

pub memory_begun : (params : Params) (s : State) (at : ℕ) → IsMemory params s → IsMemory params (begun_at s at)
memory_begun params s at w =
    elim (is_empty s.rw) as (λ t. IsMemory params (opened (cond t s (frozen s s.rw)) at)) [
      | true ↦ record { lti = w.lti; rw = w.rw; ros = w.ros }
      | false ↦ (let k = memory_frozen params s s.rw w w.rw in record { lti = k.lti; rw = k.rw; ros = k.ros })
    ]

pub memory_ended : (params : Params) (s : State) (o : Option Begun) → IsMemory params s → IsMemory params (switched s empty_graph o)
memory_ended params s None w = w
memory_ended params s (Some b) w = record {
  lti = refl;
  rw = w.rw;
  ros = All-from_recursion (IsGraphOf params) (drop b.frozen s.ros) (all_drop (IsGraphOf params) b.frozen s.ros (recursion_from_All (IsGraphOf params) s.ros w.ros));
}
