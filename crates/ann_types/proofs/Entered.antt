-- A graph in memory is entered at its first point: it grows by `put` from the empty graph, and `put` leaves the
-- entry and the first point as they are.
use Rattle.std.proofs.Common.{◌≡◌, ℕ, true, false, cond, eqb, List, [], ◌∷◌, ◌++◌, refl, sym, ap, ◌∙◌, subst, take, drop, length, unwrap_or}
use Rattle.std.specs.Prelude.{Option, Some, None}
use Rattle.std.specs.List.{AllByRecursion, slice_get}
use Rattle.std.proofs.lemmas.List.{take-append-drop}
use Rattle.ann_types.specs.Graph.{Graph, is_empty, pids_of}
use Rattle.ann_types.specs.Put.{put}
use Rattle.ann_types.specs.Index.{Index}
use Rattle.ann_types.specs.Lists.{BasedList, bare, length_of, with_entry, next_pid, pids_at, live_of}
use Rattle.ann_types.specs.Fold.{Begun, State, start, frozen, grown, inserted, deleted, opened, begun_at, merge_of, switched, step, fold_from, fold_of}
use Rattle.ann_types.specs.declared.params.Params.{Params}
use Rattle.ann_types.specs.declared.entry.Entry.{Entry}
use Rattle.ann_types.specs.declared.entry.Entry.TheVariants.{Insert, Delete, Begin, End, Replace}
use Rattle.ann_types.proofs.Sets.{all_append, all_right}
use Rattle.ann_types.proofs.Graphs.{pids_put}

-- a graph's entry is its first point, or none where it has none
abbrev pub IsEnteredFirst : Graph → Type 0
IsEnteredFirst g = g.entry ≡ slice_get (pids_of g.points) 0

first_push : (xs : List ℕ) (n : ℕ) → slice_get (xs ++ n ∷ []) 0 ≡ Some (unwrap_or (slice_get xs 0) n)
first_push [] n = refl
first_push (x ∷ xs) n = refl

entry_put : (params : Params) (g : Graph) (n tag : ℕ) (vector : List ℕ) → (put params g n tag vector).entry ≡ Some (unwrap_or g.entry n)
unfolding put
entry_put params g n tag vector = refl

pub put_entered : (params : Params) (g : Graph) (n tag : ℕ) (vector : List ℕ) → IsEnteredFirst g → IsEnteredFirst (put params g n tag vector)
put_entered params g n tag vector w =
    entry_put params g n tag vector
    ∙ ap (λ (e : Option ℕ). Some (unwrap_or e n)) w
    ∙ sym (first_push (pids_of g.points) n)
    ∙ sym (ap (λ ps. slice_get ps 0) (pids_put params g n tag vector))

-- the graph that takes new points and each frozen one
pub record AreEnteredFirst (s : State) : Type 0 where
  pub rw : IsEnteredFirst s.rw
  pub ros : AllByRecursion IsEnteredFirst s.ros

frozen_entered : (s : State) (g : Graph) → AreEnteredFirst s → IsEnteredFirst g → AreEnteredFirst (frozen s g)
frozen_entered s g w k = record { rw = refl; ros = all_append IsEnteredFirst s.ros (g ∷ []) w.ros (k, tt) }

grown_entered : (params : Params) (s : State) (g : Graph) → AreEnteredFirst s → IsEnteredFirst g → AreEnteredFirst (grown params s g)
grown_entered params s g w k =
    elim (eqb (length g.points) params.freeze_at) as (λ t. AreEnteredFirst (cond t (frozen s g) (record s { rw = g }))) [
      | true ↦ frozen_entered s g w k
      | false ↦ record { rw = k; ros = w.ros }
    ]

inserted_entered : (params : Params) (s : State) (n tag : ℕ) (vector : List ℕ) → AreEnteredFirst s → AreEnteredFirst (inserted params s n tag vector)
inserted_entered params s n tag vector w = grown_entered params s (put params s.rw n tag vector) w (put_entered params s.rw n tag vector w.rw)

deleted_entered : (s : State) (ps : List ℕ) → AreEnteredFirst s → AreEnteredFirst (deleted s ps)
deleted_entered s ps w = record { rw = w.rw; ros = w.ros }

opened_entered : (s : State) (at : ℕ) → AreEnteredFirst s → AreEnteredFirst (opened s at)
opened_entered s at w = record { rw = w.rw; ros = w.ros }

begun_entered : (s : State) (at : ℕ) → AreEnteredFirst s → AreEnteredFirst (begun_at s at)
begun_entered s at w =
    elim (is_empty s.rw) as (λ t. AreEnteredFirst (opened (cond t s (frozen s s.rw)) at)) [
      | true ↦ opened_entered s at w
      | false ↦ opened_entered (frozen s s.rw) at (frozen_entered s s.rw w w.rw)
    ]

switched_entered : (s : State) (lti : Graph) (o : Option Begun) → AreEnteredFirst s → AreEnteredFirst (switched s lti o)
switched_entered s lti None w = w
switched_entered s lti (Some b) w = record {
  rw = w.rw;
  ros = all_right IsEnteredFirst (take b.frozen s.ros) (drop b.frozen s.ros) (subst (AllByRecursion IsEnteredFirst) (sym (take-append-drop b.frozen s.ros)) w.ros);
}

step_entered : (index : Index) (h : BasedList) (s : State) (e : Entry) → AreEnteredFirst s → AreEnteredFirst (step index h s e)
step_entered index h s (Insert by tag vector) w = inserted_entered index.params s (next_pid h) tag vector w
step_entered index h s (Delete by tag) w = deleted_entered s (pids_at (live_of h) tag) w
step_entered index h s (Begin by) w = begun_entered s (length_of h) w
step_entered index h s (End by segment) w = switched_entered s (merge_of index s s.begun) s.begun w
step_entered index h s (Replace by tag vector) w =
    inserted_entered index.params (deleted s (pids_at (live_of h) tag)) (next_pid h) tag vector (deleted_entered s (pids_at (live_of h) tag) w)

fold_entered : (index : Index) (h : BasedList) (s : State) (es : List Entry) → AreEnteredFirst s → AreEnteredFirst (fold_from index h s es)
fold_entered index h s [] w = w
fold_entered index h s (e ∷ es) w = fold_entered index (with_entry h e) (step index h s e) es (step_entered index h s e w)

-- Every graph in memory of the state of a list is entered at its first point.
pub memory_entered : (index : Index) (h : BasedList) → AreEnteredFirst (fold_of index h)
memory_entered index h = fold_entered index (bare h.base) (start h.base.graph) h.entries (record { rw = refl; ros = tt })
