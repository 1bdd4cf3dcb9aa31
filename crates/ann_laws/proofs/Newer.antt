-- The law of an open Begin: the points behind those that its merge takes are newer than it.
use Rattle.std.proofs.Common.{◌≡◌, ℕ, ◌-◌, ◌≤◌, ◌<◌, true, false, cond, eqb, List, [], ◌∷◌, ◌++◌, refl, sym, ap, ◌∙◌, subst, arith, drop, length, append_assoc, eqb-true}
use Rattle.std.specs.Prelude.{Option, Some, None}
use Rattle.std.specs.List.{AllByRecursion}
use Rattle.std.proofs.lemmas.List.{take-append-le, drop_all, nil_from_length, length_push}
use Rattle.std.proofs.lemmas.List.Sums.{sum_by-take-le}
use Rattle.ann_types.specs.Graph.{Point, Graph, is_empty, pids_of}
use Rattle.ann_types.specs.Put.{put}
use Rattle.ann_types.specs.Index.{Index}
use Rattle.ann_types.specs.Lists.{BasedList, bare, length_of, upto, with_entry, with_entries, makes_point, next_pid, pids_at, live_of}
use Rattle.ann_types.specs.Fold.{Begun, State, start, frozen, grown, inserted, deleted, opened, merge_of, switched, step, fold_from, fold_of}
use Rattle.ann_types.specs.Legal.{IsLegal}
use Rattle.ann_types.specs.declared.params.Params.{Params}
use Rattle.ann_types.specs.declared.entry.Entry.{Entry}
use Rattle.ann_types.specs.declared.entry.Entry.TheVariants.{Insert, Delete, Begin, End, Replace}
use Rattle.ann_types.proofs.Sets.{all_append, all_of_map}
use Rattle.ann_types.proofs.Named.{pids_append}
use Rattle.ann_types.proofs.Graphs.{pids_put}
use Rattle.ann_types.proofs.Folds.{entries_none, entries_then}
use Rattle.ann_types.proofs.Alive.{behind, behind_frozen, frozen_points}

-- ---- lists

pub upto_push : (h : BasedList) (e : Entry) (n : ℕ) → n - h.base.position ≤ length h.entries → upto (with_entry h e) n ≡ upto h n
upto_push h e n l = ap (λ (t : List Entry). let g : BasedList = record { base = h.base; entries = t } in g) (take-append-le (n - h.base.position) h.entries (e ∷ []) l)

pub next_upto : (h : BasedList) (n : ℕ) → next_pid (upto h n) ≤ next_pid h
next_upto h n = let less = sum_by-take-le (λ x. cond (makes_point x) 1 0) h.entries (n - h.base.position) in omega arith

-- ---- the points behind a merge have Pids from m on

pub record Past (m : ℕ) (s : State) (b : Begun) : Type 0 where
  pub frozen : b.frozen ≤ length s.ros
  pub newer : AllByRecursion (λ p. m ≤ p) (pids_of (behind s b))

behind_put : (params : Params) (s : State) (b : Begun) (n tag : ℕ) (vector : List ℕ) → pids_of (behind (record s { rw = put params s.rw n tag vector }) b) ≡ pids_of (behind s b) ++ n ∷ []
behind_put params s b n tag vector =
    let older : List Point = frozen_points (drop b.frozen s.ros) in
    pids_append older (put params s.rw n tag vector).points
    ∙ ap (λ t. pids_of older ++ t) (pids_put params s.rw n tag vector)
    ∙ sym (append_assoc (pids_of older) (pids_of s.rw.points) (n ∷ []))
    ∙ ap (λ t. t ++ n ∷ []) (sym (pids_append older s.rw.points))

freeze_past : (m : ℕ) (s : State) (g : Graph) (b : Begun) → Past m (record s { rw = g }) b → Past m (frozen s g) b
freeze_past m s g b w = record {
  frozen = (let size = length_push s.ros g in let more = w.frozen in omega arith);
  newer = subst (λ (t : List Point). AllByRecursion (λ p. m ≤ p) (pids_of t)) (sym (behind_frozen s g b w.frozen)) w.newer;
}

put_past : (params : Params) (m : ℕ) (s : State) (b : Begun) (n tag : ℕ) (vector : List ℕ) → m ≤ n → Past m s b → Past m (record s { rw = put params s.rw n tag vector }) b
put_past params m s b n tag vector l w = record {
  frozen = w.frozen;
  newer = subst (AllByRecursion (λ p. m ≤ p)) (sym (behind_put params s b n tag vector)) (all_append (λ p. m ≤ p) (pids_of (behind s b)) (n ∷ []) w.newer (l, tt));
}

delete_past : (m : ℕ) (s : State) (b : Begun) (ps : List ℕ) → Past m s b → Past m (deleted s ps) b
delete_past m s b ps w = record { frozen = w.frozen; newer = w.newer }

-- ---- an open Begin of a list

abbrev pub OpenNewer : BasedList → State → Option Begun → Type 0
OpenNewer h s None = Unit {0}
OpenNewer h s (Some b) = (b.position < length_of h) × Past (next_pid (upto h b.position)) s b

-- it stays where the points behind get no Pid below the next one
stay_open : (h : BasedList) (e : Entry) (s t : State) (o : Option Begun) → ((m : ℕ) (b : Begun) → m ≤ next_pid h → Past m s b → Past m t b) → OpenNewer h s o → OpenNewer (with_entry h e) t o
stay_open h e s t None f w = tt
stay_open h e s t (Some b) f w =
    let size = length_push h.entries e in
    let first = w.0 in
    let same : upto (with_entry h e) b.position ≡ upto h b.position = upto_push h e b.position (omega arith) in
    (omega arith, subst (λ (g : BasedList). Past (next_pid g) t b) (sym same) (f (next_pid (upto h b.position)) b (next_upto h b.position) w.1))

grow_open : (params : Params) (h : BasedList) (s : State) (g : Graph) → OpenNewer h (record s { rw = g }) s.begun → OpenNewer h (grown params s g) (grown params s g).begun
grow_open params h s g w =
    elim (eqb (length g.points) params.freeze_at) as (λ t. OpenNewer h (cond t (frozen s g) (record s { rw = g })) (cond t (frozen s g) (record s { rw = g })).begun) [
      | true ↦ freeze_open s.begun w
      | false ↦ w
    ]
  where
    freeze_open : (o : Option Begun) → OpenNewer h (record s { rw = g }) o → OpenNewer h (frozen s g) o
    freeze_open None w = tt
    freeze_open (Some b) w = (w.0, freeze_past (next_pid (upto h b.position)) s g b w.1)

begin_past : (m at : ℕ) (s : State) → s.rw.points ≡ [] → Past m (opened s at) (record { position = at; frozen = length s.ros; gone = s.dead })
begin_past m at s none = record {
  frozen = omega arith;
  newer = subst (λ (t : List Point). AllByRecursion (λ p. m ≤ p) (pids_of t)) (sym (ap (λ t. frozen_points t ++ s.rw.points) (drop_all (length s.ros) s.ros (omega arith)) ∙ none)) tt;
}

begin_open : (h : BasedList) (e : Entry) (s : State) → s.rw.points ≡ [] → OpenNewer (with_entry h e) (opened s (length_of h)) (opened s (length_of h)).begun
begin_open h e s none = (let size = length_push h.entries e in omega arith, begin_past (next_pid (upto (with_entry h e) (length_of h))) (length_of h) s none)

end_open : (h : BasedList) (s : State) (lti : Graph) (o : Option Begun) → o ≡ s.begun → OpenNewer h s s.begun → OpenNewer h (switched s lti o) (switched s lti o).begun
end_open h s lti None e w = w
end_open h s lti (Some b) e w = tt

insert_newer : (params : Params) (h : BasedList) (e : Entry) (s : State) (tag : ℕ) (vector : List ℕ) → OpenNewer h s s.begun → OpenNewer (with_entry h e) (inserted params s (next_pid h) tag vector) (inserted params s (next_pid h) tag vector).begun
insert_newer params h e s tag vector w =
    grow_open params (with_entry h e) s (put params s.rw (next_pid h) tag vector)
    (stay_open h e s (record s { rw = put params s.rw (next_pid h) tag vector }) s.begun (λ m b l p. put_past params m s b (next_pid h) tag vector l p) w)

-- deleting changes nothing here
delete_open : (h : BasedList) (s : State) (ps : List ℕ) (o : Option Begun) → OpenNewer h s o → OpenNewer h (deleted s ps) o
delete_open h s ps None w = tt
delete_open h s ps (Some b) w = (w.0, delete_past (next_pid (upto h b.position)) s b ps w.1)

step_newer : (index : Index) (h : BasedList) (s : State) (e : Entry) → OpenNewer h s s.begun → OpenNewer (with_entry h e) (step index h s e) (step index h s e).begun
step_newer index h s (Insert by tag vector) w = insert_newer index.params h (Insert by tag vector) s tag vector w
step_newer index h s (Delete by tag) w = stay_open h (Delete by tag) s (deleted s (pids_at (live_of h) tag)) s.begun (λ m b l p. delete_past m s b (pids_at (live_of h) tag) p) w
step_newer index h s (Begin by) w =
    elim (is_empty s.rw) as (λ t. is_empty s.rw ≡ t → OpenNewer (with_entry h (Begin by)) (opened (cond t s (frozen s s.rw)) (length_of h)) (opened (cond t s (frozen s s.rw)) (length_of h)).begun) [
      | true ↦ λ e. begin_open h (Begin by) s (nil_from_length s.rw.points (eqb-true (length s.rw.points) 0 e))
      | false ↦ λ e. begin_open h (Begin by) (frozen s s.rw) refl
    ] refl
step_newer index h s (End by segment) w =
    end_open (with_entry h (End by segment)) s (merge_of index s s.begun) s.begun refl
    (stay_open h (End by segment) s s s.begun (λ m b l p. p) w)
step_newer index h s (Replace by tag vector) w =
    insert_newer index.params h (Replace by tag vector) (deleted s (pids_at (live_of h) tag)) tag vector (delete_open h s (pids_at (live_of h) tag) s.begun w)

fold_newer : (index : Index) (h : BasedList) (s : State) (es : List Entry) → OpenNewer h s s.begun → OpenNewer (with_entries h es) (fold_from index h s es) (fold_from index h s es).begun
fold_newer index h s [] w = subst (λ (g : BasedList). OpenNewer g s s.begun) (sym (entries_none h)) w
fold_newer index h s (e ∷ es) w =
    let after : State = step index h s e in
    subst (λ (g : BasedList). OpenNewer g (fold_from index (with_entry h e) after es) (fold_from index (with_entry h e) after es).begun) (entries_then h (e ∷ []) es) (fold_newer index (with_entry h e) after es (step_newer index h s e w))

pub open_newer : (index : Index) (h : BasedList) → OpenNewer h (fold_of index h) (fold_of index h).begun
open_newer index h = fold_newer index (bare h.base) (start h.base.graph) h.entries tt

-- A list's open Begin stands in the list.
pub open_within : (index : Index) (h : BasedList) (b : Begun) → (fold_of index h).begun ≡ Some b → b.position < length_of h
open_within index h b e = (subst (OpenNewer h (fold_of index h)) e (open_newer index h)).0

-- The points behind those that the open merge takes were added after its Begin.
pub behind_newer : (index : Index) (h : BasedList) (b : Begun) → IsLegal index h → (fold_of index h).begun ≡ Some b → AllByRecursion (λ x. next_pid (upto h b.position) ≤ x.pid) (behind (fold_of index h) b)
behind_newer index h b l e =
    all_of_map (λ p. next_pid (upto h b.position) ≤ p) (λ (x : Point). x.pid) (behind (fold_of index h) b) (subst (OpenNewer h (fold_of index h)) e (open_newer index h)).1.newer
