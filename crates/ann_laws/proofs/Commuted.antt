-- The entries between a Begin and its End, taken on the state behind the End: an End commutes with each of them.
use Rattle.std.proofs.Common.{◌≡◌, ℕ, ◌+◌, ◌≤◌, Bool, true, false, cond, eqb, not, List, [], ◌∷◌, ◌++◌, ◌||◌, ◌&&◌, refl, sym, ap, ◌∙◌, subst, map, filter, take, drop, length}
use Rattle.std.specs.Prelude.{Option, Some, None, nat_lt}
use Rattle.std.specs.List.{AllByRecursion, list_all}
use Rattle.std.proofs.lemmas.Bool.{false≢true, and_parts, not-true}
use Rattle.std.proofs.lemmas.List.{take-append-le, drop-append-le}
use Rattle.ann_types.specs.Order.{has, ascending}
use Rattle.ann_types.specs.Graph.{Graph}
use Rattle.ann_types.specs.Put.{put}
use Rattle.ann_types.specs.Index.{Index}
use Rattle.ann_types.specs.Merge.{without, survivors, merged}
use Rattle.ann_types.specs.Lists.{BasedList, with_entry, makes_point, next_pid, Names, is_live, pids_at, live_after, live_of}
use Rattle.ann_types.specs.Fold.{Begun, State, frozen, grown, inserted, deleted, new_point, new_points, merge_of, switched, step, fold_from}
use Rattle.ann_types.specs.Legal.{pid_end, fits, may_follow, legal_from}
use Rattle.ann_types.specs.declared.params.Params.{Params}
use Rattle.ann_types.specs.declared.entry.Entry.{Entry}
use Rattle.ann_types.specs.declared.entry.Entry.TheVariants.{Insert, Delete, Begin, End, Replace}
use Rattle.ann_types.proofs.Ordered.{has_append, in_order_same}
use Rattle.ann_types.proofs.Sets.{has_ascending, rises_ascending, ascending_rises, rises_filter, not_among, all_filter, all_map}
use Rattle.ann_types.proofs.Graphs.{has_all}
use Rattle.ann_types.proofs.Folds.{next_pid_push, live_push}
use Rattle.ann_types.proofs.Alive.{Good, Holds, OpenHolds, good_after}
use Rattle.ann_laws.specs.Replays.{is_mark}
use Rattle.ann_types.proofs.Alive.{frozen_points}
use Rattle.ann_laws.proofs.Outlined.{live_undeleted}
use Rattle.ann_types.proofs.Alive.{has_filter_is}

-- ---- lists that agree in next Pid and live tags, and in length

pub record Agree (h g : BasedList) : Type 0 where
  pub next : next_pid g ≡ next_pid h
  pub live : live_of g ≡ live_of h

pub agree_push : (h g : BasedList) (e : Entry) → Agree h g → Agree (with_entry h e) (with_entry g e)
agree_push h g e a = record {
  next = next_pid_push g e ∙ ap (λ n. n + cond (makes_point e) 1 0) a.next ∙ sym (next_pid_push h e);
  live = live_push g e ∙ ap (λ t. live_after t (next_pid g) e) a.live ∙ ap (λ n. live_after (live_of h) n e) a.next ∙ sym (live_push h e);
}

-- an entry that is no mark asks for no more than that
pub step_agrees : (index : Index) (h g : BasedList) (s : State) (e : Entry) → is_mark e ≡ false → Agree h g → step index g s e ≡ step index h s e
step_agrees index h g s (Insert by tag vector) m a = ap (λ n. inserted index.params s n tag vector) a.next
step_agrees index h g s (Delete by tag) m a = ap (λ (t : Names). deleted s (pids_at t tag)) a.live
step_agrees index h g s (Begin by) m a = absurd (false≢true (sym m))
step_agrees index h g s (End by segment) m a = absurd (false≢true (sym m))
step_agrees index h g s (Replace by tag vector) m a =
    ap (λ (t : Names). inserted index.params (deleted s (pids_at t tag)) (next_pid g) tag vector) a.live
    ∙ ap (λ n. inserted index.params (deleted s (pids_at (live_of h) tag)) n tag vector) a.next

pub follow_agrees : (params : Params) (h g : BasedList) (s t : State) (e : Entry) → is_mark e ≡ false → Agree h g → may_follow params g t e ≡ may_follow params h s e
follow_agrees params h g s t (Insert by tag vector) m a =
    ap (λ n. (eqb (length vector) params.d && nat_lt n pid_end) && not (is_live (live_of g) tag)) a.next
    ∙ ap (λ (x : Names). fits params h vector && not (is_live x tag)) a.live
follow_agrees params h g s t (Delete by tag) m a = ap (λ (x : Names). is_live x tag) a.live
follow_agrees params h g s t (Begin by) m a = absurd (false≢true (sym m))
follow_agrees params h g s t (End by segment) m a = absurd (false≢true (sym m))
follow_agrees params h g s t (Replace by tag vector) m a =
    ap (λ n. (eqb (length vector) params.d && nat_lt n pid_end) && is_live (live_of g) tag) a.next
    ∙ ap (λ (x : Names). fits params h vector && is_live x tag) a.live

-- ---- what an End leaves, before and after an entry

abbrev pub state : Graph → List Graph → Graph → List ℕ → Option Begun → State
state rw ros lti dead begun = record { rw = rw; ros = ros; lti = lti; dead = dead; begun = begun }

-- the state after an End that puts a graph in the place of the long-term one
abbrev pub closed : Graph → Begun → State → State
closed graph b s = switched s graph (Some b)

closed_frozen : (graph : Graph) (b : Begun) (s : State) (g : Graph) → b.frozen ≤ length s.ros → closed graph b (frozen s g) ≡ frozen (closed graph b s) g
closed_frozen graph b s g l = ap (λ (t : List Graph). state (frozen s g).rw t graph (without b.gone s.dead) None) (drop-append-le b.frozen s.ros (g ∷ []) l)

closed_grown : (params : Params) (graph : Graph) (b : Begun) (s : State) (g : Graph) → b.frozen ≤ length s.ros → closed graph b (grown params s g) ≡ grown params (closed graph b s) g
closed_grown params graph b s g l =
    elim (eqb (length g.points) params.freeze_at) as (λ t. closed graph b (cond t (frozen s g) (record s { rw = g })) ≡ cond t (frozen (closed graph b s) g) (record (closed graph b s) { rw = g })) [
      | true ↦ closed_frozen graph b s g l
      | false ↦ refl
    ]

closed_inserted : (params : Params) (graph : Graph) (b : Begun) (s : State) (n tag : ℕ) (vector : List ℕ) → b.frozen ≤ length s.ros → closed graph b (inserted params s n tag vector) ≡ inserted params (closed graph b s) n tag vector
closed_inserted params graph b s n tag vector l = closed_grown params graph b s (put params s.rw n tag vector) l

apart_then : (d p g : Bool) → (p ≡ true → g ≡ false) → ((d || p) && not g) ≡ ((d && not g) || p)
apart_then d true g f = apart d g (f refl)
  where
    apart : (d g : Bool) → g ≡ false → ((d || true) && not g) ≡ ((d && not g) || true)
    apart true false e = refl
    apart false false e = refl
    apart d true e = absurd (false≢true (sym e))
apart_then true false true f = refl
apart_then true false false f = refl
apart_then false false g f = refl

-- Pids that the merge didn't take may be added before or after
without_added : (gone dead ps : List ℕ) → ((p : ℕ) → has ps p ≡ true → has gone p ≡ false) → without gone (ascending (dead ++ ps)) ≡ ascending (without gone dead ++ ps)
without_added gone dead ps f =
    let q : ℕ → Bool = λ p. not (has gone p) in
    sym (ascending_rises (without gone (ascending (dead ++ ps))) (rises_filter q (ascending (dead ++ ps)) (rises_ascending (dead ++ ps))))
    ∙ in_order_same (λ _. 0) (without gone (ascending (dead ++ ps))) (without gone dead ++ ps) (λ z.
    has_filter_is q (ascending (dead ++ ps)) z
    ∙ ap (λ t. t && not (has gone z)) (has_ascending z (dead ++ ps) ∙ has_append dead ps z)
    ∙ apart_then (has dead z) (has ps z) (has gone z) (f z)
    ∙ ap (λ t. t || has ps z) (sym (has_filter_is q dead z))
    ∙ sym (has_append (without gone dead) ps z))

closed_deleted : (graph : Graph) (b : Begun) (s : State) (ps : List ℕ) → ((p : ℕ) → has ps p ≡ true → has b.gone p ≡ false) → closed graph b (deleted s ps) ≡ deleted (closed graph b s) ps
closed_deleted graph b s ps f = ap (λ (t : List ℕ). state s.rw (drop b.frozen s.ros) graph t None) (without_added b.gone s.dead ps f)

-- the Pids of a live tag aren't among those that the merge took
live_apart : (next : ℕ) (live : Names) (s : State) (b : Begun) (tag : ℕ) → Good next live s → Holds next s b → (p : ℕ) → has (pids_at live tag) p ≡ true → has b.gone p ≡ false
live_apart next live s b tag w k p h =
    let each : AllByRecursion (λ x. has s.dead x ≡ false) (pids_at live tag) =
    all_map (λ x. has s.dead x ≡ false) (λ (e : ℕ × ℕ). e.1) (filter (λ e. eqb e.0 tag) live) (all_filter (λ (e : ℕ × ℕ). has s.dead e.1 ≡ false) (λ e. eqb e.0 tag) live (live_undeleted next live s w)) in
    let stays : has s.dead p ≡ false = has_all (λ x. has s.dead x ≡ false) (pids_at live tag) p each h in
    not_among b.gone p (λ g. false≢true (sym stays ∙ k.gone p g))

-- An End may come before an entry that is no mark, or after it.
pub closed_step : (index : Index) (h : BasedList) (s : State) (e : Entry) (graph : Graph) (b : Begun) → is_mark e ≡ false → Good (next_pid h) (live_of h) s → Holds (next_pid h) s b → closed graph b (step index h s e) ≡ step index h (closed graph b s) e
closed_step index h s (Insert by tag vector) graph b m w k = closed_inserted index.params graph b s (next_pid h) tag vector k.frozen
closed_step index h s (Delete by tag) graph b m w k = closed_deleted graph b s (pids_at (live_of h) tag) (live_apart (next_pid h) (live_of h) s b tag w k)
closed_step index h s (Begin by) graph b m w k = absurd (false≢true (sym m))
closed_step index h s (End by segment) graph b m w k = absurd (false≢true (sym m))
closed_step index h s (Replace by tag vector) graph b m w k =
    closed_inserted index.params graph b (deleted s (pids_at (live_of h) tag)) (next_pid h) tag vector k.frozen
    ∙ ap (λ (t : State). inserted index.params t (next_pid h) tag vector) (closed_deleted graph b s (pids_at (live_of h) tag) (live_apart (next_pid h) (live_of h) s b tag w k))

-- ---- what such entries leave as it is

pub record Keeps (b : Begun) (s t : State) : Type 0 where
  pub begun : t.begun ≡ s.begun
  pub lti : t.lti ≡ s.lti
  pub taken : take b.frozen t.ros ≡ take b.frozen s.ros

pub merge_kept : (index : Index) (b : Begun) (s t : State) → Keeps b s t → merge_of index t (Some b) ≡ merge_of index s (Some b)
merge_kept index b s t k =
    ap (λ (x : Graph). merged index x (new_points t b) b.gone) k.lti
    ∙ ap (λ (gs : List Graph). merged index s.lti (map new_point (survivors b.gone (frozen_points gs))) b.gone) k.taken

grown_keeps : (params : Params) (b : Begun) (s : State) (g : Graph) → b.frozen ≤ length s.ros → Keeps b s (grown params s g)
grown_keeps params b s g l =
    elim (eqb (length g.points) params.freeze_at) as (λ t. Keeps b s (cond t (frozen s g) (record s { rw = g }))) [
      | true ↦ record { begun = refl; lti = refl; taken = take-append-le b.frozen s.ros (g ∷ []) l }
      | false ↦ record { begun = refl; lti = refl; taken = refl }
    ]

pub step_keeps : (index : Index) (h : BasedList) (s : State) (e : Entry) (b : Begun) → is_mark e ≡ false → b.frozen ≤ length s.ros → Keeps b s (step index h s e)
step_keeps index h s (Insert by tag vector) b m l = grown_keeps index.params b s (put index.params s.rw (next_pid h) tag vector) l
step_keeps index h s (Delete by tag) b m l = record { begun = refl; lti = refl; taken = refl }
step_keeps index h s (Begin by) b m l = absurd (false≢true (sym m))
step_keeps index h s (End by segment) b m l = absurd (false≢true (sym m))
step_keeps index h s (Replace by tag vector) b m l =
    let k : Keeps b (deleted s (pids_at (live_of h) tag)) (step index h s (Replace by tag vector)) =
    grown_keeps index.params b (deleted s (pids_at (live_of h) tag)) (put index.params s.rw (next_pid h) tag vector) l in
    record { begun = k.begun; lti = k.lti; taken = k.taken }

-- ---- entries inside a merge

-- the same entries on the state behind the End, on a list that agrees
pub record Inner (index : Index) (h g : BasedList) (s : State) (graph : Graph) (b : Begun) (es : List Entry) : Type 0 where
  pub state : fold_from index g (closed graph b s) es ≡ closed graph b (fold_from index h s es)
  pub legal : legal_from index g (closed graph b s) es ≡ true
  pub keeps : Keeps b s (fold_from index h s es)

holds_of : (next : ℕ) (live : Names) (s : State) (b : Begun) → Good next live s → s.begun ≡ Some b → Holds next s b
holds_of next live s b w e = subst (OpenHolds next s) e w.merge

pub and_both : (a b : Bool) → a ≡ true → b ≡ true → (a && b) ≡ true
and_both a b e f = ap (λ t. t && b) e ∙ f

pub fold_inner : (index : Index) (h g : BasedList) (s : State) (graph : Graph) (b : Begun) (es : List Entry) → list_all (λ e. not (is_mark e)) es ≡ true → legal_from index h s es ≡ true → Good (next_pid h) (live_of h) s → s.begun ≡ Some b → Agree h g → Inner index h g s graph b es
fold_inner index h g s graph b [] n l w o a = record { state = refl; legal = refl; keeps = record { begun = refl; lti = refl; taken = refl } }
fold_inner index h g s graph b (e ∷ es) n l w o a =
    let marks = and_parts (not (is_mark e)) (list_all (λ x. not (is_mark x)) es) n in
    let m : is_mark e ≡ false = not-true (is_mark e) marks.0 in
    let both = and_parts (may_follow index.params h s e) (legal_from index (with_entry h e) (step index h s e) es) l in
    let k : Holds (next_pid h) s b = holds_of (next_pid h) (live_of h) s b w o in
    let first : Keeps b s (step index h s e) = step_keeps index h s e b m k.frozen in
    let rest : Inner index (with_entry h e) (with_entry g e) (step index h s e) graph b es =
    fold_inner index (with_entry h e) (with_entry g e) (step index h s e) graph b es marks.1 both.1 (good_after index h s e both.0 w) (first.begun ∙ o) (agree_push h g e a) in
    let same : step index g (closed graph b s) e ≡ closed graph b (step index h s e) = step_agrees index h g (closed graph b s) e m a ∙ sym (closed_step index h s e graph b m w k) in
    record {
      state = ap (λ (t : State). fold_from index (with_entry g e) t es) same ∙ rest.state;
      legal =
          and_both (may_follow index.params g (closed graph b s) e) (legal_from index (with_entry g e) (step index g (closed graph b s) e) es)
          (follow_agrees index.params h g s (closed graph b s) e m a ∙ both.0)
          (ap (λ (t : State). legal_from index (with_entry g e) t es) same ∙ rest.legal);
      keeps = record { begun = rest.keeps.begun ∙ first.begun; lti = rest.keeps.lti ∙ first.lti; taken = rest.keeps.taken ∙ first.taken };
    }
