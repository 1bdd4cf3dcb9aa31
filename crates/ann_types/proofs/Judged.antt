-- The laws of judgements: a change is accepted exactly where its entry may follow, so an accepted update leaves a
-- legal list; and what is judged of an update is the same for every client.
use Rattle.std.proofs.Common.{◌≡◌, ℕ, ◌+◌, ◌≤◌, Bool, true, false, cond, eqb, ltb, not, List, [], ◌∷◌, ◌&&◌, refl, sym, ap, ◌∙◌, arith, map, length, is_none, eqb-true, lt-ltb, le-ltb}
use Rattle.std.specs.Prelude.{Option, Some, None}
use Rattle.std.proofs.lemmas.Bool.{and_from, eqb-false}
use Rattle.ann_types.specs.Index.{Index}
use Rattle.ann_types.specs.Lists.{BasedList, with_entry, with_entries, makes_point, next_pid, Names, is_live, live_after, live_of}
use Rattle.ann_types.specs.Fold.{State, step, fold_of}
use Rattle.ann_types.specs.Legal.{pid_end, fits, may_follow, legal_from, is_legal}
use Rattle.ann_types.specs.Judge.{Refusal, Dimension, Full, Present, Absent, entry_of, judge_vector, judge_live, judge_new, judge, judge_from, judge_all}
use Rattle.ann_types.specs.declared.params.Params.{Params}
use Rattle.ann_types.specs.declared.change.Change.{Change}
use Rattle.ann_types.specs.declared.change.Change.TheVariants.{Insert, Delete, Replace}
use Rattle.ann_types.proofs.Folds.{next_pid_push, live_push, legal_entries}
use Rattle.ann_types.proofs.Tagged.{next_pid_after, next_pid_ends}
use Rattle.ann_types.proofs.Options.{some_none}

below_is_not_at : (n m : ℕ) → n ≤ m → ltb n m ≡ not (eqb n m)
below_is_not_at n m l =
    elim (eqb n m) as (λ t. eqb n m ≡ t → ltb n m ≡ not t) [
      | true ↦ λ e. (let same = eqb-true n m e in le-ltb n m (omega arith))
      | false ↦ λ e. lt-ltb n m (let differ = eqb-false n m e in omega arith)
    ] refl

vector_judged : (params : Params) (h : BasedList) (vector : List ℕ) (of_tag : Option Refusal) (t : Bool) → next_pid h ≤ pid_end → t ≡ is_none of_tag → (fits params h vector && t) ≡ is_none (judge_vector params h vector of_tag)
vector_judged params h vector of_tag t l e =
    ap (λ x. (eqb (length vector) params.d && x) && t) (below_is_not_at (next_pid h) pid_end l)
    ∙ elim (eqb (length vector) params.d) as (λ x. ((x && not (eqb (next_pid h) pid_end)) && t) ≡ is_none (cond (not x) (Some (Dimension (length vector) params.d)) (cond (eqb (next_pid h) pid_end) (Some Full) of_tag))) [
      | true ↦ elim (eqb (next_pid h) pid_end) as (λ x. (not x && t) ≡ is_none (cond x (Some Full) of_tag)) [ true ↦ refl | false ↦ e ]
      | false ↦ refl
    ]

live_judged : (h : BasedList) (tag : ℕ) → is_live (live_of h) tag ≡ is_none (judge_live h tag)
live_judged h tag = elim (is_live (live_of h) tag) as (λ t. t ≡ is_none (cond t None (Some (Absent tag)))) [ true ↦ refl | false ↦ refl ]

new_judged : (h : BasedList) (tag : ℕ) → not (is_live (live_of h) tag) ≡ is_none (cond (is_live (live_of h) tag) (Some (Present tag)) None)
new_judged h tag = elim (is_live (live_of h) tag) as (λ t. not t ≡ is_none (cond t (Some (Present tag)) None)) [ true ↦ refl | false ↦ refl ]

-- A change is accepted exactly where its entry may follow.
pub judged : (params : Params) (h : BasedList) (s : State) (by : ℕ) (c : Change) → next_pid h ≤ pid_end → may_follow params h s (entry_of by c) ≡ is_none (judge params h c)
judged params h s by (Insert tag vector) l = vector_judged params h vector (judge_new h tag) (not (is_live (live_of h) tag)) l (new_judged h tag)
judged params h s by (Delete tag) l = live_judged h tag
judged params h s by (Replace tag vector) l = vector_judged params h vector (judge_live h tag) (is_live (live_of h) tag) l (live_judged h tag)

-- an update that is accepted from an index on is accepted at its first change and from the next on
accepted_first : (params : Params) (h : BasedList) (by i : ℕ) (c : Change) (cs : List Change) → judge_from params h by i (c ∷ cs) ≡ None → (judge params h c ≡ None) × (judge_from params (with_entry h (entry_of by c)) by (i + 1) cs ≡ None)
accepted_first params h by i c cs a =
    elim (judge params h c) as (λ o. (elim o as (λ _. Option (ℕ × Refusal)) [ Some r ↦ Some (i, r) | None ↦ judge_from params (with_entry h (entry_of by c)) by (i + 1) cs ]) ≡ None → (o ≡ None) × (judge_from params (with_entry h (entry_of by c)) by (i + 1) cs ≡ None)) [
      | Some r ↦ λ e. absurd (some_none (i, r) e)
      | None ↦ λ e. (refl, e)
    ] a

accepted_from : (index : Index) (h : BasedList) (s : State) (by i : ℕ) (cs : List Change) → next_pid h ≤ pid_end → judge_from index.params h by i cs ≡ None → legal_from index h s (map (entry_of by) cs) ≡ true
accepted_from index h s by i [] l a = refl
accepted_from index h s by i (c ∷ cs) l a =
    let both = accepted_first index.params h by i c cs a in
    let follows : may_follow index.params h s (entry_of by c) ≡ true = judged index.params h s by c l ∙ ap is_none both.0 in
    and_from (may_follow index.params h s (entry_of by c)) (legal_from index (with_entry h (entry_of by c)) (step index h s (entry_of by c)) (map (entry_of by) cs)) follows
    (accepted_from index (with_entry h (entry_of by c)) (step index h s (entry_of by c)) by (i + 1) cs (next_pid_after index.params h s (entry_of by c) l follows) both.1)

-- A legal list with the entries of an update that `judge_all` accepts is legal.
pub accepted_is_legal : (index : Index) (h : BasedList) (by : ℕ) (changes : List Change) → h.base.next ≤ pid_end → is_legal index h ≡ true → judge_all index.params h by changes ≡ None → is_legal index (with_entries h (map (entry_of by) changes)) ≡ true
accepted_is_legal index h by changes l k a =
    legal_entries index h (map (entry_of by) changes)
    ∙ and_from (is_legal index h) (legal_from index h (fold_of index h) (map (entry_of by) changes)) k (accepted_from index h (fold_of index h) by 0 changes (next_pid_ends index h l k) a)

-- ---- the client

-- what is judged of a change, from the next Pid and the live tags alone
abbrev judge_at : Params → ℕ → Names → Change → Option Refusal
judge_at params next live (Insert tag vector) =
    cond (not (eqb (length vector) params.d)) (Some (Dimension (length vector) params.d)) (cond (eqb next pid_end) (Some Full) (cond (is_live live tag) (Some (Present tag)) None))
judge_at params next live (Delete tag) = cond (is_live live tag) None (Some (Absent tag))
judge_at params next live (Replace tag vector) =
    cond (not (eqb (length vector) params.d)) (Some (Dimension (length vector) params.d)) (cond (eqb next pid_end) (Some Full) (cond (is_live live tag) None (Some (Absent tag))))

judge_is : (params : Params) (h : BasedList) (c : Change) → judge params h c ≡ judge_at params (next_pid h) (live_of h) c
judge_is params h (Insert tag vector) = refl
judge_is params h (Delete tag) = refl
judge_is params h (Replace tag vector) = refl

-- lists after which the same is judged
record AreAlike (h g : BasedList) : Type 0 where
  live : live_of h ≡ live_of g
  next : next_pid h ≡ next_pid g

judge_alike : (params : Params) (h g : BasedList) (c : Change) → AreAlike h g → judge params h c ≡ judge params g c
judge_alike params h g c w =
    judge_is params h c
    ∙ ap (λ n. judge_at params n (live_of h) c) w.next
    ∙ ap (λ live. judge_at params (next_pid g) live c) w.live
    ∙ sym (judge_is params g c)

live_by : (live : Names) (next by other : ℕ) (c : Change) → live_after live next (entry_of by c) ≡ live_after live next (entry_of other c)
live_by live next by other (Insert tag vector) = refl
live_by live next by other (Delete tag) = refl
live_by live next by other (Replace tag vector) = refl

makes_by : (by other : ℕ) (c : Change) → makes_point (entry_of by c) ≡ makes_point (entry_of other c)
makes_by by other (Insert tag vector) = refl
makes_by by other (Delete tag) = refl
makes_by by other (Replace tag vector) = refl

alike_after : (h g : BasedList) (by other : ℕ) (c : Change) → AreAlike h g → AreAlike (with_entry h (entry_of by c)) (with_entry g (entry_of other c))
alike_after h g by other c w = record {
  live =
      live_push h (entry_of by c)
      ∙ ap (λ live. live_after live (next_pid h) (entry_of by c)) w.live
      ∙ ap (λ n. live_after (live_of g) n (entry_of by c)) w.next
      ∙ live_by (live_of g) (next_pid g) by other c
      ∙ sym (live_push g (entry_of other c));
  next =
      next_pid_push h (entry_of by c)
      ∙ ap (λ n. n + cond (makes_point (entry_of by c)) 1 0) w.next
      ∙ ap (λ t. next_pid g + cond t 1 0) (makes_by by other c)
      ∙ sym (next_pid_push g (entry_of other c));
}

judge_from_alike : (params : Params) (h g : BasedList) (by other i : ℕ) (cs : List Change) → AreAlike h g → judge_from params h by i cs ≡ judge_from params g other i cs
judge_from_alike params h g by other i [] w = refl
judge_from_alike params h g by other i (c ∷ cs) w =
    ap (λ (o : Option Refusal). elim o as (λ _. Option (ℕ × Refusal)) [ Some r ↦ Some (i, r) | None ↦ judge_from params (with_entry h (entry_of by c)) by (i + 1) cs ]) (judge_alike params h g c w)
    ∙ ap (λ (rest : Option (ℕ × Refusal)). elim (judge params g c) as (λ _. Option (ℕ × Refusal)) [ Some r ↦ Some (i, r) | None ↦ rest ]) (judge_from_alike params (with_entry h (entry_of by c)) (with_entry g (entry_of other c)) by other (i + 1) cs (alike_after h g by other c w))

-- What is judged of an update doesn't depend on its client.
pub judge_all_by : (params : Params) (h : BasedList) (by other : ℕ) (changes : List Change) → judge_all params h by changes ≡ judge_all params h other changes
judge_all_by params h by other changes = judge_from_alike params h h by other 0 changes (record { live = refl; next = refl })
