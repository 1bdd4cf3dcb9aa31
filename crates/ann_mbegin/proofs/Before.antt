-- The points that an open merge takes were added before its Begin.
use Rattle.std.proofs.Common.{◌≡◌, ℕ, ◌+◌, ◌≤◌, ◌<◌, true, false, cond, List, [], ◌∷◌, ◌++◌, refl, sym, ap, ◌∙◌, subst, arith, take}
use Rattle.std.specs.Prelude.{Some, None}
use Rattle.std.specs.List.{AllByRecursion}
use Rattle.std.proofs.lemmas.Bool.{false≢true, and_parts}
use Rattle.ann_types.specs.Graph.{Graph, pids_of}
use Rattle.ann_types.specs.Index.{Index}
use Rattle.ann_types.specs.Lists.{BasedList, IsBaseOf, bare, length_of, upto, with_entry, with_entries, makes_point, next_pid}
use Rattle.ann_types.specs.Fold.{Begun, State, all_points, merge_of, step, fold_of}
use Rattle.ann_types.specs.Legal.{IsLegal, may_follow, legal_from, is_legal}
use Rattle.ann_types.specs.declared.entry.Entry.{Entry}
use Rattle.ann_types.specs.declared.entry.Entry.TheVariants.{Insert, Delete, Begin, End, Replace}
use Rattle.ann_types.proofs.Alive.{behind, frozen_points, good_of, split_points}
use Rattle.ann_types.proofs.Folds.{entries_none, entries_then, fold_push, legal_push, next_pid_push}
use Rattle.ann_types.proofs.Named.{pids_append, pids_are}
use Rattle.ann_types.proofs.Options.{none_some}
use Rattle.ann_types.proofs.Sets.{all_left, all_right, all_weaker}
use Rattle.ann_laws.specs.Replays.{is_end}
use Rattle.ann_laws.proofs.Commuted.{and_both}
use Rattle.ann_named.proofs.Current.{upto_here}
use Rattle.ann_named.proofs.Entries.{Opened, before, here, end_closes, opened_by}
use Rattle.ann_mbegin.proofs.Kept.{fold_keeps, upto_kept}

-- the Pids of the graphs that a merge takes
abbrev pub taken_pids : State → Begun → List ℕ
taken_pids s b = pids_of (frozen_points (take b.frozen s.ros))

abbrev AreBefore : Index → BasedList → Type 0
AreBefore index h = (b : Begun) → (fold_of index h).begun ≡ Some b → AllByRecursion (λ p. p < next_pid (upto h b.position)) (taken_pids (fold_of index h) b)

-- ---- those of a state are among all of its Pids

pub pids_split : (s : State) (b : Begun) → pids_of (all_points s) ≡ (pids_of s.lti.points ++ taken_pids s b) ++ pids_of (behind s b)
pids_split s b =
    ap pids_of (split_points s b)
    ∙ pids_append (s.lti.points ++ frozen_points (take b.frozen s.ros)) (behind s b)
    ∙ ap (λ t. t ++ pids_of (behind s b)) (pids_append s.lti.points (frozen_points (take b.frozen s.ros)))

taken_below : (index : Index) (h : BasedList) (b : Begun) → IsBaseOf index.params h.base → is_legal index h ≡ true → AllByRecursion (λ p. p < next_pid h) (taken_pids (fold_of index h) b)
taken_below index h b base l =
    let s : State = fold_of index h in
    let all : AllByRecursion (λ p. p < next_pid h) (pids_of (all_points s)) = subst (AllByRecursion (λ p. p < next_pid h)) (pids_are (all_points s)) (good_of index h base l).below in
    all_right (λ p. p < next_pid h) (pids_of s.lti.points) (taken_pids s b)
    (all_left (λ p. p < next_pid h) (pids_of s.lti.points ++ taken_pids s b) (pids_of (behind s b))
    (subst (AllByRecursion (λ p. p < next_pid h)) (pids_split s b) all))

-- ---- one more entry

end_none : (index : Index) (h : BasedList) (s : State) (e : Entry) → is_end e ≡ true → (step index h s e).begun ≡ None
end_none index h s (Insert by tag vector) i = absurd (false≢true i)
end_none index h s (Delete by tag) i = absurd (false≢true i)
end_none index h s (Begin by) i = absurd (false≢true i)
end_none index h s (End by segment) i = end_closes s (merge_of index s s.begun) s.begun refl
end_none index h s (Replace by tag vector) i = absurd (false≢true i)

no_more : (after now bound more : ℕ) → after ≡ now + more → more ≡ 0 → now ≤ bound → after ≤ bound
no_more after now bound more is none least = omega arith

-- a Begin's own list ends before it
bound_here : (h : BasedList) (e : Entry) (b : Begun) → makes_point e ≡ false → b.position ≡ length_of h → next_pid (with_entry h e) ≤ next_pid (upto (with_entry h e) b.position)
bound_here h e b none at =
    let more = next_pid_push h e in
    let nothing : cond (makes_point e) 1 0 ≡ 0 = ap (λ t. cond t 1 0) none in
    let first = upto_here h e in
    subst (λ n. next_pid (with_entry h e) ≤ next_pid (upto (with_entry h e) n)) (sym at)
    (no_more (next_pid (with_entry h e)) (next_pid h) (next_pid (upto (with_entry h e) (length_of h))) (cond (makes_point e) 1 0) more nothing first)

step_before : (index : Index) (h : BasedList) (e : Entry) → IsBaseOf index.params h.base → is_legal index (with_entry h e) ≡ true → may_follow index.params h (fold_of index h) e ≡ true → AreBefore index h → AreBefore index (with_entry h e)
step_before index h e base l m w b o =
    elim (is_end e) as (λ t. is_end e ≡ t → AllByRecursion (λ p. p < next_pid (upto (with_entry h e) b.position)) (taken_pids (fold_of index (with_entry h e)) b)) [
      | true ↦ λ i. absurd (none_some b (sym (end_none index h (fold_of index h) e i) ∙ stepped))
      | false ↦ λ i. still i (opened_by index h (fold_of index h) e b i stepped)
    ] refl
  where
    stepped : (step index h (fold_of index h) e).begun ≡ Some b
    stepped = sym (ap (λ (s : State). s.begun) (fold_push index h e)) ∙ o

    still : is_end e ≡ false → Opened h (fold_of index h) e b → AllByRecursion (λ p. p < next_pid (upto (with_entry h e) b.position)) (taken_pids (fold_of index (with_entry h e)) b)
    still i (before first) =
        subst (λ (g : BasedList). AllByRecursion (λ p. p < next_pid g) (taken_pids (fold_of index (with_entry h e)) b)) (sym (upto_kept index h e b first))
        (subst (λ (gs : List Graph). AllByRecursion (λ p. p < next_pid (upto h b.position)) (pids_of (frozen_points gs))) (sym (fold_keeps index h e b m i first).taken) (w b first))
    still i (here none at) =
        let bound = bound_here h e b none at in
        all_weaker (λ p. p < next_pid (with_entry h e)) (λ p. p < next_pid (upto (with_entry h e) b.position)) (taken_pids (fold_of index (with_entry h e)) b) (λ p less. omega arith)
        (taken_below index (with_entry h e) b base l)

fold_before : (index : Index) (h : BasedList) (es : List Entry) → IsBaseOf index.params h.base → is_legal index h ≡ true → legal_from index h (fold_of index h) es ≡ true → AreBefore index h → AreBefore index (with_entries h es)
fold_before index h [] base l m w = subst (AreBefore index) (sym (entries_none h)) w
fold_before index h (e ∷ es) base l m w =
    let both = and_parts (may_follow index.params h (fold_of index h) e) (legal_from index (with_entry h e) (step index h (fold_of index h) e) es) m in
    let legal : is_legal index (with_entry h e) ≡ true = legal_push index h e ∙ and_both (is_legal index h) (may_follow index.params h (fold_of index h) e) l both.0 in
    subst (AreBefore index) (entries_then h (e ∷ []) es)
    (fold_before index (with_entry h e) es base legal
    (subst (λ (s : State). legal_from index (with_entry h e) s es ≡ true) (sym (fold_push index h e)) both.1)
    (step_before index h e base legal both.0 w))

pub taken_before : (index : Index) (h : BasedList) → IsLegal index h → (b : Begun) → (fold_of index h).begun ≡ Some b → AllByRecursion (λ p. p < next_pid (upto h b.position)) (taken_pids (fold_of index h) b)
taken_before index h l = fold_before index (bare h.base) h.entries l.base refl l.entries (λ b none. absurd (none_some b none))
