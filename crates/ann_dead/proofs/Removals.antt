-- Going over runs and their Pids, one at a time.
use Rattle.std.proofs.Common.{◌≡◌, ℕ, zero, suc, ◌+◌, ◌<◌, ◌≤◌, Bool, true, false, not, List, [], ◌∷◌, length, take, get_or, refl, sym, ap, ◌∙◌, arith, eqb-true}
use Rattle.std.specs.Prelude.{◌==◌, ◌||◌, ◌&&◌}
use Rattle.std.proofs.Math.Bool.{or-false, or-true}
use Rattle.std.proofs.Math.Seq.{take-suc}
use Rattle.std.proofs.lemmas.List.{take_all}
use Rattle.ann_types.specs.Order.{has}
use Rattle.ann_types.specs.Merge.{without}
use Rattle.ann_types.proofs.Ordered.{has_append}
use Rattle.ann_types.proofs.Alive.{has_filter_is}
use Rattle.ann_dead.specs.Pids.{with_pid, union_of, IsAscending}
use Rattle.ann_dead.proofs.Sets.{has_with, has_union, ascending_filter, same_set}
use Rattle.ann_dead.proofs.Runs.{take_last, has_union_of_append}

-- one run more
pub has_runs_more : (rs : List (List ℕ)) (k : ℕ) (r : List ℕ) → k < length rs → r ≡ get_or rs k r → (q : ℕ) → has (union_of (take (k + 1) rs)) q ≡ (has (union_of (take k rs)) q || has r q)
has_runs_more rs k r less is q =
    ap (λ l. has (union_of l) q) (take_last rs k r less is) ∙ has_union_of_append (take k rs) (r ∷ []) q ∙ ap (λ b. has (union_of (take k rs)) q || b) (has_union r [] q ∙ or-false (has r q))

pub has_run_at : (rs : List (List ℕ)) (k : ℕ) (r : List ℕ) (q : ℕ) → k < length rs → r ≡ get_or rs k r → has r q ≡ true → has (union_of rs) q ≡ true
has_run_at [] k r q less is there = absurd (omega arith)
has_run_at (s ∷ rs) zero r q less is there = has_union s (union_of rs) q ∙ ap (λ l. has l q || has (union_of rs) q) (sym is) ∙ ap (λ b. b || has (union_of rs) q) there
has_run_at (s ∷ rs) (suc k) r q less is there = has_union s (union_of rs) q ∙ ap (λ b. has s q || b) (has_run_at rs k r q (omega arith) is there) ∙ or-true (has s q)

-- one Pid more
has_pids_more : (xs : List ℕ) (k q : ℕ) → k < length xs → has (take (k + 1) xs) q ≡ (has (take k xs) q || (q == get_or xs k 0))
has_pids_more xs k q less =
    let next : k + 1 ≡ suc k = omega arith in
    ap (λ (n : ℕ). has (take n xs) q) next ∙ ap (λ l. has l q) (take-suc xs k 0 less) ∙ has_append (take k xs) (get_or xs k 0 ∷ []) q ∙ ap (λ b. has (take k xs) q || b) (or-false (q == get_or xs k 0))

keep_step : (i t n e : Bool) → (e ≡ true → n ≡ true) → (e || (i || (t && n))) ≡ (i || ((t || e) && n))
keep_step true t n true h = refl
keep_step true t n false h = refl
keep_step false true true true h = refl
keep_step false true true false h = refl
keep_step false true false true h = absurd (let same = h refl in cc)
keep_step false true false false h = refl
keep_step false false true true h = refl
keep_step false false true false h = refl
keep_step false false false true h = absurd (let same = h refl in cc)
keep_step false false false false h = refl

skip_step : (i t n e : Bool) → (e ≡ true → n ≡ false) → (i || (t && n)) ≡ (i || ((t || e) && n))
skip_step true t n e h = refl
skip_step false true n e h = refl
skip_step false false true true h = absurd (let same = h refl in cc)
skip_step false false true false h = refl
skip_step false false false true h = refl
skip_step false false false false h = refl

abbrev pub Members : List ℕ → List ℕ → ℕ → List ℕ → List ℕ → Type 0
Members init xs k other set = (q : ℕ) → has set q ≡ (has init q || (has (take k xs) q && not (has other q)))

pub members_kept : (init xs : List ℕ) (k : ℕ) (other set set' : List ℕ) → k < length xs → has other (get_or xs k 0) ≡ false → set' ≡ with_pid (get_or xs k 0) set → Members init xs k other set → Members init xs (k + 1) other set'
members_kept init xs k other set set' less absent is h q =
    let x = get_or xs k 0 in
    ap (λ l. has l q) is ∙ has_with x set q ∙ ap (λ b. (q == x) || b) (h q)
    ∙ keep_step (has init q) (has (take k xs) q) (not (has other q)) (q == x) (λ e. ap not (ap (has other) (eqb-true q x e) ∙ absent))
    ∙ ap (λ b. has init q || (b && not (has other q))) (sym (has_pids_more xs k q less))

pub members_skipped : (init xs : List ℕ) (k : ℕ) (other set : List ℕ) → k < length xs → has other (get_or xs k 0) ≡ true → Members init xs k other set → Members init xs (k + 1) other set
members_skipped init xs k other set less there h q =
    let x = get_or xs k 0 in
    h q ∙ skip_step (has init q) (has (take k xs) q) (not (has other q)) (q == x) (λ e. ap not (ap (has other) (eqb-true q x e) ∙ there))
    ∙ ap (λ b. has init q || (b && not (has other q))) (sym (has_pids_more xs k q less))

join_step : (u r n : Bool) → ((u && n) || (r && n)) ≡ ((u || r) && n)
join_step true r true = refl
join_step true true false = refl
join_step true false false = refl
join_step false r n = refl

-- one run more was gone over
pub run_gone : (rs : List (List ℕ)) (k : ℕ) (r other set set' : List ℕ) → k < length rs → r ≡ get_or rs k r → ((q : ℕ) → has set' q ≡ (has set q || (has r q && not (has other q)))) → ((q : ℕ) → has set q ≡ (has (union_of (take k rs)) q && not (has other q)))
    → (q : ℕ) → has set' q ≡ (has (union_of (take (k + 1) rs)) q && not (has other q))
run_gone rs k r other set set' less is step h q =
    step q ∙ ap (λ b. b || (has r q && not (has other q))) (h q) ∙ join_step (has (union_of (take k rs)) q) (has r q) (not (has other q)) ∙ ap (λ b. b && not (has other q)) (sym (has_runs_more rs k r less is q))

-- all runs were gone over
pub all_gone : (rs : List (List ℕ)) (k : ℕ) (whole other set : List ℕ) → length rs ≤ k → union_of rs ≡ whole → IsAscending whole → IsAscending set → ((q : ℕ) → has set q ≡ (has (union_of (take k rs)) q && not (has other q))) → set ≡ without other whole
all_gone rs k whole other set end is up set_up h =
    same_set set (without other whole) set_up (ascending_filter (λ pid. not (has other pid)) whole up)
    (λ q. h q ∙ ap (λ l. has (union_of l) q && not (has other q)) (take_all k rs end) ∙ ap (λ l. has l q && not (has other q)) is ∙ sym (has_filter_is (λ pid. not (has other pid)) whole q))
