-- Lists of runs.
use Rattle.std.proofs.Common.{◌≡◌, ℕ, zero, suc, ◌+◌, ◌*◌, ◌^◌, ◌<◌, ◌≤◌, Bool, true, false, List, [], ◌∷◌, ◌++◌, length, map, take, get_or, reverse, refl, sym, ap, ◌∙◌, subst, arith, append_assoc}
use Rattle.std.specs.Prelude.{◌==◌, ◌||◌}
use Rattle.std.specs.List.{list_any}
use Rattle.std.proofs.lemmas.List.{map-append, reverse-append, length-reverse, length-map}
use Rattle.std.proofs.Math.Seq.{take-suc}
use Rattle.std.proofs.Math.Pow.{pow_mono}
use mathlib.Core.Logic.{dite}
use Rattle.std.proofs.Math.Decide.{dec_lt}
use Rattle.ann_types.specs.Order.{has}
use Rattle.ann_types.proofs.Booleans.{or_assoc}
use Rattle.ann_dead.specs.Pids.{with_pid, union, union_of, AreBelow, IsAscending}
use Rattle.ann_dead.specs.Digits.{digits_of, carried}
use Rattle.ann_dead.specs.Run.{IsRun}
use Rattle.ann_dead.specs.Dead.{total, sizes, AreRuns, AreDigits}
use Rattle.ann_dead.proofs.Sets.{order_cases, with_less, with_same, with_more, has_with, has_union, ascending_union, ascending_union_of, ascending_with, same_set, length_union_le, length_union_of_le, length_with_new, length_ascending, union_nothing}
use Rattle.ann_dead.proofs.Digits.{digits-next, digits-zero, length-digits, carried_same}

-- Members

-- whether a run has the Pid
pub any_run : (runs : List (List ℕ)) (p : ℕ) → list_any (λ run. has run p) runs ≡ has (union_of runs) p
any_run [] p = refl
any_run (r ∷ rs) p = ap (λ b. has r p || b) (any_run rs p) ∙ sym (has_union r (union_of rs) p)

pub has_union_of_append : (rs ss : List (List ℕ)) (p : ℕ) → has (union_of (rs ++ ss)) p ≡ (has (union_of rs) p || has (union_of ss) p)
has_union_of_append [] ss p = refl
has_union_of_append (r ∷ rs) ss p =
    has_union r (union_of (rs ++ ss)) p ∙ ap (λ b. has r p || b) (has_union_of_append rs ss p) ∙ or_assoc (has r p) (has (union_of rs) p) (has (union_of ss) p)
    ∙ ap (λ b. b || has (union_of ss) p) (sym (has_union r (union_of rs) p))

or_end : (a b : Bool) → (a || (b || false)) ≡ (b || a)
or_end true true = refl
or_end true false = refl
or_end false true = refl
or_end false false = refl

-- a Pid alone is a run more
pub union_of_one_more : (rs : List (List ℕ)) (p : ℕ) → union_of (rs ++ (p ∷ []) ∷ []) ≡ with_pid p (union_of rs)
union_of_one_more rs p =
    same_set (union_of (rs ++ (p ∷ []) ∷ [])) (with_pid p (union_of rs)) (ascending_union_of (rs ++ (p ∷ []) ∷ [])) (ascending_with p (union_of rs) (ascending_union_of rs))
    (λ q. has_union_of_append rs ((p ∷ []) ∷ []) q ∙ or_end (has (union_of rs) q) (q == p) ∙ sym (has_with p (union_of rs) q))

-- the runs in front stay
pub union_of_front : (ps qs ss : List (List ℕ)) → union_of qs ≡ union_of ss → union_of (ps ++ qs) ≡ union_of (ps ++ ss)
union_of_front [] qs ss same = same
union_of_front (p ∷ ps) qs ss same = ap (union p) (union_of_front ps qs ss same)

-- two runs merged
pub union_of_merged : (ps : List (List ℕ)) (r m : List ℕ) → IsAscending m → union_of (ps ++ r ∷ m ∷ []) ≡ union_of (ps ++ union r m ∷ [])
union_of_merged ps r m up = union_of_front ps (r ∷ m ∷ []) (union r m ∷ []) (ap (union r) (union_nothing m up) ∙ sym (union_nothing (union r m) (ascending_union r m up)))

-- Bounds

below_with : (b p : ℕ) (xs : List ℕ) → p < b → AreBelow b xs → AreBelow b (with_pid p xs)
below_with b p [] less h = (less, tt)
below_with b p (x ∷ xs) less h =
    order_cases p x
    (λ l. subst (AreBelow b) (sym (with_less p x xs l)) (less, h))
    (λ s. subst (AreBelow b) (sym (with_same p x xs s)) h)
    (λ m. subst (AreBelow b) (sym (with_more p x xs m)) (h.0, below_with b p xs less h.1))

pub below_union : (b : ℕ) (xs ys : List ℕ) → AreBelow b xs → AreBelow b ys → AreBelow b (union xs ys)
below_union b [] ys h k = k
below_union b (x ∷ xs) ys h k = below_with b x (union xs ys) h.0 (below_union b xs ys h.1 k)

pub below_union_of : (rs : List (List ℕ)) → AreRuns rs → AreBelow (2 ^ 32) (union_of rs)
below_union_of [] h = tt
below_union_of (r ∷ rs) h = below_union (2 ^ 32) r (union_of rs) h.0.1 (below_union_of rs h.1)

ascending_size : (xs : List ℕ) → AreBelow (2 ^ 32) xs → IsAscending xs → length xs ≤ 2 ^ 32
ascending_size [] below up = omega arith
ascending_size (x ∷ xs) below up = let r = length_ascending x (2 ^ 32) xs below.0 up.0 below.1 up.1 in omega arith

-- there are no more Pids than numbers of 32 bits
pub union_of_size : (rs : List (List ℕ)) → AreRuns rs → length (union_of rs) ≤ 2 ^ 32
union_of_size rs h = ascending_size (union_of rs) (below_union_of rs h) (ascending_union_of rs)

-- Lists of runs

pub runs_append : (rs ss : List (List ℕ)) → AreRuns rs → AreRuns ss → AreRuns (rs ++ ss)
runs_append [] ss h k = k
runs_append (r ∷ rs) ss h k = (h.0, runs_append rs ss h.1 k)

pub runs_take : (n : ℕ) (rs : List (List ℕ)) → AreRuns rs → AreRuns (take n rs)
runs_take zero rs h = tt
runs_take (suc n) [] h = tt
runs_take (suc n) (r ∷ rs) h = (h.0, runs_take n rs h.1)

pub run_at : (rs : List (List ℕ)) (k : ℕ) (d : List ℕ) → AreRuns rs → k < length rs → IsRun (get_or rs k d)
run_at [] k d h less = absurd (omega arith)
run_at (r ∷ rs) zero d h less = h.0
run_at (r ∷ rs) (suc k) d h less = run_at rs k d h.1 (omega arith)

pub total_append : (rs ss : List (List ℕ)) → total (rs ++ ss) ≡ total rs + total ss
total_append [] ss = omega arith
total_append (r ∷ rs) ss = let a = total_append rs ss in omega arith

pub length_sizes : (rs : List (List ℕ)) → length (sizes rs) ≡ length rs
length_sizes rs = length-reverse (map length rs) ∙ length-map rs length

pub sizes_last : (rs : List (List ℕ)) (r : List ℕ) → sizes (rs ++ r ∷ []) ≡ length r ∷ sizes rs
sizes_last rs r = ap reverse (map-append length rs (r ∷ [])) ∙ reverse-append (map length rs) (length r ∷ [])

pub take_last : (rs : List (List ℕ)) (k : ℕ) (r : List ℕ) → k < length rs → r ≡ get_or rs k r → take (k + 1) rs ≡ take k rs ++ r ∷ []
take_last rs k r less is = let next : k + 1 ≡ suc k = omega arith in ap (λ (n : ℕ). take n rs) next ∙ take-suc rs k r less ∙ ap (λ x. take k rs ++ x ∷ []) (sym is)

-- A carry

-- of the total, nothing is lost where the set keeps its size
tight : (ps : List (List ℕ)) (r m m' : List ℕ) (n : ℕ) → m' ≡ union r m → total (ps ++ r ∷ m ∷ []) ≡ n → length (union_of (ps ++ m' ∷ [])) ≡ n → (total (ps ++ m' ∷ []) ≡ n) × (length m' ≡ length r + length m)
tight ps r m m' n is before size =
    let a = total_append ps (r ∷ m ∷ []) in
    let b = total_append ps (m' ∷ []) in
    let le = length_union_of_le (ps ++ m' ∷ []) in
    let longest = length_union_le r m in
    let same = ap length is in
    (omega arith, omega arith)

-- what a step of a carry keeps: the run r of the size of m is merged with it
pub record Carries (rs : List (List ℕ)) (k : ℕ) (m' all : List ℕ) (n : ℕ) (end : List ℕ) : Type 0 where
  pub one_run : IsRun m'
  pub same_pids : union_of (take k rs ++ m' ∷ []) ≡ all
  pub same_total : total (take k rs ++ m' ∷ []) ≡ n
  pub same_carry : carried (sizes (take k rs)) (length m') ≡ end

pub carry_step : (rs : List (List ℕ)) (k kept : ℕ) (r m m' all : List ℕ) (n : ℕ) (end : List ℕ) → kept ≡ k + 1 → kept ≤ length rs → r ≡ get_or rs k r → IsRun r → length r ≡ length m → m' ≡ union r m → length all ≡ n
    → Carries rs kept m all n end → Carries rs k m' all n end
carry_step rs k kept r m m' all n end is_kept in_rs r_is r_run same_size m'_is size h =
    let front = take k rs in
    let cut : take kept rs ≡ front ++ r ∷ [] = ap (λ (x : ℕ). take x rs) is_kept ∙ take_last rs k r (omega arith) r_is in
    let whole : take kept rs ++ m ∷ [] ≡ front ++ r ∷ m ∷ [] = ap (λ l. l ++ m ∷ []) cut ∙ append_assoc front (r ∷ []) (m ∷ []) in
    let pids : union_of (front ++ m' ∷ []) ≡ all = ap (λ l. union_of (front ++ l ∷ [])) m'_is ∙ sym (union_of_merged front r m h.one_run.0) ∙ ap union_of (sym whole) ∙ h.same_pids in
    let totals = tight front r m m' n m'_is (ap total (sym whole) ∙ h.same_total) (ap length pids ∙ size) in
    let twice : length m' ≡ 2 * length m = let t = totals.1 in omega arith in
    record {
      one_run = (subst IsAscending (sym m'_is) (ascending_union r m h.one_run.0), subst (AreBelow (2 ^ 32)) (sym m'_is) (below_union (2 ^ 32) r m r_run.1 h.one_run.1));
      same_pids = pids;
      same_total = totals.0;
      same_carry =
          ap (carried (sizes front)) twice ∙ sym (carried_same (length r) (length m) (sizes front) same_size) ∙ ap (λ l. carried l (length m)) (sym (ap sizes cut ∙ sizes_last front r)) ∙ h.same_carry;
    }

-- One Pid more

pub one_more : (rs : List (List ℕ)) (p : ℕ) → length (union_of rs) ≡ total rs → has (union_of rs) p ≡ false → length (union_of (rs ++ (p ∷ []) ∷ [])) ≡ total rs + 1
one_more rs p apart new = ap length (union_of_one_more rs p) ∙ length_with_new p (union_of rs) new ∙ ap (λ (n : ℕ). n + 1) apart

digits_more : (rs new : List (List ℕ)) → AreRuns rs → length (union_of rs) ≡ total rs → sizes rs ≡ digits_of 33 1 (total rs) → sizes new ≡ carried (sizes rs) 1 → total new ≡ total rs + 1 → sizes new ≡ digits_of 33 1 (total new)
digits_more rs new runs apart digits carry more =
    let small = union_of_size rs runs in
    carry ∙ ap (λ l. carried l 1) digits ∙ digits-next 33 1 (total rs) (omega arith) (omega arith) ∙ ap (digits_of 33 1) (sym more)

-- the digits of a number of Pids are at most 32
pub few_runs : (rs : List (List ℕ)) → AreRuns rs → length (union_of rs) ≡ total rs → sizes rs ≡ digits_of 33 1 (total rs) → length rs ≤ 32
few_runs rs runs apart digits =
    let small = union_of_size rs runs in
    let count : length rs ≡ length (digits_of 33 1 (total rs)) = sym (length_sizes rs) ∙ ap length digits in
    let power : 2 ^ length rs ≤ total rs + 1 = subst (λ (l : ℕ). 2 ^ l ≤ total rs + 1) (sym count) (length-digits 33 1 (total rs)) in
    dite (dec_lt 32 (length rs)) (λ more. let big : 2 ^ 33 ≤ 2 ^ length rs = pow_mono {i = 33} {j = length rs} (omega arith) in absurd (omega arith)) (λ not_more. omega arith)

pub grown : (cap cap' p : ℕ) (rs new : List (List ℕ)) → AreDigits cap rs → 32 ≤ cap' → has (union_of rs) p ≡ false → AreRuns new → union_of new ≡ union_of (rs ++ (p ∷ []) ∷ []) → total new ≡ total rs + 1 → sizes new ≡ carried (sizes rs) 1
    → AreDigits cap' new × (length new ≤ 32)
grown cap cap' p rs new h room absent runs pids more carry =
    let apart : length (union_of new) ≡ total new = ap length pids ∙ one_more rs p h.apart absent ∙ sym more in
    let digits = digits_more rs new h.sorted h.apart h.digits carry more in
    (record { room = room; sorted = runs; apart = apart; digits = digits }, few_runs new runs apart digits)

-- No runs

pub no_runs : (cap : ℕ) (rs : List (List ℕ)) → rs ≡ [] → cap ≡ 32 → AreDigits cap rs
no_runs cap rs none room = subst (AreDigits cap) (sym none) (record { room = omega arith; sorted = tt; apart = refl; digits = sym (digits-zero 33 1) })

pub empty_from_none : (rs : List (List ℕ)) → length rs ≡ 0 → union_of rs ≡ []
empty_from_none [] h = refl
empty_from_none (r ∷ rs) h = absurd (omega arith)

pub none_from_empty : (cap : ℕ) (rs : List (List ℕ)) → AreDigits cap rs → union_of rs ≡ [] → length rs ≡ 0
none_from_empty cap rs h empty =
    let count : total rs ≡ 0 = sym h.apart ∙ ap length empty in
    sym (length_sizes rs) ∙ ap length (h.digits ∙ ap (digits_of 33 1) count ∙ digits-zero 33 1)
