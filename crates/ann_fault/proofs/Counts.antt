-- Counts of faults, from call to call.
use Rattle.std.proofs.Common.{ℕ, ◌≡◌, ◌≤◌, Result, Ok, Err, OnErr, refl, sym, subst, arith}
use Rattle.ann_fault.specs.Counts.{HasCause, Rose, next_count}

pub next_later : (count : ℕ) → count ≤ next_count count
next_later count = grind arith

-- a count never falls
pub later : {T E : Type 0} {before now : ℕ} (result : Result T E) → HasCause before now result → before ≤ now
later {T} {E} {before} {now} (Ok value) cause = let same : now ≡ before = cause.calm in grind arith
later {T} {E} {before} {now} (Err error) cause = subst (λ n. before ≤ n) (sym cause.failed) (next_later before)

-- it rose at a failure
pub rose : {T E : Type 0} {before now : ℕ} (result : Result T E) → HasCause before now result → OnErr result (Rose before now)
rose (Ok value) cause = tt
rose {T} {E} {before} {now} (Err error) cause = let one : now ≡ next_count before = cause.failed in grind arith

-- a call behind others that succeeded
pub behind : {T E : Type 0} {first before now : ℕ} {result : Result T E} → before ≡ first → HasCause before now result → HasCause first now result
behind {T} {E} {first} {before} {now} {result} same cause = subst (λ n. HasCause n now result) same cause
