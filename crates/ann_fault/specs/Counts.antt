-- The counts of a device: of its faults and of its good reads.
use Rattle.std.specs.Prelude.{ℕ, ◌≡◌, ◌+◌, ◌-◌, ◌≤◌, ◌^◌, min, max, Result, OnOk, OnErr}

-- one more; a count stays at its last value, and never falls
abbrev pub next_count : ℕ → ℕ
next_count count = max count (min (count + 1) (2 ^ 64 - 1))

-- the count has risen, or stood at its last value
abbrev pub Rose : ℕ → ℕ → Type 0
Rose before now = next_count before ≤ now

-- a success is no fault, and a failure is one
pub record HasCause {T E : Type 0} (before now : ℕ) (result : Result T E) : Type 0 where
  pub calm : OnOk result (now ≡ before)
  pub failed : OnErr result (now ≡ next_count before)
