-- What a call that may be refused in several ways leaves of the counts of its vault or eye. Some of the refusals are
-- faults of the device.
use Rattle.std.specs.Prelude.{ℕ, ◌≡◌, Result, OnOk, IfErr}
use Rattle.ann_fault.specs.Counts.{next_count}

module _ {T E : Type 0} (is_fault : E → Type 0) (result : Result T E) (before now : ℕ) where
  -- a fault is one more, and nothing else is
  pub record CountsFault : Type 0 where
    pub calm : OnOk result (now ≡ before)
    pub failed : IfErr result (λ why. is_fault why → now ≡ next_count before)
    pub refused : IfErr result (λ why. (is_fault why → ⊥) → now ≡ before)

  -- one read, unless it was a fault
  pub record CountsRead : Type 0 where
    pub counted : OnOk result (now ≡ next_count before)
    pub judged : IfErr result (λ why. (is_fault why → ⊥) → now ≡ next_count before)
    pub unread : IfErr result (λ why. is_fault why → now ≡ before)
