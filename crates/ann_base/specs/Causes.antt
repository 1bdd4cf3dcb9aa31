-- The faults of a vault and of an eye together.
use Rattle.std.specs.Prelude.{◌≡◌, ◌⊎◌, ℕ, Result, OnOk, IfErr}
use Rattle.ann_fault.specs.Counts.{next_count}

-- how often the vault and the eye have failed
pub record Counts : Type 0 where
  pub vault : ℕ
  pub eye : ℕ

abbrev pub counts_of : ℕ → ℕ → Counts
counts_of vault eye = record { vault = vault; eye = eye }

-- one call failed, of one of them
abbrev pub HasOneFault : Counts → Counts → Type 0
HasOneFault old new = (new ≡ counts_of (next_count old.vault) old.eye) ⊎ (new ≡ counts_of old.vault (next_count old.eye))

-- a success is no fault, and this refusal alone is one
pub record AreCounted {T E : Type 0} (disk : E) (result : Result T E) (old new : Counts) : Type 0 where
  pub calm : OnOk result (new ≡ old)
  pub failed : IfErr result (λ why. why ≡ disk → HasOneFault old new)
  pub refused : IfErr result (λ why. (why ≡ disk → ⊥) → new ≡ old)
