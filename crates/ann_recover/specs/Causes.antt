-- The faults of all devices of an index together: of the two files of its log, its vault and its first eye.
use Rattle.std.specs.Prelude.{◌≡◌, ◌⊎◌, ◌∷◌, ℕ, List, Result, OnOk, IfErr}
use Rattle.ann_fault.specs.Counts.{next_count}
use Rattle.ann_log.specs.declared.files.Files.{Files}
use Rattle.ann_recover.specs.declared.refused.RecoverWhy.{RecoverWhy}
use Rattle.ann_recover.specs.declared.refused.RecoverWhy.TheVariants.{NoIndex, BadLog, BadSegment, Disk, Memory}

-- how often each of them has failed
pub record Faults : Type 0 where
  pub first : ℕ
  pub second : ℕ
  pub vault : ℕ
  pub eye : ℕ

abbrev pub faults_of : {F : Type 0} → (F → ℕ) → Files F → ℕ → ℕ → Faults
faults_of faults files vault eye = record { first = faults files.first; second = faults files.second; vault = vault; eye = eye }

-- one call failed, of one of them
abbrev pub HasOneFault : Faults → Faults → Type 0
HasOneFault old new =
    (new ≡ record old { first = next_count old.first })
    ⊎ (new ≡ record old { second = next_count old.second })
    ⊎ (new ≡ record old { vault = next_count old.vault })
    ⊎ (new ≡ record old { eye = next_count old.eye })

-- a refusal is a fault exactly where it says so
pub record IsCausedBy (is_fault : Type 0) (old new : Faults) : Type 0 where
  pub failed : is_fault → HasOneFault old new
  pub calm : (is_fault → ⊥) → new ≡ old

-- a success is no fault, and this refusal alone is one
pub record AreCounted {T E : Type 0} (disk : E) (result : Result T E) (old new : Faults) : Type 0 where
  pub calm : OnOk result (new ≡ old)
  pub caused : IfErr result (λ why. IsCausedBy (why ≡ disk) old new)

-- of several eyes the first one was used, and the others are as they were; a call of a device failed exactly where this is so
pub record IsCounted {F E : Type 0} (of_file : F → ℕ) (of_eye : E → ℕ) (is_fault : Type 0) (files : Files F) (vault : ℕ) (first : E) (rest : List E) (files' : Files F) (vault' : ℕ) (eyes' : List E) : Type 0 where
  pub now : E
  pub eyes : eyes' ≡ now ∷ rest
  pub caused : IsCausedBy is_fault (faults_of of_file files vault (of_eye first)) (faults_of of_file files' vault' (of_eye now))

-- a refusal of a device, or for want of memory
abbrev pub IsOfStore : RecoverWhy → Type 0
IsOfStore NoIndex = ⊥
IsOfStore (BadLog entry) = ⊥
IsOfStore (BadSegment block) = ⊥
IsOfStore Disk = Unit {0}
IsOfStore Memory = Unit {0}
