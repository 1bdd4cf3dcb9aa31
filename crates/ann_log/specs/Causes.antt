-- The faults of a log's two files. The log's count of faults is the sum of theirs, and a call that fails is one fault.
use Rattle.std.specs.Prelude.{◌≡◌, ◌⊎◌, ℕ, Result, OnOk, OnErr, IfErr}
use Rattle.ann_fault.specs.Counts.{next_count}
use Rattle.ann_disk.specs.declared.file.LogFile.{Ghosts}
use Rattle.ann_log.specs.declared.files.Files.{Files}

-- a refusal of a call on one file is a fault exactly where it says so
pub record IsCausedBy (before now : ℕ) (is_fault : Type 0) : Type 0 where
  pub fault : is_fault → now ≡ next_count before
  pub calm : (is_fault → ⊥) → now ≡ before

-- a success is no fault, and this refusal alone is one
pub record HasCauses {T E : Type 0} (before now : ℕ) (disk : E) (result : Result T E) : Type 0 where
  pub calm : OnOk result (now ≡ before)
  pub caused : IfErr result (λ why. IsCausedBy before now (why ≡ disk))

module _ {F : Type 0} (D : Ghosts F) where
  -- no call of the files failed
  pub record AreCalm (old new : Files F) : Type 0 where
    pub first : D.faults new.first ≡ D.faults old.first
    pub second : D.faults new.second ≡ D.faults old.second

  -- one call failed, of one of them
  abbrev pub HaveFault : Files F → Files F → Type 0
  HaveFault old new =
      ((D.faults new.first ≡ next_count (D.faults old.first)) × (D.faults new.second ≡ D.faults old.second))
      ⊎ ((D.faults new.first ≡ D.faults old.first) × (D.faults new.second ≡ next_count (D.faults old.second)))

  -- a refusal is a fault exactly where it says so
  pub record AreCausedBy (old new : Files F) (is_fault : Type 0) : Type 0 where
    pub fault : is_fault → HaveFault old new
    pub calm : (is_fault → ⊥) → AreCalm old new

  -- a success is no fault, and this refusal alone is one
  pub record HaveCauses {T E : Type 0} (old new : Files F) (disk : E) (result : Result T E) : Type 0 where
    pub calm : OnOk result (AreCalm old new)
    pub caused : IfErr result (λ why. AreCausedBy old new (why ≡ disk))

  -- a success is no fault, and each refusal is one
  pub record HaveCause {T E : Type 0} (old new : Files F) (result : Result T E) : Type 0 where
    pub calm : OnOk result (AreCalm old new)
    pub failed : OnErr result (HaveFault old new)
