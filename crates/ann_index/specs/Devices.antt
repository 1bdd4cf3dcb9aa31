-- How the vault and the eyes of the workers go on.
use Rattle.std.specs.Prelude.{◌≡◌, ◌≤◌, ℕ, List, Some}
use Rattle.ann_mcause.specs.Eyes.{HaveGone}
use Rattle.ann_merge.specs.Job.{JobView}
use Rattle.ann_stock.specs.Stock.{ToolsView, parts_in}

-- `vault_faults` and `eye_faults` are the counts of faults of a vault and of an eye, and `eye_reads` is that of its reads
module _ {V E S : Type 0} (vault_faults : V → ℕ) (eye_reads eye_faults : E → ℕ) where
  -- The vault's count hasn't fallen; there are as many eyes, in the same order, and no count of one has fallen.
  pub record DevicesGoOn (old new : ToolsView V E S) : Type 0 where
    pub vault : V
    pub eyes : List E
    pub had : parts_in old ≡ Some (vault, eyes)
    pub vault_now : V
    pub eyes_now : List E
    pub has : parts_in new ≡ Some (vault_now, eyes_now)
    pub vault_later : vault_faults vault ≤ vault_faults vault_now
    pub eyes_later : HaveGone eye_reads eye_faults eyes eyes_now

  -- so do those of a job, which goes on itself
  pub record JobGoesOn (old new : JobView V E S) : Type 0 where
    pub order : new.order ≡ old.order
    pub vault_later : vault_faults old.vault ≤ vault_faults new.vault
    pub eyes_later : HaveGone eye_reads eye_faults old.eyes new.eyes
