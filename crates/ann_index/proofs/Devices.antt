-- The vault and the eyes of the workers, from call to call.
use Rattle.std.proofs.Common.{◌≡◌, ◌∙◌, ◌≤◌, ℕ, Bool, true, false, List, refl, ap, arith, le_trans, le_of_eq, subst, sym}
use Rattle.std.specs.Prelude.{Some, Result, Ok, Err}
use Rattle.std.specs.Bool.{MatchBool}
use Rattle.ann_fault.specs.Counts.{Rose}
use Rattle.ann_fault.proofs.Counts.{next_later}
use Rattle.ann_log.specs.LogView.{LogView}
use Rattle.ann_vault.specs.Held.{Holding}
use Rattle.ann_mcause.specs.Eyes.{HaveGone}
use Rattle.ann_mcause.proofs.Watched.{eyes_go_on, eyes_stay}
use Rattle.ann_merge.specs.Job.{JobView}
use Rattle.ann_stock.specs.Cleared.{HasClearedBy}
use Rattle.ann_stock.specs.Stock.{StockView, ToolsView, AtHand, GivenBack, Out, parts_in}
use Rattle.ann_ledger.specs.Clearing.{IsClearing, IsClearingBy}
use Rattle.ann_index.specs.Closed.{HasClosed}
use Rattle.ann_index.specs.Devices.{DevicesGoOn, JobGoesOn}
use Rattle.ann_index.specs.Index.{KeptView}
use Rattle.ann_index.specs.Stages.{EndsBy, IsOut, IsUndone}
use Rattle.ann_index.specs.declared.refusal.Merged.{Merged}
use Rattle.ann_index.specs.declared.refusal.MergeRefused.{MergeRefused}
use Rattle.ann_index.specs.declared.refusal.MergeRefused.TheVariants as merge
use Rattle.ann_index.proofs.Closing.{eyes_in, vault_in}

-- a count that stays, or rises where something failed, doesn't fall
later_of : (calm : Bool) (before now : ℕ) → MatchBool calm (now ≡ before) (Rose before now) → before ≤ now
later_of true before now same = le_of_eq (sym same)
later_of false before now rose = le_trans (next_later before) rose

at_hand_in : {V E S : Type 0} (tools : ToolsView V E S) (vault : V) (eyes : List E) → tools ≡ AtHand vault eyes → tools ≡ Out → ⊥
at_hand_in tools vault eyes is out = cc

-- a job that has ended, or was returned
ends_parts : {V E S : Type 0} (old new : StockView V E S) (job : JobView V E S) (r : Result Merged MergeRefused) → EndsBy old new job r → parts_in new.tools ≡ Some (job.vault, job.eyes)
ends_parts old new job (Ok merged) w = ap (λ (t : ToolsView _ _ _). parts_in t) w.at_hand
ends_parts old new job (Err (merge.Stopped at)) w = absurd w
ends_parts old new job (Err (merge.Nothing at)) w = absurd w
ends_parts old new job (Err merge.Memory) w = ap (λ (t : ToolsView _ _ _). parts_in t) w.given
ends_parts old new job (Err merge.LogFault) w = ap (λ (t : ToolsView _ _ _). parts_in t) w.given
ends_parts old new job (Err merge.Disk) w = absurd w
ends_parts old new job (Err (merge.BadSegment block)) w = absurd w
ends_parts old new job (Err (merge.MemoryLogged receipt)) w = ap (λ (t : ToolsView _ _ _). parts_in t) w.at_hand

module _ {V E S : Type 0} (vault_faults : V → ℕ) (eye_reads eye_faults : E → ℕ) where
  -- ---- nothing is done, or one thing after the other

  pub devices_still : (tools : ToolsView V E S) → (tools ≡ Out → ⊥) → DevicesGoOn vault_faults eye_reads eye_faults tools tools
  devices_still (AtHand vault eyes) hand = record { vault = vault; eyes = eyes; had = refl; vault_now = vault; eyes_now = eyes; has = refl; vault_later = omega arith; eyes_later = eyes_stay eye_reads eye_faults eyes }
  devices_still (GivenBack job) hand = record { vault = job.vault; eyes = job.eyes; had = refl; vault_now = job.vault; eyes_now = job.eyes; has = refl; vault_later = omega arith; eyes_later = eyes_stay eye_reads eye_faults job.eyes }
  devices_still Out hand = absurd (hand refl)

  pub devices_then : (one two three : ToolsView V E S) → DevicesGoOn vault_faults eye_reads eye_faults one two → DevicesGoOn vault_faults eye_reads eye_faults two three → DevicesGoOn vault_faults eye_reads eye_faults one three
  devices_then one two three a b =
      let same : Some (a.vault_now, a.eyes_now) ≡ Some (b.vault, b.eyes) = sym a.has ∙ b.had in
      let vaults : a.vault_now ≡ b.vault = vault_in (a.vault_now, a.eyes_now) (b.vault, b.eyes) same in
      let all : a.eyes_now ≡ b.eyes = eyes_in (a.vault_now, a.eyes_now) (b.vault, b.eyes) same in
      record {
        vault = a.vault;
        eyes = a.eyes;
        had = a.had;
        vault_now = b.vault_now;
        eyes_now = b.eyes_now;
        has = b.has;
        vault_later = le_trans a.vault_later (subst (λ v. vault_faults v ≤ vault_faults b.vault_now) (sym vaults) b.vault_later);
        eyes_later = eyes_go_on eye_reads eye_faults a.eyes a.eyes_now b.eyes_now a.eyes_later (subst (λ es. HaveGone eye_reads eye_faults es b.eyes_now) (sym all) b.eyes_later);
      }

  -- ---- a job is worked, and ends or not

  by_job : (old new : ToolsView V E S) (job worked : JobView V E S) → parts_in old ≡ Some (job.vault, job.eyes) → JobGoesOn vault_faults eye_reads eye_faults job worked → parts_in new ≡ Some (worked.vault, worked.eyes) → DevicesGoOn vault_faults eye_reads eye_faults old new
  by_job old new job worked had on has = record { vault = job.vault; eyes = job.eyes; had = had; vault_now = worked.vault; eyes_now = worked.eyes; has = has; vault_later = on.vault_later; eyes_later = on.eyes_later }

  pub devices_undone : (tells : Type 0) (bytes : S → List ℕ) (old out new : StockView V E S) (job : JobView V E S) (why : MergeRefused) → IsOut old out job → IsUndone tells bytes vault_faults eye_reads eye_faults job out new why → DevicesGoOn vault_faults eye_reads eye_faults old.tools new.tools
  devices_undone tells bytes old out new job why is w = by_job old.tools new.tools job w.worked is.parts w.goes_on (ap (λ (s : StockView V E S). parts_in s.tools) w.stock)

  pub devices_ended : (old out mid new : StockView V E S) (job done : JobView V E S) (r : Result Merged MergeRefused) → IsOut old out job → JobGoesOn vault_faults eye_reads eye_faults job done → EndsBy mid new done r → DevicesGoOn vault_faults eye_reads eye_faults old.tools new.tools
  devices_ended old out mid new job done r is on w = by_job old.tools new.tools job done is.parts on (ends_parts mid new done r w)

  -- ---- retired segments are cleared

  module _ (tells : Type 0) (held : V → Holding) where
    untouched : (old new : StockView V E S) → (old.tools ≡ Out → ⊥) → new ≡ old → DevicesGoOn vault_faults eye_reads eye_faults old.tools new.tools
    untouched old new hand same = subst (λ (s : StockView V E S). DevicesGoOn vault_faults eye_reads eye_faults old.tools s.tools) (sym same) (devices_still old.tools hand)

    clear_by : (base : ℕ) (tools : ToolsView V E S) (old new : StockView V E S) (calm : Bool) → old.tools ≡ tools → (tools ≡ Out → ⊥) → HasClearedBy tells held vault_faults base tools old new calm → DevicesGoOn vault_faults eye_reads eye_faults old.tools new.tools
    clear_by base (AtHand vault eyes) old new calm is hand w = record {
      vault = vault;
      eyes = eyes;
      had = ap (λ (t : ToolsView V E S). parts_in t) is;
      vault_now = w.after;
      eyes_now = eyes;
      has = ap (λ (t : ToolsView V E S). parts_in t) w.tools;
      vault_later = later_of calm (vault_faults vault) (vault_faults w.after) w.cleared.rose;
      eyes_later = eyes_stay eye_reads eye_faults eyes;
    }
    clear_by base (GivenBack job) old new calm is hand w = untouched old new (λ out. hand (sym is ∙ out)) w.0
    clear_by base Out old new calm is hand w = absurd (hand refl)

    clears : {F : Type 0} (closed : Bool) (log : LogView F) (old new : StockView V E S) (calm : Bool) → (old.tools ≡ Out → ⊥) → IsClearingBy tells held vault_faults closed log old new calm → DevicesGoOn vault_faults eye_reads eye_faults old.tools new.tools
    clears true log old new calm hand w = untouched old new hand w.0
    clears false log old new calm hand w = clear_by log.base.segment old.tools old new calm refl hand w

    pub devices_cleared : {F : Type 0} (log : LogView F) (old new : StockView V E S) (calm : Bool) → (old.tools ≡ Out → ⊥) → IsClearing tells held vault_faults log old new calm → DevicesGoOn vault_faults eye_reads eye_faults old.tools new.tools
    devices_cleared log old new calm hand w = clears log.is_closed log old new calm hand w

    -- those of a merge that ended
    pub devices_merged : {F : Type 0} (log : LogView F) (old out between mid new : StockView V E S) (job done : JobView V E S) (merged : Merged) (calm : Bool) → IsOut old out job → JobGoesOn vault_faults eye_reads eye_faults job done → EndsBy between mid done (Ok merged) → IsClearing tells held vault_faults log mid new calm → DevicesGoOn vault_faults eye_reads eye_faults old.tools new.tools
    devices_merged log old out between mid new job done merged calm is on w cleared =
        devices_then old.tools mid.tools new.tools
        (devices_ended old out between mid job done (Ok merged) is on w)
        (devices_cleared log mid new calm (at_hand_in mid.tools done.vault done.eyes w.at_hand) cleared)

    -- the index is closed
    pub devices_closed : {F : Type 0} (kept : KeptView F V E S) (vault : V) (eyes : List E) (removed : Bool) → HasClosed tells held vault_faults kept vault eyes removed → DevicesGoOn vault_faults eye_reads eye_faults kept.stock.tools (AtHand vault eyes)
    devices_closed kept vault eyes removed w = record {
      vault = w.before;
      eyes = eyes;
      had = w.had;
      vault_now = vault;
      eyes_now = eyes;
      has = refl;
      vault_later = later_of removed (vault_faults w.before) (vault_faults vault) w.cause;
      eyes_later = eyes_stay eye_reads eye_faults eyes;
    }
