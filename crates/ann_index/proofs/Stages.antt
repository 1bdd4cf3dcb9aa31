-- The stock on the way through a merge.
use Rattle.std.proofs.Common.{◌≡◌, ◌∙◌, ◌<◌, ℕ, false, List, [], ◌∷◌, ap, length, subst, sym, arith}
use Rattle.std.specs.Prelude.{None, Err}
use Rattle.std.proofs.lemmas.Bool.{false≢true}
use Rattle.ann_types.specs.Lists.{BasedList}
use Rattle.ann_disk.specs.declared.file.LogFile.{Ghosts}
use Rattle.ann_mcause.specs.Causes.{IsBadBlock}
use Rattle.ann_mcause.specs.Eyes.{AreCause}
use Rattle.ann_mdelete.specs.declared.refused.WorkRefused.{WorkRefused}
use Rattle.ann_mdelete.specs.declared.refused.WorkRefused.TheVariants as work
use Rattle.ann_mpatch.specs.Source.{source_of}
use Rattle.ann_merge.specs.Job.{IsWorkRefused, JobView, Order}
use Rattle.ann_journal.specs.Journal.{JournalView}
use Rattle.ann_stock.specs.Stock.{StockView, GivenBack}
use Rattle.ann_ledger.specs.Merging as ledger
use Rattle.ann_ledger.specs.declared.refused.FinishWhy.{FinishWhy}
use Rattle.ann_ledger.specs.declared.refused.FinishWhy.TheVariants as ending
use Rattle.ann_index.specs.Devices.{JobGoesOn}
use Rattle.ann_index.specs.Refusals.{of_finish, of_work}
use Rattle.ann_index.specs.Stages.{EndsBy, HasMetBad, IsUndone, IsUnworked}

-- ---- it is worked

an_eye : {E : Type 0} (eyes : List E) (i : ℕ) → i < length eyes → E
an_eye [] i below = absurd (omega (arith, below))
an_eye (eye ∷ eyes) i below = eye

module _ {V E S : Type 0} (tells : Type 0) (bytes : S → List ℕ) (vault_faults : V → ℕ) (eye_reads eye_faults : E → ℕ) (job worked : JobView V E S) (on : JobGoesOn vault_faults eye_reads eye_faults job worked) where
  met_bad : (block : ℕ) → AreCause eye_reads eye_faults tells (source_of bytes job.order.old) job.order.params job.eyes worked.eyes (work.BadSegment block) → HasMetBad tells bytes eye_reads job worked block
  met_bad block cause = record {
    read = (cause.0, cause.1, λ d. (cause.2 d).0);
    bad = λ t. subst (λ (o : Order S). IsBadBlock (source_of bytes o.old) o.params block) (sym on.order) ((cause.2 (an_eye job.eyes cause.0 cause.1)).1 t);
  }

  unworked : (why : WorkRefused) (before now : ℕ) → IsWorkRefused eye_reads eye_faults tells (source_of bytes job.order.old) job.order.params before now job.eyes worked.eyes why → IsUnworked tells bytes vault_faults eye_reads eye_faults job worked (of_work why)
  unworked work.Disk before now cause = tt
  unworked (work.BadSegment block) before now cause = met_bad block cause
  unworked work.Memory before now cause = tt

  pub undone : (old new : StockView V E S) (why : WorkRefused) (before now : ℕ) → worked.segment ≡ None → new ≡ record old { tools = GivenBack worked } → IsWorkRefused eye_reads eye_faults tells (source_of bytes job.order.old) job.order.params before now job.eyes worked.eyes why → IsUndone tells bytes vault_faults eye_reads eye_faults job old new (of_work why)
  undone old new why before now none stock cause = record { worked = worked; goes_on = on; undone = none; stock = stock; by_answer = unworked why before now cause }

-- ---- it ends, or not

module _ {F V E S : Type 0} (D : Ghosts F) (h : BasedList) (job : JobView V E S) (j j2 : JournalView F S) (stock stock2 stock3 : StockView V E S) (open_now : j.log.is_closed ≡ false) (given : stock3 ≡ record stock2 { tools = GivenBack job }) where
  pub ends_by : (why : FinishWhy) → ledger.IsUnfinished D h 0 job j j2 stock stock2 why → EndsBy stock stock3 job (Err (of_finish why))
  ends_by (ending.Stopped at) w = absurd (false≢true (sym open_now ∙ w.closed))
  ends_by ending.Memory w = record { given = ap (λ (s : StockView V E S). s.tools) given; retired = ap (λ (s : StockView V E S). s.retired) given ∙ w.stock.retired }
  ends_by ending.LogFault w = record { given = ap (λ (s : StockView V E S). s.tools) given; retired = ap (λ (s : StockView V E S). s.retired) given ∙ w.stock.retired }
