-- Why the job of a merge isn't done.
use Rattle.std.proofs.Common.{◌≡◌, ℕ, Bool, List, ap₂, subst, sym}
use Rattle.std.specs.Prelude.{IsTrue}
use Rattle.ann_types.specs.Fold.{fold_of}
use Rattle.ann_types.specs.Index.{Index}
use Rattle.ann_types.specs.Lists.{BasedList}
use Rattle.ann_disk.specs.declared.file.LogFile.{Ghosts}
use Rattle.ann_log.specs.LogView.{LogView}
use Rattle.ann_vault.specs.Held.{Holding}
use Rattle.ann_mdelete.specs.declared.refused.WorkRefused.{WorkRefused}
use Rattle.ann_mdelete.specs.declared.refused.WorkRefused.TheVariants as work
use Rattle.ann_mpatch.specs.Source.{source_of}
use Rattle.ann_mlaws.specs.Plan.{IsLti}
use Rattle.ann_merge.specs.Job as merge
use Rattle.ann_merge.specs.Job.{JobView, index_of}
use Rattle.ann_mbegin.specs.Begun.{IsJobOf}
use Rattle.ann_journal.specs.Journal.{index_in}
use Rattle.ann_ledger.specs.Ledger.{IsJobOn}
use Rattle.ann_index.specs.Refusals.{of_work}
use Rattle.ann_index.specs.Steps.{IsWorkCause}

index_of_job : {F S : Type 0} (log : LogView F) (h : BasedList) (order : merge.Order S) → IsJobOf (index_in log) h order → index_of order ≡ index_in log
index_of_job log h order is = ap₂ (λ p b. let i : Index = record { params = p; book = b } in i) is.of_index.0 is.of_index.1

module _ {F V E S : Type 0} (D : Ghosts F) (tells : Type 0) (bytes : S → List ℕ) (held : V → Holding) (vault_faults : V → ℕ) (eye_reads eye_faults : E → ℕ) (sound : Bool) (h : BasedList) (log : LogView F) (job worked : JobView V E S) (told : IsTrue sound → tells) (is : IsJobOn D tells bytes held sound log h job) where
  lti : IsTrue sound → IsLti bytes (index_of job.order) job.order.old (fold_of (index_in log) h).lti
  lti t = subst (λ (i : Index). IsLti bytes i job.order.old (fold_of (index_in log) h).lti) (sym (index_of_job log h job.order is.of_begin)) (is.lti t)

  pub cause_of : (why : WorkRefused) → merge.IsStopped tells bytes job.order
      (merge.IsWorkRefused eye_reads eye_faults tells (source_of bytes job.order.old) job.order.params (vault_faults job.vault) (vault_faults worked.vault) job.eyes worked.eyes)
      (held job.vault) (held worked.vault) why
      → IsWorkCause D tells bytes held vault_faults eye_faults sound job worked (of_work why)
  cause_of work.Disk w = w.cause
  cause_of (work.BadSegment block) w = λ t. w.sound (told t) (fold_of (index_in log) h).lti (lti t)
  cause_of work.Memory w = tt
