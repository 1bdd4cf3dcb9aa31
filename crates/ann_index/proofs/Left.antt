-- What a merge leaves, by its steps.
use Rattle.std.proofs.Common.{◌≡◌, ◌∙◌, ◌++◌, ℕ, Bool, false, List, [], ◌∷◌, inl, inr, ap, option_to_list, subst, sym}
use Rattle.std.specs.Prelude.{IsSome, Ok, Err}
use Rattle.ann_types.specs.Index.{Index}
use Rattle.ann_types.specs.Lists.{BasedList}
use Rattle.ann_types.specs.declared.entry.Entry.TheVariants.{End}
use Rattle.ann_disk.specs.declared.file.LogFile.{Ghosts}
use Rattle.ann_log.specs.Appended.{HasAppended}
use Rattle.ann_log.specs.LogView.{LogView, files_of, held_of, IsBeforeOrAfter}
use Rattle.ann_log.specs.Told.{LeaveFiles}
use Rattle.ann_vault.specs.Held.{Holding}
use Rattle.ann_merge.specs.Job.{JobView, Order}
use Rattle.ann_mbegin.specs.Begun.{IsJobOf}
use Rattle.ann_journal.specs.Journal.{index_in}
use Rattle.ann_stock.specs.Stock.{StockView}
use Rattle.ann_ledger.specs.Clearing.{IsClearing}
use Rattle.ann_index.specs.Doubt.{IsInDoubt}
use Rattle.ann_index.specs.Index.{KeptView}
use Rattle.ann_index.specs.Left.{IsBack, IsBackUndone, IsOver, LeavesBy}
use Rattle.ann_index.specs.Merged.{HasEnded, IsBegun, begun, end_for, segment_for}
use Rattle.ann_index.specs.Stages.{EndsBy, IsAtEnd, IsOut, IsReturned, IsUndone, IsUntaken}
use Rattle.ann_index.specs.Steps.{IsFinish}
use Rattle.ann_index.specs.declared.refusal.Merged.{Merged}
use Rattle.ann_index.specs.declared.refusal.MergeRefused.{MergeRefused}
use Rattle.ann_index.specs.declared.refusal.MergeRefused.TheVariants.{Stopped, Nothing, Memory, LogFault, Disk, BadSegment, MemoryLogged}
use Rattle.ann_index.proofs.Doubts.{doubt_after}

-- the retired segments stay while a job is taken
out_retired : {V E S : Type 0} (old out : StockView V E S) (job : JobView V E S) → IsOut old out job → out.retired ≡ old.retired
out_retired old out job is = ap (λ (s : StockView _ _ _). s.retired) is.stock

module _ {V E S : Type 0} (index : Index) (h : BasedList) (old out new : StockView V E S) (job done : JobView V E S) (is : IsOut old out job) (of_begin : IsJobOf index (begun index h) done.order) where
  returned : IsReturned out new done → IsBack index h old new done
  returned w = record { given = w.given; of_begin = of_begin; retired = w.retired ∙ out_retired old out job is }

  over : IsAtEnd out new done → IsOver index h old new done
  over w = record { at_hand = w.at_hand; of_begin = of_begin; retired = w.retired ∙ ap (λ rs. rs ++ option_to_list done.order.old) (out_retired old out job is) }

module _ {F V E S : Type 0} (D : Ghosts F) (tells : Type 0) (bytes : S → List ℕ) (held : V → Holding) (vault_faults : V → ℕ) (eye_reads eye_faults : E → ℕ) (h : BasedList) (log log_now : LogView F) (old new : StockView V E S) where
  -- no job is taken
  pub left_untaken : (why : MergeRefused) → IsUntaken D h log log_now why → new ≡ old → LeavesBy D h log log_now old new tells bytes held vault_faults eye_reads (Err why)
  left_untaken (Stopped at) w same = absurd w
  left_untaken (Nothing at) w same = same
  left_untaken Memory w same = inl (w, same)
  left_untaken LogFault w same = inl (record { unlogged = w.0; doubt = w.1; stock = same })
  left_untaken Disk w same = absurd w
  left_untaken (BadSegment block) w same = absurd w
  left_untaken (MemoryLogged receipt) w same = inl (w, same)

  -- it isn't done
  module _ (out : StockView V E S) (job : JobView V E S) (is : IsOut old out job) (begun_is : IsBegun D (index_in log) h log log_now) (of_begin : IsJobOf (index_in log) (begun (index_in log) h) job.order) where
    back_undone : (why : MergeRefused) → (w : IsUndone tells bytes vault_faults eye_reads eye_faults job out new why) → IsBackUndone (index_in log) h old new w.worked
    back_undone why w = record {
      back = record {
        given = ap (λ (s : StockView V E S). s.tools) w.stock;
        of_begin = subst (λ (o : Order S). IsJobOf (index_in log) (begun (index_in log) h) o) (sym w.goes_on.order) of_begin;
        retired = ap (λ (s : StockView V E S). s.retired) w.stock ∙ out_retired old out job is;
      };
      undone = w.undone;
    }

    pub left_undone : (why : MergeRefused) → IsUndone tells bytes vault_faults eye_reads eye_faults job out new why → LeavesBy D h log log_now old new tells bytes held vault_faults eye_reads (Err why)
    left_undone (Stopped at) w = absurd w.by_answer
    left_undone (Nothing at) w = absurd w.by_answer
    left_undone Memory w = inr (begun_is, (w.worked, (back_undone Memory w).back))
    left_undone LogFault w = absurd w.by_answer
    left_undone Disk w = (w.worked, back_undone Disk w)
    left_undone (BadSegment block) w = record {
      job = w.worked;
      back = back_undone (BadSegment block) w;
      read = record { vault = job.vault; eyes = job.eyes; had = is.parts; read = w.by_answer.read; bad = w.by_answer.bad };
    }
    left_undone (MemoryLogged receipt) w = absurd w.by_answer

  -- it is done
  module _ (out : StockView V E S) (job done : JobView V E S) (is : IsOut old out job) (of_begin : IsJobOf (index_in log) (begun (index_in log) h) done.order) where
    -- and its End is logged
    pub left_merged : (merged : Merged) (mid : StockView V E S) (calm : Bool) → EndsBy out mid done (Ok merged) → IsClearing tells held vault_faults log_now mid new calm → LeavesBy D h log log_now old new tells bytes held vault_faults eye_reads (Ok merged)
    left_merged merged mid calm w cleared = record {
      job = done;
      between = mid;
      over = over (index_in log) h old out mid job done is of_begin w;
      calm = calm;
      cleared = cleared;
    }

-- its End isn't logged, or isn't shown
module _ {F V E S : Type 0} (D : Ghosts F) (tells : Type 0) (bytes : S → List ℕ) (held : V → Holding) (vault_faults : V → ℕ) (eye_reads eye_faults : E → ℕ) (sound : Bool) (h : BasedList) (log : LogView F) (old out : StockView V E S) (job done : JobView V E S) (is : IsOut old out job) (of_begin : IsJobOf (index_in log) (begun (index_in log) h) done.order) (before after : KeptView F V E S) (begun_is : IsBegun D (index_in log) h log before.journal.log) (numbered : done.order.number ≡ segment_for (index_in log) h) where
  has_ended : HasAppended D before.journal.log (End 0 done.order.number ∷ []) after.journal.log → after.journal.log.is_closed ≡ false → HasEnded D (index_in log) h log after.journal.log
  has_ended appended open_after = record {
    open_now = open_after;
    between = before.journal.log;
    begun_is = begun_is;
    appended = subst (λ n. HasAppended D before.journal.log (End 0 n ∷ []) after.journal.log) numbered appended;
  }

  in_doubt : IsInDoubt D after.journal.log (End 0 done.order.number ∷ []) → IsInDoubt D after.journal.log (end_for (index_in log) h ∷ [])
  in_doubt doubt = subst (λ n. IsInDoubt D after.journal.log (End 0 n ∷ [])) numbered doubt

  pub left_unended : IsSome done.segment → LeaveFiles D (files_of before.journal.log) (files_of after.journal.log) (IsBeforeOrAfter (held_of before.journal.log) (End 0 done.order.number ∷ [])) → (why : MergeRefused) → IsFinish D tells bytes held vault_faults eye_faults sound (begun (index_in log) h) done.order.number before after (Err why) → EndsBy out after.stock done (Err why) → LeavesBy D h log after.journal.log old after.stock tells bytes held vault_faults eye_reads (Err why)
  left_unended some run (Stopped at) w e = absurd e
  left_unended some run (Nothing at) w e = absurd e
  left_unended some run Memory w e = inr (
    subst (λ (x : LogView F). IsBegun D (index_in log) h log x) (sym w.log) begun_is,
    (done, returned (index_in log) h old out after.stock job done is of_begin e),
  )
  left_unended some run LogFault w e = inr (record {
    unlogged = record { between = before.journal.log; begun_is = begun_is; unlogged = w.unlogged };
    doubt = in_doubt (doubt_after D before.journal.log after.journal.log (End 0 done.order.number ∷ []) w.unlogged run);
    job = done;
    back = record { back = returned (index_in log) h old out after.stock job done is of_begin e; done = some };
  })
  left_unended some run Disk w e = absurd e
  left_unended some run (BadSegment block) w e = absurd e
  left_unended some run (MemoryLogged receipt) w e = inr (
    has_ended w.appended w.open_now,
    (done, over (index_in log) h old out after.stock job done is of_begin e),
  )
