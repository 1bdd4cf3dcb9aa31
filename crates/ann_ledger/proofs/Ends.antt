-- The End of a merge.
use Rattle.std.proofs.Common.{◌≡◌, ◌≢◌, ◌⊎◌, ◌+◌, ◌*◌, ◌<◌, ◌≤◌, ℕ, Bool, true, false, List, [], ◌∷◌, ◌++◌, refl, sym, ap, subst, ◌∙◌, inl, inr, arith, eqb, eqb-true, eq-eqb, get_or}
use Rattle.std.specs.Prelude.{IsSome, IsTrue, MatchOption, Option, Some, None, All, option_to_list}
use Rattle.std.proofs.lemmas.Bool.{and_from, false≢true}
use Rattle.std.proofs.lemmas.List.Elements.{All-append, All-nil, All-cons}
use Rattle.ann_types.specs.Fold.{fold_of}
use Rattle.ann_types.specs.Index.{Index, IsBookOf}
use Rattle.ann_types.specs.Legal.{IsLegal, is_legal, may_follow, pid_end}
use Rattle.ann_types.specs.Lists.{BasedList, next_pid, with_entries, with_entry}
use Rattle.ann_types.specs.declared.entry.Entry.{Entry}
use Rattle.ann_types.specs.declared.entry.Entry.TheVariants.{End}
use Rattle.ann_types.proofs.Folds.{legal_push}
use Rattle.ann_disk.specs.declared.file.LogFile.{Ghosts}
use Rattle.ann_log.specs.LogView.{LogView}
use Rattle.ann_vault.specs.Held.{Holding}
use Rattle.ann_segment.specs.Segment.{SegmentView}
use Rattle.ann_state.specs.State.{AreKept}
use Rattle.ann_mlaws.specs.Plan.{IsLti}
use Rattle.ann_merge.specs.Job.{IsDone, JobView, KeepsNumbers, Order}
use Rattle.ann_mbegin.specs.Begun.{IsJobOf}
use Rattle.ann_mbegin.specs.Ended.{MayEndMerge}
use Rattle.ann_mbegin.proofs.Ended.{may_end_merge}
use Rattle.ann_kept.specs.Unnamed.{IsRetired}
use Rattle.ann_kept.proofs.Ends.{kept_ended}
use Rattle.ann_kept.proofs.Keeps.{kept_still, unnamed_working}
use Rattle.ann_kept.proofs.Retired.{ended_retired, stays_retired}
use Rattle.ann_account.specs.Steps.{HoldsMerge}
use Rattle.ann_journal.specs.Journal.{JournalView, IsJournalOf, index_in}
use Rattle.ann_journal.specs.Logged.{CanLogEnd, MayGrow}
use Rattle.ann_journal.specs.Safe.{IsSafe}
use Rattle.ann_stock.specs.Stock.{StockView, AtHand, Out}
use Rattle.ann_ledger.specs.Merging.{IsSameButRoom, IsUnfinished}
use Rattle.ann_ledger.specs.declared.refused.FinishWhy.{FinishWhy}
use Rattle.ann_ledger.specs.declared.refused.FinishWhy.TheVariants.{Stopped, Memory, LogFault}
use Rattle.ann_ledger.proofs.Clears.{Covers}
use Rattle.ann_ledger.proofs.Growing.{same_index}
use Rattle.ann_ledger.specs.Ledger.{AreToolsFor, IsJobOn, IsLedgerOf, MayGo}

-- what is true of a done job's segment
pub done_of : {V E S : Type 0} (tells : Type 0) (bytes : S → List ℕ) (held : V → Holding) (job : JobView V E S) (segment : SegmentView S) → job.segment ≡ Some segment → MatchOption job.segment (Unit {0}) (IsDone tells bytes job.order (held job.vault)) → IsDone tells bytes job.order (held job.vault) segment
done_of tells bytes held job segment is done =
    subst (λ (o : Option (SegmentView _)). MatchOption o (Unit {0}) (IsDone tells bytes job.order (held job.vault))) is done

module _ {F V E S : Type 0} (D : Ghosts F) (tells : Type 0) (bytes : S → List ℕ) (held : V → Holding) (sound : Bool) (h : BasedList) (by : ℕ) (j : JournalView F S) (job : JobView V E S) where
  abbrev index : Index
  index = index_in j.log

  -- ---- the End may be logged

  module _ (is : IsJournalOf D h j) (on : IsJobOn D tells bytes held sound j.log h job) (segment : SegmentView S) (done : IsDone tells bytes job.order (held job.vault) segment) where
    may : MayEndMerge tells bytes index h job.order segment
    may = may_end_merge tells bytes index h job.order segment is.legal on.of_begin done.merge

    legal_ended : IsLegal index (with_entries h (End by segment.number ∷ []))
    legal_ended = record {
      base = is.legal.base;
      entries =
          legal_push index h (End by segment.number)
          ∙ and_from (is_legal index h) (may_follow index.params h (fold_of index h) (End by segment.number)) is.legal.entries (may.follows by);
    }

    pub can_log_end : j.log.is_closed ≡ false → CanLogEnd D h by segment j
    can_log_end going = record {
      frame = record {
        journal_is = is;
        legal = legal_ended;
        open_now = going;
        some = omega arith;
        few = omega arith;
      };
      ends = record {
        note = record { account_is = is.account_is; legal = legal_ended };
        ends = may.views;
      };
    }

    -- where the place is sound, the vault holds what the list with the End names
    pub may_grow : IsTrue sound → tells → IsBookOf index.params index.book → next_pid h ≤ pid_end → MayGrow D (held job.vault) j.log h (End by segment.number ∷ [])
    may_grow t seals book small = record {
      safe = on.safe t;
      longer =
          subst (λ (n : ℕ). AreKept (held job.vault) index.params index.book (with_entries h (End by n ∷ []))) (sym done.merge.numbered)
          (kept_ended tells bytes index h job.order segment (held job.vault) by seals book is.legal small on.of_begin (on.lti t) done (on.safe t).list);
    }

    -- and the segment holds the graph that the merge makes
    pub holds_merge : IsTrue sound → tells → HoldsMerge bytes index h segment
    holds_merge t seals = may.holds seals (on.lti t)

  -- ---- what is retired

  old_may_go : IsLegal index h → h.base.segment < 2 * h.base.position + 1 → IsJobOn D tells bytes held sound j.log h job → (old : Option (SegmentView S)) → job.order.old ≡ old → All (λ (s : SegmentView S). MayGo index (with_entry h (End by job.order.number)) s.number) (option_to_list old)
  old_may_go legal older on None same = All-nil (λ (s : SegmentView S). MayGo index (with_entry h (End by job.order.number)) s.number)
  old_may_go legal older on (Some segment) same =
      All-cons (λ (s : SegmentView S). MayGo index (with_entry h (End by job.order.number)) s.number) segment [] (by_number (eqb segment.number h.base.segment) refl)
      (All-nil (λ (s : SegmentView S). MayGo index (with_entry h (End by job.order.number)) s.number))
    where
      by_number : (t : Bool) → eqb segment.number h.base.segment ≡ t → MayGo index (with_entry h (End by job.order.number)) segment.number
      by_number true is = inl (eqb-true segment.number h.base.segment is)
      by_number false is =
          inr (ended_retired index h job.order segment by legal older on.of_begin same
          (λ base. false≢true (sym is ∙ eq-eqb segment.number h.base.segment (sym base))))

  goes_on : IsLegal index (with_entry h (End by job.order.number)) → (n : ℕ) → MayGo index h n → MayGo index (with_entry h (End by job.order.number)) n
  goes_on legal n (inl base) = inl base
  goes_on legal n (inr is) = inr (stays_retired index h (End by job.order.number ∷ []) n legal is)

  -- the ledger of the list with the End
  pub ledger_ended : (new : JournalView F S) (before after : StockView V E S) → IsLedgerOf D tells bytes held sound h j before → IsJobOn D tells bytes held sound j.log h job → index_in new.log ≡ index → IsJournalOf D (with_entry h (End by job.order.number)) new → after.tools ≡ AtHand job.vault job.eyes → after.retired ≡ before.retired ++ option_to_list job.order.old → (IsTrue sound → IsSafe D (held job.vault) new.log (with_entry h (End by job.order.number))) → IsLedgerOf D tells bytes held sound (with_entry h (End by job.order.number)) new after
  ledger_ended new before after is on same journal_is tools retired safe =
      let legal : IsLegal index (with_entry h (End by job.order.number)) = subst (λ (i : Index). IsLegal i (with_entry h (End by job.order.number))) same journal_is.legal in
      record {
        told = is.told;
        journal_is = journal_is;
        older = is.older;
        tools = subst (λ t. AreToolsFor D tells bytes held sound new.log (with_entry h (End by job.order.number)) t) (sym tools) safe;
        retired =
            subst (λ (i : Index). All (λ (s : SegmentView S). MayGo i (with_entry h (End by job.order.number)) s.number) after.retired) (sym same)
            (subst (All (λ (s : SegmentView S). MayGo index (with_entry h (End by job.order.number)) s.number)) (sym retired)
            (All-append (λ (s : SegmentView S). MayGo index (with_entry h (End by job.order.number)) s.number) before.retired (option_to_list job.order.old)
            (λ k d lt. goes_on legal (get_or before.retired k d).number (is.retired k d lt))
            (old_may_go is.journal_is.legal is.older on job.order.old refl)));
      }

  -- ---- a refusal

  -- the ledger while the job is out, whatever becomes of the log
  pub ledger_out : (new : JournalView F S) (before after : StockView V E S) → IsLedgerOf D tells bytes held sound h j before → index_in new.log ≡ index → IsJournalOf D h new → before.tools ≡ Out → after.tools ≡ before.tools → after.retired ≡ before.retired → IsLedgerOf D tells bytes held sound h new after
  ledger_out new before after is same journal_is out tools retired = record {
    told = is.told;
    journal_is = journal_is;
    older = is.older;
    tools =
        subst (λ t. AreToolsFor D tells bytes held sound new.log h t) (sym (tools ∙ out))
        (subst (λ (i : Index). IsSome (fold_of i h).begun) (sym same)
        (subst (λ t. AreToolsFor D tells bytes held sound j.log h t) out is.tools));
    retired =
        subst (λ (i : Index). All (λ (s : SegmentView S). MayGo i h s.number) after.retired) (sym same)
        (subst (All (λ (s : SegmentView S). MayGo index h s.number)) (sym retired) is.retired);
  }

  -- what a refusal leaves
  pub record IsHeld (new : JournalView F S) (before after : StockView V E S) : Type 0 where
    pub same : index_in new.log ≡ index
    pub journal_is : IsJournalOf D h new
    pub stock : IsSameButRoom before after

  pub unfinished : (new : JournalView F S) (before after : StockView V E S) → IsJournalOf D h j → (why : FinishWhy) → IsUnfinished D h by job j new before after why → IsHeld new before after
  unfinished new before after is (Stopped at) w = record {
    same = ap (λ (x : JournalView F S). index_in x.log) w.journal;
    journal_is = subst (IsJournalOf D h) (sym w.journal) is;
    stock = record { tools = ap (λ (x : StockView V E S). x.tools) w.stock; retired = ap (λ (x : StockView V E S). x.retired) w.stock };
  }
  unfinished new before after is Memory w = record {
    same = ap (λ (l : LogView F). index_in l) w.untouched.log;
    journal_is = w.untouched.journal_is;
    stock = w.stock;
  }
  unfinished new before after is LogFault w = record {
    same = same_index j.log new.log w.unlogged.same_log;
    journal_is = w.unlogged.journal_is;
    stock = w.stock;
  }

  pub job_still : (new : LogView F) → index_in new ≡ index → (IsTrue sound → IsSafe D (held job.vault) new h) → IsJobOn D tells bytes held sound j.log h job → IsJobOn D tells bytes held sound new h job
  job_still new same safe on = record {
    of_begin = subst (λ (i : Index). IsJobOf i h job.order) (sym same) on.of_begin;
    lti = λ t. subst (λ (i : Index). IsLti bytes i job.order.old (fold_of i h).lti) (sym same) (on.lti t);
    safe = safe;
  }

  -- ---- while it is worked

  -- where a place is safe whose vault holds what the list names, a job stays right as it is worked
  pub worked_on : (stock : StockView V E S) (worked : JobView V E S) → (IsTrue sound → Covers D h j) → IsLedgerOf D tells bytes held sound h j stock → IsJobOn D tells bytes held sound j.log h job → worked.order ≡ job.order → (tells → KeepsNumbers job.order.number (held job.vault) (held worked.vault)) → IsJobOn D tells bytes held sound j.log h worked
  worked_on stock worked covers is on same keeps = record {
    of_begin = subst (IsJobOf index h) (sym same) on.of_begin;
    lti = λ t. subst (λ (o : Order S). IsLti bytes index o.old (fold_of index h).lti) (sym same) (on.lti t);
    safe = λ t.
        covers t (held worked.vault)
        (kept_still j.log.params j.log.book.book h job.order.number (held job.vault) (held worked.vault)
        (unnamed_working index h job.order is.journal_is.legal is.older on.of_begin) (keeps (is.told t).1) (on.safe t).list);
  }
