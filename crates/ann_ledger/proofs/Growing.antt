-- A ledger stays one of its list, or of a longer one.
use Rattle.std.proofs.Common.{◌≡◌, ◌⊎◌, ◌+◌, ◌*◌, ◌<◌, ℕ, Bool, true, false, not, List, [], ◌∷◌, get_or, refl, sym, ap, ap₂, subst, ◌∙◌, inl, inr}
use Rattle.std.specs.List.{list_all}
use Rattle.std.specs.Prelude.{IsSome, IsTrue, Option, Some, None, All, is_some}
use Rattle.std.proofs.lemmas.Bool.{false≢true}
use Rattle.std.proofs.lemmas.List.Elements.{All-map}
use Rattle.ann_types.specs.Fold.{Begun, fold_of}
use Rattle.ann_types.specs.Index.{Index}
use Rattle.ann_types.specs.Legal.{IsLegal, may_follow}
use Rattle.ann_types.specs.Lists.{BasedList, ListBase, with_entries, with_entry}
use Rattle.ann_types.specs.declared.entry.Entry.{Entry}
use Rattle.ann_types.specs.declared.params.Params.{Params}
use Rattle.ann_laws.specs.Replays.{is_end}
use Rattle.ann_disk.specs.declared.file.LogFile.{Ghosts}
use Rattle.ann_log.specs.Appended.{IsSameLog}
use Rattle.ann_log.specs.LogView.{LogView}
use Rattle.ann_pq.specs.Codebook.{CodebookView}
use Rattle.ann_vault.specs.Held.{Holding}
use Rattle.ann_segment.specs.Segment.{SegmentView}
use Rattle.ann_named.proofs.Frames.{lasts_all}
use Rattle.ann_mlaws.specs.Plan.{IsLti}
use Rattle.ann_merge.specs.Job.{JobView, Order}
use Rattle.ann_mbegin.specs.Begun.{IsJobOf}
use Rattle.ann_mbegin.proofs.Kept.{fold_keeps}
use Rattle.ann_mbegin.proofs.Lasts.{job_lasts_all, lti_lasts_all}
use Rattle.ann_kept.specs.Unnamed.{IsRetired}
use Rattle.ann_kept.proofs.Retired.{stays_retired}
use Rattle.ann_journal.specs.Journal.{JournalView, IsJournalOf, index_in}
use Rattle.ann_journal.specs.Safe.{IsSafe}
use Rattle.ann_stock.specs.Stock.{StockView, ToolsView, AtHand, GivenBack, Out}
use Rattle.ann_ledger.specs.Ledger.{AreToolsFor, IsJobOn, IsLedgerOf, MayGo}

-- the index is the same in a log that goes on
pub same_index : {F : Type 0} (old new : LogView F) → IsSameLog old new → index_in new ≡ index_in old
same_index old new same = ap₂ (λ (p : Params) (b : CodebookView). let i : Index = record { params = p; book = b.book } in i) same.params same.book

-- an open merge stays open with entries that are no Ends
open_step : (index : Index) (h : BasedList) (e : Entry) (o : Option Begun) → (fold_of index h).begun ≡ o → may_follow index.params h (fold_of index h) e ≡ true → is_end e ≡ false → IsSome o → IsSome (fold_of index (with_entry h e)).begun
open_step index h e None is m n some = absurd (false≢true some)
open_step index h e (Some b) is m n some = ap (λ (x : Option Begun). is_some x) (fold_keeps index h e b m n is).begun

stays_open : (index : Index) (h : BasedList) (es : List Entry) → IsLegal index (with_entries h es) → list_all (λ e. not (is_end e)) es ≡ true → IsSome (fold_of index h).begun → IsSome (fold_of index (with_entries h es)).begun
stays_open index h es = lasts_all index (λ g. IsSome (fold_of index g).begun) (λ g e legal m none. open_step index g e (fold_of index g).begun refl m none) h es

module _ {F S : Type 0} (D : Ghosts F) (bytes : S → List ℕ) (sound : Bool) where
  -- What is true of a list's tools and retired segments is true of a longer list's.
  pub record GoesOn (old new : LogView F) (h g : BasedList) : Type 0 where
    pub same : index_in new ≡ index_in old
    pub safe : IsTrue sound → (v : Holding) → IsSafe D v old h → IsSafe D v new g
    pub jobs : (order : Order S) → IsJobOf (index_in old) h order → IsJobOf (index_in old) g order
    pub ltis : (order : Order S) → IsJobOf (index_in old) h order → IsLti bytes (index_in old) order.old (fold_of (index_in old) h).lti → IsLti bytes (index_in old) order.old (fold_of (index_in old) g).lti
    pub opens : IsSome (fold_of (index_in old) h).begun → IsSome (fold_of (index_in old) g).begun
    pub base : g.base ≡ h.base
    pub retired : (n : ℕ) → IsRetired (index_in old) h n → IsRetired (index_in old) g n

  -- the list is as it was
  pub stays : (h : BasedList) (old new : LogView F) → index_in new ≡ index_in old → (IsTrue sound → (v : Holding) → IsSafe D v old h → IsSafe D v new h) → GoesOn old new h h
  stays h old new same safe = record {
    same = same;
    safe = safe;
    jobs = λ order is. is;
    ltis = λ order is lti. lti;
    opens = λ is. is;
    base = refl;
    retired = λ n is. is;
  }

  -- the list has entries more, none of which is an End
  pub grows : (h : BasedList) (es : List Entry) (old new : LogView F) → index_in new ≡ index_in old → IsLegal (index_in old) (with_entries h es) → list_all (λ e. not (is_end e)) es ≡ true → (IsTrue sound → (v : Holding) → IsSafe D v old h → IsSafe D v new (with_entries h es)) → GoesOn old new h (with_entries h es)
  grows h es old new same legal none safe = record {
    same = same;
    safe = safe;
    jobs = λ order is. job_lasts_all (index_in old) h es order legal none is;
    ltis = λ order is lti. lti_lasts_all bytes (index_in old) h es order legal none is lti;
    opens = λ is. stays_open (index_in old) h es legal none is;
    base = refl;
    retired = λ n is. stays_retired (index_in old) h es n legal is;
  }

module _ {F S : Type 0} (D : Ghosts F) (bytes : S → List ℕ) (sound : Bool) (old new : LogView F) (h g : BasedList) (goes : GoesOn D bytes sound old new h g) where
  pub may_go : (n : ℕ) → MayGo (index_in old) h n → MayGo (index_in new) g n
  may_go n (inl base) = inl (base ∙ ap (λ b. b.segment) (sym goes.base))
  may_go n (inr is) = inr (subst (λ (i : Index). IsRetired i g n) (sym goes.same) (goes.retired n is))

  pub retired_on : (segments : List (SegmentView S)) → All (λ (s : SegmentView S). MayGo (index_in old) h s.number) segments → All (λ (s : SegmentView S). MayGo (index_in new) g s.number) segments
  retired_on segments all = λ k d lt. may_go (get_or segments k d).number (all k d lt)

module _ {F V E S : Type 0} (D : Ghosts F) (tells : Type 0) (bytes : S → List ℕ) (held : V → Holding) (sound : Bool) where
  module _ (old new : LogView F) (h g : BasedList) (goes : GoesOn D bytes sound old new h g) where
    pub job_on : (job : JobView V E S) → IsJobOn D tells bytes held sound old h job → IsJobOn D tells bytes held sound new g job
    job_on job is = record {
      of_begin = subst (λ (i : Index). IsJobOf i g job.order) (sym goes.same) (goes.jobs job.order is.of_begin);
      lti = λ t. subst (λ (i : Index). IsLti bytes i job.order.old (fold_of i g).lti) (sym goes.same) (goes.ltis job.order is.of_begin (is.lti t));
      safe = λ t. goes.safe t (held job.vault) (is.safe t);
    }

    pub tools_on : (tools : ToolsView V E S) → AreToolsFor D tells bytes held sound old h tools → AreToolsFor D tells bytes held sound new g tools
    tools_on (AtHand vault eyes) is = λ t. goes.safe t (held vault) (is t)
    tools_on (GivenBack job) is = job_on job is
    tools_on Out is = subst (λ (i : Index). IsSome (fold_of i g).begun) (sym goes.same) (goes.opens is)

  pub ledger_on : (h g : BasedList) (old new : JournalView F S) (stock : StockView V E S) → GoesOn D bytes sound old.log new.log h g → IsJournalOf D g new → IsLedgerOf D tells bytes held sound h old stock → IsLedgerOf D tells bytes held sound g new stock
  ledger_on h g old new stock goes journal_is is = record {
    told = is.told;
    journal_is = journal_is;
    older = subst (λ (b : ListBase). b.segment < 2 * b.position + 1) (sym goes.base) is.older;
    tools = tools_on old.log new.log h g goes stock.tools is.tools;
    retired = retired_on D bytes sound old.log new.log h g goes stock.retired is.retired;
  }
