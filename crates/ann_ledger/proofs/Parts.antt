-- The ledger and the view of the parts of an index that was opened.
use Rattle.std.proofs.Common.{◌≡◌, ◌+◌, ◌*◌, ◌<◌, ℕ, Bool, true, false, List, [], refl, sym, ap, subst, ◌∙◌}
use Rattle.std.specs.Prelude.{IsTrue, Option, All}
use Rattle.std.specs.Option.{option_map}
use Rattle.std.proofs.lemmas.Bool.{false≢true}
use Rattle.std.proofs.lemmas.List.Elements.{All-nil}
use Rattle.ann_types.specs.Fold.{Begun, fold_of}
use Rattle.ann_types.specs.Index.{Index}
use Rattle.ann_types.specs.Legal.{IsLegal}
use Rattle.ann_types.specs.Lists.{BasedList}
use Rattle.ann_types.proofs.Folds.{entries_none}
use Rattle.ann_tags.specs.Tags.{TagsView}
use Rattle.ann_disk.specs.declared.file.LogFile.{Ghosts}
use Rattle.ann_log.specs.LogView.{LogView}
use Rattle.ann_log.specs.declared.files.Files.{Files}
use Rattle.ann_pq.specs.Codebook.{CodebookView}
use Rattle.ann_types.specs.declared.params.Params.{Params}
use Rattle.ann_recover.specs.Opened.{IsSoundlyOpened}
use Rattle.ann_recover.specs.Recovered.{IsRecovered}
use Rattle.ann_vault.specs.Held.{Holding}
use Rattle.ann_segment.specs.Segment.{SegmentView}
use Rattle.ann_named.specs.Named.{IsCurrent}
use Rattle.ann_account.specs.Account.{AccountView}
use Rattle.ann_account.specs.Steps.{AreSteps, Bring}
use Rattle.ann_journal.specs.Journal.{JournalView, IsJournalOf, index_in}
use Rattle.ann_stock.specs.Stock.{StockView, ToolsView, AtHand}
use Rattle.ann_showing.specs.Showing.{Follows}
use Rattle.ann_showing.proofs.Stepping.{view_index}
use Rattle.ann_view.specs.View.{IndexView, index_of}
use Rattle.ann_ledger.specs.Ledger.{AreToolsFor, IsLedgerOf, MayGo}
use Rattle.ann_ledger.specs.Opening.{ArePartsOf}
use Rattle.ann_journal.specs.Safe.{IsSafe}

-- an account is of the view, the tags and the open Begin
pub record IsTold {S : Type 0} (view : IndexView S) (tags : TagsView) (begun : Option ℕ) (account : AccountView S) : Type 0 where
  pub at : account.at ≡ view.at
  pub next : account.next ≡ view.next
  pub begun_is : account.begun ≡ begun
  pub tags_are : account.tags ≡ tags
  pub none : account.waiting ≡ []

module _ {F S : Type 0} (D : Ghosts F) (tells : Type 0) (bytes : S → List ℕ) (sound : Bool) (h : BasedList) (log : LogView F) (vault : Holding) (view : IndexView S) (tags : TagsView) (begun : Option ℕ) (is : ArePartsOf D tells bytes sound h log vault view tags begun) (account : AccountView S) (told : IsTold view tags begun account) where
  abbrev pub journal : JournalView F S
  journal = record { log = log; account = account }

  same : index_of view ≡ index_in log
  same = view_index log view is.shown.index

  pub journal_of : IsJournalOf D h journal
  journal_of = record {
    legal = subst (λ (i : Index). IsLegal i h) same is.shown.legal;
    list = is.list;
    account_is = record {
      at = told.at ∙ is.shown.stands.at;
      next = told.next ∙ is.shown.stands.next;
      begun = told.begun_is ∙ subst (λ (i : Index). begun ≡ option_map (λ (b : Begun). b.position) (fold_of i h).begun) same is.shown.begun_is;
      tags = ap (λ (t : TagsView). t.pids) told.tags_are ∙ is.shown.tags_are;
    };
  }

  pub follows_of : Follows D bytes sound h h journal view
  follows_of = record {
    journal_is = journal_of;
    shows = record {
      index = is.shown.index;
      open_now = is.shown.open_now.1;
      stands = is.shown.stands;
      current = subst (λ (i : Index). IsCurrent i h view.segment) same is.shown.current;
      holds = is.holds;
    };
    leads = record {
      entries = [];
      whole = sym (entries_none h);
      steps = subst (λ ws. AreSteps (index_in log) h ws []) (sym told.none) tt;
    };
    brings = λ t. subst (λ ws. Bring bytes (index_in log) h ws []) (sym told.none) tt;
  }

pub ledger_of : {F V E S : Type 0} (D : Ghosts F) (tells : Type 0) (bytes : S → List ℕ) (held : V → Holding) (sound : Bool) (h : BasedList) (j : JournalView F S) (stock : StockView V E S) (vault : V) (eyes : List E) → (IsTrue sound → D.tells × tells) → IsJournalOf D h j → h.base.segment < 2 * h.base.position + 1 → stock.tools ≡ AtHand vault eyes → stock.retired ≡ [] → (IsTrue sound → IsSafe D (held vault) j.log h) → IsLedgerOf D tells bytes held sound h j stock
ledger_of D tells bytes held sound h j stock vault eyes told journal_is older tools none safe = record {
  told = told;
  journal_is = journal_is;
  older = older;
  tools = subst (λ (t : ToolsView _ _ _). AreToolsFor D tells bytes held sound j.log h t) (sym tools) safe;
  retired =
      subst (All (λ (s : SegmentView _). MayGo (index_in j.log) h s.number)) (sym none)
      (All-nil (λ (s : SegmentView _). MayGo (index_in j.log) h s.number));
}

-- ---- what opening a place gives

-- the parts of an index that was opened are of a list
pub parts_of : {F S : Type 0} (D : Ghosts F) (tells : Type 0) (bytes : S → List ℕ) (held after : Holding) (files : Files F) (log : LogView F) (view : IndexView S) (tags : TagsView) (begun : Option ℕ) → IsRecovered D tells bytes held after files log view tags begun → (h : BasedList) × ArePartsOf D tells bytes false h log after view tags begun
parts_of D tells bytes held after files log view tags begun is = (
  is.revived.h,
  record {
    told = λ t. absurd (false≢true t);
    list = is.revived.list;
    shown = is.revived.shown;
    holds = λ t. absurd (false≢true t);
    kept = λ t. absurd (false≢true t);
  },
)

-- those of a sound place are so where the place is sound
pub sound_parts : {F S : Type 0} (D : Ghosts F) (tells : Type 0) (bytes : S → List ℕ) (held after : Holding) (files : Files F) (params : Params) (book : CodebookView) (log : LogView F) (view : IndexView S) (tags : TagsView) (begun : Option ℕ) → D.tells → tells → (is : IsSoundlyOpened D tells bytes held after files params book log view tags begun) → ArePartsOf D tells bytes true is.recovered.revived.h log after view tags begun
sound_parts D tells bytes held after files params book log view tags begun told seals is = record {
  told = λ t. (told, seals);
  list = is.recovered.revived.list;
  shown = is.recovered.revived.shown;
  holds = λ t. is.holds;
  kept = λ t. is.kept;
}
