-- Removing what no list names.
use Rattle.std.proofs.Common.{◌≡◌, ◌≢◌, ◌⊎◌, ◌+◌, ◌*◌, ◌<◌, ℕ, get_or, Bool, true, false, List, ◌++◌, refl, sym, ap, subst, ◌∙◌, inl, inr}
use Rattle.std.specs.Prelude.{IsTrue, All}
use Rattle.std.specs.FinMap.{get}
use Rattle.std.proofs.lemmas.List.Elements.{All-from_recursion, recursion_from_All}
use Rattle.std.proofs.lemmas.List.Sorted.{All-permutation}
use Rattle.ann_types.specs.Codes.{Book}
use Rattle.ann_types.specs.Fold.{fold_of}
use Rattle.ann_types.specs.Graph.{Graph}
use Rattle.ann_types.specs.Index.{Index}
use Rattle.ann_types.specs.Lists.{BasedList}
use Rattle.ann_types.specs.declared.params.Params.{Params}
use Rattle.ann_types.proofs.Sets.{all_left, all_right}
use Rattle.ann_disk.specs.declared.file.LogFile.{Ghosts}
use Rattle.ann_log.specs.LogView.{LogView}
use Rattle.ann_vault.specs.Held.{Holding}
use Rattle.ann_segment.specs.Segment.{SegmentView}
use Rattle.ann_state.specs.State.{index_with, AreKept}
use Rattle.ann_named.specs.Named.{named_in}
use Rattle.ann_named.proofs.Entries.{last_named}
use Rattle.ann_kept.specs.Unnamed.{IsRetired, IsUnnamed}
use Rattle.ann_journal.specs.Journal.{JournalView, IsJournalOf, index_in}
use Rattle.ann_journal.specs.Safe.{IsSafe}
use Rattle.ann_stock.specs.Cleared.{HasCleared, HasClearedBy, HaveNot, IsCleared, IsWithout}
use Rattle.ann_stock.specs.Stock.{StockView, ToolsView, AtHand, GivenBack, Out}
use Rattle.ann_ledger.specs.Clearing.{IsClearing, IsClearingBy}
use Rattle.ann_ledger.specs.Ledger.{AreToolsFor, IsLedgerOf, MayGo}

-- what stands under the numbers that a list names stays there
kept_there : (params : Params) (book : Book) (h : BasedList) (old new : Holding) → get new h.base.segment ≡ get old h.base.segment → get new (named_in h) ≡ get old (named_in h) → AreKept old params book h → AreKept new params book h
kept_there params book h old new base last kept = record {
  base = λ some. let is = kept.base some in record { fits = is.fits; text = base ∙ is.text };
  merged = λ m.
      let is = kept.merged m in
      let number = last_named h.base.segment h m in record {
        fits = is.fits;
        text = subst (λ (n : ℕ). get new n ≡ get old n) number last ∙ is.text;
      };
}

-- segments of which each may go, and none is the base's, have not the number that a list names
not_named : {S : Type 0} (index : Index) (h : BasedList) (segments : List (SegmentView S)) → HaveNot h.base.segment segments → All (λ (s : SegmentView S). MayGo index h s.number) segments → HaveNot (named_in h) segments
not_named {S = S} index h segments none all = λ k d lt. by_case (get_or segments k d) (none k d lt) (all k d lt)
  where
    by_case : (s : SegmentView S) → s.number ≢ h.base.segment → MayGo index h s.number → s.number ≢ named_in h
    by_case s other (inl base) = absurd (other base)
    by_case s other (inr is) = λ same. is.unnamed.last (sym same)

module _ {S : Type 0} (P : SegmentView S → Type 0) where
  all_front : (xs ys : List (SegmentView S)) → All P (xs ++ ys) → All P xs
  all_front xs ys all = All-from_recursion P xs (all_left P xs ys (recursion_from_All P (xs ++ ys) all))

  all_rest : (xs ys : List (SegmentView S)) → All P (xs ++ ys) → All P ys
  all_rest xs ys all = All-from_recursion P ys (all_right P xs ys (recursion_from_All P (xs ++ ys) all))

module _ {F S : Type 0} (tells : Type 0) (h : BasedList) (j : JournalView F S) where
  abbrev index : Index
  index = index_in j.log

  abbrev Going : SegmentView S → Type 0
  Going s = MayGo index h s.number

  module _ (retired stay : List (SegmentView S)) (old new : Holding) (before now : ℕ) (calm : Bool) (c : IsCleared tells h.base.segment retired stay old new before now calm) (all : All Going retired) where
    parted : All Going (stay ++ c.removed ++ c.failed ++ c.named)
    parted = All-permutation Going retired (stay ++ c.removed ++ c.failed ++ c.named) c.parted all

    first_three : All Going (stay ++ c.removed ++ c.failed)
    first_three = all_front Going (stay ++ c.removed ++ c.failed) c.named parted

    first_two : All Going (stay ++ c.removed)
    first_two = all_front Going (stay ++ c.removed) c.failed first_three

    pub all_stay : All Going stay
    all_stay = all_front Going stay c.removed first_two

    abbrev Other : SegmentView S → Type 0
    Other s = s.number ≢ h.base.segment

    removed_other : HaveNot h.base.segment c.removed
    removed_other = all_rest Other stay c.removed (all_front Other (stay ++ c.removed) c.failed c.never_base)

    failed_other : HaveNot h.base.segment c.failed
    failed_other = all_rest Other (stay ++ c.removed) c.failed c.never_base

    pub still_kept : tells → AreKept old j.log.params j.log.book.book h → AreKept new j.log.params j.log.book.book h
    still_kept seals =
        kept_there j.log.params j.log.book.book h old new
        ((c.held seals).others h.base.segment removed_other failed_other)
        ((c.held seals).others (named_in h) (not_named index h c.removed removed_other (all_rest Going stay c.removed first_two)) (not_named index h c.failed failed_other (all_rest Going (stay ++ c.removed) c.failed first_three)))

-- a place is safe whose vault holds what the list names
abbrev pub Covers : {F S : Type 0} → Ghosts F → BasedList → JournalView F S → Type 0
Covers D h j = (v : Holding) → AreKept v j.log.params j.log.book.book h → IsSafe D v j.log h

module _ {F V E S : Type 0} (D : Ghosts F) (tells : Type 0) (bytes : S → List ℕ) (held : V → Holding) (faults : V → ℕ) (sound : Bool) (h : BasedList) (j : JournalView F S) where
  module _ (covers : IsTrue sound → Covers D h j) (old new : StockView V E S) (calm : Bool) (is : IsLedgerOf D tells bytes held sound h j old) where
    at_hand : (vault : V) (eyes : List E) → old.tools ≡ AtHand vault eyes → HasClearedBy tells held faults h.base.segment (AtHand vault eyes) old new calm → IsLedgerOf D tells bytes held sound h j new
    at_hand vault eyes tools c = record {
      told = is.told;
      journal_is = is.journal_is;
      older = is.older;
      tools =
          subst (λ (t : ToolsView V E S). AreToolsFor D tells bytes held sound j.log h t) (sym c.tools)
          (λ t. covers t (held c.after)
          (still_kept tells h j old.retired new.retired (held vault) (held c.after) (faults vault) (faults c.after) calm c.cleared is.retired (is.told t).1
          (subst (λ (x : ToolsView V E S). AreToolsFor D tells bytes held sound j.log h x) tools is.tools t).list));
      retired = all_stay tells h j old.retired new.retired (held vault) (held c.after) (faults vault) (faults c.after) calm c.cleared is.retired;
    }

    same_stock : new ≡ old → IsLedgerOf D tells bytes held sound h j new
    same_stock same = subst (λ (s : StockView V E S). IsLedgerOf D tells bytes held sound h j s) (sym same) is

    by_tools : (tools : ToolsView V E S) → old.tools ≡ tools → HasClearedBy tells held faults h.base.segment tools old new calm → IsLedgerOf D tells bytes held sound h j new
    by_tools (AtHand vault eyes) same c = at_hand vault eyes same c
    by_tools (GivenBack job) same c = same_stock c.0
    by_tools Out same c = same_stock c.0

    pub ledger_cleared : HasCleared tells held faults h.base.segment old new calm → IsLedgerOf D tells bytes held sound h j new
    ledger_cleared c = by_tools old.tools refl c
