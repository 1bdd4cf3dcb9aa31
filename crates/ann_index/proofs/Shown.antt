-- What a view shows once some of what waited is shown.
use Rattle.std.proofs.Common.{◌≡◌, ◌∙◌, ◌≤◌, ℕ, suc, Bool, List, [], ◌∷◌, ◌++◌, refl, ap, ap₂, subst, sym, length, arith, length-append, append-nil, append_assoc}
use mathlib.Core.List.{IsPrefix}
use Rattle.ann_types.specs.Index.{Index}
use Rattle.ann_types.specs.Lists.{BasedList, BeginsWith, with_entries}
use Rattle.ann_types.specs.declared.entry.Entry.{Entry}
use Rattle.ann_account.specs.Steps.{AreSteps}
use Rattle.ann_disk.specs.declared.file.LogFile.{Ghosts}
use Rattle.ann_vault.specs.Held.{Holding}
use Rattle.ann_segment.specs.Segment.{SegmentView}
use Rattle.std.specs.Prelude.{All}
use Rattle.ann_view.specs.View.{IndexView}
use Rattle.ann_view.specs.declared.op.Op.{Op}
use Rattle.ann_journal.specs.Journal.{JournalView, IsJournalOf, index_in}
use Rattle.ann_stock.specs.Stock.{StockView}
use Rattle.ann_showing.specs.Showing.{Follows, HasShown}
use Rattle.ann_ledger.specs.Ledger.{AreToolsFor, IsLedgerOf, MayGo}
use Rattle.ann_index.specs.Index.{IsIndexFrom, IsIndexOf, kept_of}

-- ---- lists

-- of two fronts of a list, the one behind which more is left is a front of the other
prefix_by : (a b es es' : List Entry) → a ++ es ≡ b ++ es' → length es' ≤ length es → IsPrefix a b
prefix_by [] b es es' e le = (b, refl)
prefix_by (x ∷ a) [] es es' e le = absurd (omega (arith, length-append (x ∷ a) es, ap length e))
prefix_by (x ∷ a) (y ∷ b) es es' e le =
    let t : a ++ es ≡ b ++ es' = cc in
    let h : x ≡ y = cc in
    let p : IsPrefix a b = prefix_by a b es es' t le in
    (p.0, ap₂ (λ z zs. z ∷ zs) h p.1)

none_left : (es : List Entry) → length es ≡ 0 → es ≡ []
none_left [] e = refl
none_left (x ∷ es) e = absurd (omega arith)

nothing_more : (xs es : List Entry) → xs ≡ xs ++ es → length es ≡ 0
nothing_more xs es e = omega (arith, length-append xs es, ap length e)

pub without_more : (h : BasedList) → with_entries h [] ≡ h
without_more h = ap (λ es. let g : BasedList = record { base = h.base; entries = es } in g) (append-nil h.entries)

-- ---- lists that begin with others

pub begins_self : (h : BasedList) → BeginsWith h h
begins_self h = record { base = refl; entries = ([], append-nil h.entries) }

pub begins_with : (h : BasedList) (es : List Entry) → BeginsWith (with_entries h es) h
begins_with h es = record { base = refl; entries = (es, refl) }

pub begins_then : (f g h : BasedList) → BeginsWith g f → BeginsWith h g → BeginsWith h f
begins_then f g h p q = record {
  base = q.base ∙ p.base;
  entries = (p.entries.0 ++ q.entries.0, sym (append_assoc f.entries p.entries.0 q.entries.0) ∙ ap (λ xs. xs ++ q.entries.0) p.entries.1 ∙ q.entries.1);
}

-- each step stands for one entry
as_many : {S : Type 0} (index : Index) (h : BasedList) (ops : List (Op S)) (es : List Entry) → AreSteps index h ops es → length es ≡ length ops
as_many index h [] [] s = refl
as_many index h [] (e ∷ es) s = absurd s
as_many index h (op ∷ ops) [] s = absurd s
as_many index h (op ∷ ops) (e ∷ es) s = ap suc (as_many index (with_entries h (e ∷ [])) ops es s.1)

-- ---- views

module _ {F S : Type 0} (D : Ghosts F) (bytes : S → List ℕ) (sound : Bool) (h later : BasedList) (j : JournalView F S) (view : IndexView S) (f : Follows D bytes sound h later j view) where
  waits : length f.leads.entries ≡ length j.account.waiting
  waits = as_many (index_in j.log) later j.account.waiting f.leads.entries f.leads.steps

  -- where none waits, all is shown
  pub all_shown : length j.account.waiting ≡ 0 → later ≡ h
  all_shown none =
      let left : f.leads.entries ≡ [] = none_left f.leads.entries (waits ∙ none) in
      sym (f.leads.whole ∙ ap (with_entries later) left ∙ without_more later)

  -- where all is shown, none waits
  pub none_waits : later ≡ h → length j.account.waiting ≡ 0
  none_waits same = sym waits ∙ nothing_more later.entries f.leads.entries (ap (λ (g : BasedList). g.entries) (same ∙ f.leads.whole))

module _ {F S : Type 0} (D : Ghosts F) (bytes : S → List ℕ) (sound : Bool) (h shown later : BasedList) (j j' : JournalView F S) (view view' : IndexView S) (f : Follows D bytes sound h shown j view) (f' : Follows D bytes sound h later j' view') (s : HasShown j j') where
  fewer : length j'.account.waiting ≤ length j.account.waiting
  fewer = omega (arith, length-append s.shown j'.account.waiting, ap length s.rest)

  -- what was shown is the front of what is shown now
  pub shown_on : BeginsWith later shown
  shown_on =
      let whole : with_entries shown f.leads.entries ≡ with_entries later f'.leads.entries = sym f.leads.whole ∙ f'.leads.whole in
      let le : length f'.leads.entries ≤ length f.leads.entries = omega (arith, fewer, waits D bytes sound h shown j view f, waits D bytes sound h later j' view' f') in
      record {
        base = sym (ap (λ (g : BasedList). g.base) whole);
        entries = prefix_by shown.entries later.entries f.leads.entries f'.leads.entries (ap (λ (g : BasedList). g.entries) whole) le;
      }

  pub still_all : shown ≡ h → later ≡ h
  still_all same = all_shown D bytes sound h later j' view' f' (omega (arith, fewer, none_waits D bytes sound h shown j view f same))

-- ---- indices

module _ {F V E S : Type 0} (D : Ghosts F) (tells : Type 0) (bytes : S → List ℕ) (held : V → Holding) (sound : Bool) (h : BasedList) (j j' : JournalView F S) (stock : StockView V E S) where
  -- a ledger is of its list while what waits is shown
  pub ledger_shown : j'.log ≡ j.log → IsJournalOf D h j' → IsLedgerOf D tells bytes held sound h j stock → IsLedgerOf D tells bytes held sound h j' stock
  ledger_shown log is l = record {
    told = l.told;
    journal_is = is;
    older = l.older;
    tools = subst (λ x. AreToolsFor D tells bytes held sound x h stock.tools) (sym log) l.tools;
    retired = subst (λ x. All (λ (s : SegmentView S). MayGo (index_in x) h s.number) stock.retired) (sym log) l.retired;
  }

  -- what `show_all` leaves of an index, by its promise
  module _ (shown : BasedList) (view view' : IndexView S) (s : HasShown j j') (next : (later : BasedList) × Follows D bytes sound h later j' view') where
    pub index_later : IsIndexOf D tells bytes held sound h shown (kept_of j stock view) → IsIndexOf D tells bytes held sound h next.0 (kept_of j' stock view')
    index_later is = record { follows = next.1; ledger = ledger_shown s.log next.1.journal_is is.ledger; in_hand = is.in_hand }

    pub index_from : IsIndexOf D tells bytes held sound h shown (kept_of j stock view) → IsIndexFrom D tells bytes held sound h shown (kept_of j' stock view')
    index_from is = record {
      later = next.0;
      index = index_later is;
      on = shown_on D bytes sound h shown next.0 j j' view view' is.follows next.1 s;
    }

    pub index_all : j'.account.waiting ≡ [] → IsIndexOf D tells bytes held sound h shown (kept_of j stock view) → IsIndexOf D tells bytes held sound h h (kept_of j' stock view')
    index_all none is =
        subst (λ (g : BasedList). IsIndexOf D tells bytes held sound h g (kept_of j' stock view'))
        (all_shown D bytes sound h next.0 j' view' next.1 (ap length none)) (index_later is)
