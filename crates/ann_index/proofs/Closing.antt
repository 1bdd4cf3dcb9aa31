-- What comes out of an index that is closed.
use Rattle.std.proofs.Common.{◌≡◌, ◌∙◌, ℕ, Bool, true, false, List, refl, ap, subst, sym}
use Rattle.std.specs.Prelude.{Some, None, IsTrue}
use Rattle.std.specs.Bool.{MatchBool}
use Rattle.ann_types.specs.Lists.{BasedList}
use Rattle.ann_disk.specs.declared.file.LogFile.{Ghosts}
use Rattle.ann_fault.specs.Counts.{Rose}
use Rattle.ann_log.specs.LogView.{LogView}
use Rattle.ann_vault.specs.Held.{Holding}
use Rattle.ann_journal.specs.Safe.{IsSafe}
use Rattle.ann_stock.specs.Cleared.{HasClearedBy}
use Rattle.ann_stock.specs.Stock.{StockView, ToolsView, AtHand, GivenBack, Out, parts_in}
use Rattle.ann_ledger.specs.Clearing.{IsClearing, IsClearingBy}
use Rattle.ann_ledger.specs.Ledger.{AreToolsFor}
use Rattle.ann_index.specs.Closed.{HasClosed}
use Rattle.ann_index.specs.Index.{KeptView}

-- ---- pairs

pairs_in : {A B : Type 0} (p q : A × B) → Some p ≡ Some q → p ≡ q
pairs_in p q e = cc

pub vault_in : {V E : Type 0} (p q : V × List E) → Some p ≡ Some q → p.0 ≡ q.0
vault_in {V} {E} p q e = ap (λ (x : V × List E). x.0) (pairs_in p q e)

pub eyes_in : {V E : Type 0} (p q : V × List E) → Some p ≡ Some q → p.1 ≡ q.1
eyes_in {V} {E} p q e = ap (λ (x : V × List E). x.1) (pairs_in p q e)

-- ---- what was cleared

-- the vault and the eyes of a stock, before and after it was cleared
record Before {V E S : Type 0} (faults : V → ℕ) (stock : StockView V E S) (vault : V) (eyes : List E) (removed : Bool) : Type 0 where
  pub before : V
  pub had : parts_in stock.tools ≡ Some (before, eyes)
  pub cause : MatchBool removed (faults vault ≡ faults before) (Rose (faults before) (faults vault))

module _ {V E S : Type 0} (tells : Type 0) (held : V → Holding) (faults : V → ℕ) (vault : V) (eyes : List E) (removed : Bool) where
  untouched : (stock after : StockView V E S) → after ≡ stock → removed ≡ true → parts_in after.tools ≡ Some (vault, eyes) → Before faults stock vault eyes removed
  untouched stock after same calm parts = record {
    before = vault;
    had = subst (λ (s : StockView V E S). parts_in s.tools ≡ Some (vault, eyes)) same parts;
    cause = subst (λ b. MatchBool b (faults vault ≡ faults vault) (Rose (faults vault) (faults vault))) (sym calm) refl;
  }

  by_tools : (base : ℕ) (tools : ToolsView V E S) (stock after : StockView V E S) → stock.tools ≡ tools → HasClearedBy tells held faults base tools stock after removed → parts_in after.tools ≡ Some (vault, eyes) → Before faults stock vault eyes removed
  by_tools base (AtHand v es) stock after is w parts =
      let both : parts_in after.tools ≡ Some (w.after, es) = ap (λ (t : ToolsView V E S). parts_in t) w.tools in
      let one : Some (w.after, es) ≡ Some (vault, eyes) = sym both ∙ parts in
      let same : w.after ≡ vault = vault_in (w.after, es) (vault, eyes) one in
      let all : es ≡ eyes = eyes_in (w.after, es) (vault, eyes) one in
      record {
        before = v;
        had = ap (λ (t : ToolsView V E S). parts_in t) is ∙ ap (λ xs. Some (v, xs)) all;
        cause = subst (λ x. MatchBool removed (faults x ≡ faults v) (Rose (faults v) (faults x))) same w.cleared.rose;
      }
  by_tools base (GivenBack job) stock after is w parts = untouched stock after w.0 w.1 parts
  by_tools base Out stock after is w parts = untouched stock after w.0 w.1 parts

  by_closed : {F : Type 0} (b : Bool) (log : LogView F) (stock after : StockView V E S) → IsClearingBy tells held faults b log stock after removed → parts_in after.tools ≡ Some (vault, eyes) → Before faults stock vault eyes removed
  by_closed true log stock after w parts = untouched stock after w.0 w.1 parts
  by_closed false log stock after w parts = by_tools log.base.segment stock.tools stock after refl w parts

  pub has_closed : {F : Type 0} (kept : KeptView F V E S) (after : StockView V E S) → IsClearing tells held faults kept.journal.log kept.stock after removed → parts_in after.tools ≡ Some (vault, eyes) → HasClosed tells held faults kept vault eyes removed
  has_closed kept after w parts =
      let b = by_closed kept.journal.log.is_closed kept.journal.log kept.stock after w parts in
      record { after = after; cleared = w; parts = parts; before = b.before; had = b.had; cause = b.cause }

nothing : {A : Type 0} (a : A) → None ≡ Some a → ⊥
nothing a e = cc

-- the vault that comes out holds what it must
pub safe_out : {F V E S : Type 0} (D : Ghosts F) (tells : Type 0) (bytes : S → List ℕ) (held : V → Holding) (sound : Bool) (log : LogView F) (h : BasedList) (tools : ToolsView V E S) (vault : V) (eyes : List E) → AreToolsFor D tells bytes held sound log h tools → parts_in tools ≡ Some (vault, eyes) → IsTrue sound → IsSafe D (held vault) log h
safe_out D tells bytes held sound log h (AtHand v es) vault eyes is parts t =
    let same : v ≡ vault = vault_in (v, es) (vault, eyes) parts in
    subst (λ x. IsSafe D (held x) log h) same (is t)
safe_out D tells bytes held sound log h (GivenBack job) vault eyes is parts t =
    let same : job.vault ≡ vault = vault_in (job.vault, job.eyes) (vault, eyes) parts in
    subst (λ x. IsSafe D (held x) log h) same (is.safe t)
safe_out D tells bytes held sound log h Out vault eyes is parts t = absurd (nothing (vault, eyes) parts)
