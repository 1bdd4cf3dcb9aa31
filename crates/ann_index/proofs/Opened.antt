-- An index that was opened, and an index of some list.
use Rattle.std.proofs.Common.{◌≡◌, ℕ, Bool, true, false, List, inl, inr, subst, sym}
use Rattle.std.specs.Prelude.{Option, Result, Ok, Err}
use Rattle.std.proofs.lemmas.Bool.{false≢true}
use Rattle.ann_types.specs.Lists.{BasedList}
use Rattle.ann_types.specs.declared.change.Change.{Change}
use Rattle.ann_disk.specs.declared.file.LogFile.{Ghosts}
use Rattle.ann_log.specs.LogView.{LogView}
use Rattle.ann_tags.specs.Tags.{TagsView}
use Rattle.ann_vault.specs.Held.{Holding}
use Rattle.ann_view.specs.View.{IndexView}
use Rattle.ann_journal.specs.Journal.{JournalView, index_in}
use Rattle.ann_journal.specs.declared.refused.Receipt.{Receipt}
use Rattle.ann_journal.specs.declared.refused.UpdateRefused.{UpdateRefused}
use Rattle.ann_journal.specs.declared.refused.UpdateRefused.TheVariants.{Stopped, Dimension, Full, Present, Absent, Memory, LogFault, MemoryLogged}
use Rattle.ann_stock.specs.Stock.{StockView, ToolsView, AtHand, Out}
use Rattle.ann_showing.specs.Showing.{Follows}
use Rattle.ann_ledger.specs.Ledger.{IsLedgerOf}
use Rattle.ann_ledger.specs.Opening.{ArePartsOf}
use Rattle.ann_index.specs.Index.{KeptView, IsIndexOf, IsSomeIndex, kept_of}
use Rattle.ann_index.specs.Merged.{IsMergeOf, begun, ended}
use Rattle.ann_index.specs.Updated.{IsUpdateOf, changed}
use Rattle.ann_index.specs.declared.refusal.Merged.{Merged}
use Rattle.ann_index.specs.declared.refusal.MergeRefused.{MergeRefused}
use Rattle.ann_index.specs.declared.refusal.MergeRefused.TheVariants as merge

-- the parts of a sound place are parts of a place
pub parts_anyhow : {F S : Type 0} (D : Ghosts F) (tells : Type 0) (bytes : S → List ℕ) (sound : Bool) (h : BasedList) (log : LogView F) (held : Holding) (view : IndexView S) (tags : TagsView) (begun : Option ℕ) → ArePartsOf D tells bytes sound h log held view tags begun → ArePartsOf D tells bytes false h log held view tags begun
parts_anyhow D tells bytes sound h log held view tags begun is = record {
  told = λ t. absurd (false≢true t);
  list = is.list;
  shown = is.shown;
  holds = λ t. absurd (false≢true t);
  kept = λ t. absurd (false≢true t);
}

at_hand_in : {V E S : Type 0} (tools : ToolsView V E S) (vault : V) (eyes : List E) → tools ≡ AtHand vault eyes → tools ≡ Out → ⊥
at_hand_in tools vault eyes is out = cc

pub index_opened : {F V E S : Type 0} (D : Ghosts F) (tells : Type 0) (bytes : S → List ℕ) (held : V → Holding) (sound : Bool) (h : BasedList) (j : JournalView F S) (stock : StockView V E S) (view : IndexView S) (vault : V) (eyes : List E) → Follows D bytes sound h h j view → IsLedgerOf D tells bytes held sound h j stock → stock.tools ≡ AtHand vault eyes → IsIndexOf D tells bytes held sound h h (kept_of j stock view)
index_opened D tells bytes held sound h j stock view vault eyes f l is = record { follows = f; ledger = l; in_hand = at_hand_in stock.tools vault eyes is }

-- after an update it is of some list
pub some_updated : {F V E S : Type 0} (D : Ghosts F) (tells : Type 0) (bytes : S → List ℕ) (held : V → Holding) (h shown : BasedList) (changes : List Change) (old new : KeptView F V E S) (r : Result Receipt UpdateRefused) → IsIndexOf D tells bytes held false h shown old → IsUpdateOf D tells bytes held false h shown changes old new r → IsSomeIndex D tells bytes held new
some_updated D tells bytes held h shown changes old new (Ok receipt) is u = (changed h changes, changed h changes, u.index)
some_updated D tells bytes held h shown changes old new (Err (Stopped at)) is u = (h, shown, subst (λ k. IsIndexOf D tells bytes held false h shown k) (sym u.same) is)
some_updated D tells bytes held h shown changes old new (Err (Dimension index got want at)) is u = (h, h, u.still)
some_updated D tells bytes held h shown changes old new (Err (Full index at)) is u = (h, h, u.still)
some_updated D tells bytes held h shown changes old new (Err (Present index tag at)) is u = (h, h, u.still)
some_updated D tells bytes held h shown changes old new (Err (Absent index tag at)) is u = (h, h, u.still)
some_updated D tells bytes held h shown changes old new (Err Memory) is u = (h, u.still.later, u.still.index)
some_updated D tells bytes held h shown changes old new (Err LogFault) is u = (h, h, u.still)
some_updated D tells bytes held h shown changes old new (Err (MemoryLogged receipt)) is u = (changed h changes, u.index.later, u.index.index)

-- after a merge it is of some list
pub some_merged : {F V E S : Type 0} (D : Ghosts F) (tells : Type 0) (bytes : S → List ℕ) (held : V → Holding) (vault_faults : V → ℕ) (eye_faults : E → ℕ) (h shown : BasedList) (old new : KeptView F V E S) (r : Result Merged MergeRefused) → IsIndexOf D tells bytes held false h shown old → (old.journal.log.is_closed ≡ true → new ≡ old) → IsMergeOf D tells bytes held vault_faults eye_faults false h shown old.journal.log old.stock.tools new r → IsSomeIndex D tells bytes held new
some_merged D tells bytes held vf ef h shown old new (Ok m) is same u = (ended (index_in old.journal.log) h, ended (index_in old.journal.log) h, u.index)
some_merged D tells bytes held vf ef h shown old new (Err (merge.Stopped at)) is same u = (h, shown, subst (λ k. IsIndexOf D tells bytes held false h shown k) (sym (same u.closed)) is)
some_merged D tells bytes held vf ef h shown old new (Err (merge.Nothing at)) is same u = (h, h, u.index)
some_merged D tells bytes held vf ef h shown old new (Err merge.Memory) is same u =
    elim u.left [ inl w ↦ (h, w.1.later, w.1.index) | inr w ↦ (begun (index_in old.journal.log) h, begun (index_in old.journal.log) h, w.1) ]
some_merged D tells bytes held vf ef h shown old new (Err merge.LogFault) is same u =
    elim u.left [ inl w ↦ (h, h, w.1) | inr w ↦ (begun (index_in old.journal.log) h, begun (index_in old.journal.log) h, w.1) ]
some_merged D tells bytes held vf ef h shown old new (Err merge.Disk) is same u = (begun (index_in old.journal.log) h, begun (index_in old.journal.log) h, u.0.index)
some_merged D tells bytes held vf ef h shown old new (Err (merge.BadSegment block)) is same u = (begun (index_in old.journal.log) h, begun (index_in old.journal.log) h, u.0.index)
some_merged D tells bytes held vf ef h shown old new (Err (merge.MemoryLogged receipt)) is same u =
    elim u.1 [ inl w ↦ (begun (index_in old.journal.log) h, w.index.later, w.index.index) | inr w ↦ (ended (index_in old.journal.log) h, w.index.later, w.index.index) ]
