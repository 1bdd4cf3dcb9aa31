-- Operations that lead a view from one list to a longer one.
use Rattle.std.specs.Prelude.{◌≡◌, ℕ, List, [], ◌∷◌}
use Rattle.ann_types.specs.Index.{Index}
use Rattle.ann_types.specs.Legal.{IsLegal}
use Rattle.ann_types.specs.Lists.{BasedList, with_entry, with_entries}
use Rattle.ann_types.specs.declared.entry.Entry.{Entry}
use Rattle.ann_types.specs.declared.entry.Entry.TheVariants.{End}
use Rattle.ann_types.specs.Fold.{fold_of, merge_of}
use Rattle.ann_segment.specs.Holds.{Holds}
use Rattle.ann_segment.specs.Segment.{SegmentView}
use Rattle.ann_view.specs.Holding.{BringsMerge}
use Rattle.ann_view.specs.Stands.{StandsFor, IsEntryOf}
use Rattle.ann_view.specs.Steps.{MayApply, MayEnd}
use Rattle.ann_view.specs.View.{IndexView, index_of}
use Rattle.ann_view.specs.declared.op.Op.{Op}
use Rattle.ann_account.specs.Account.{AccountView, IsAccountOf}

-- an operation stands for an entry behind a list, and each view of that list can go on by it
pub record IsStep {S : Type 0} (index : Index) (h : BasedList) (op : Op S) (e : Entry) : Type 0 where
  pub stands : IsEntryOf h op e
  pub applies : (view : IndexView S) → index_of view ≡ index → StandsFor view h → MayApply view op

abbrev pub AreSteps : {S : Type 0} → Index → BasedList → List (Op S) → List Entry → Type 0
AreSteps index h [] [] = Unit {0}
AreSteps index h [] (e ∷ es) = ⊥
AreSteps index h (op ∷ ops) [] = ⊥
AreSteps index h (op ∷ ops) (e ∷ es) = IsStep index h op e × AreSteps index (with_entry h e) ops es

-- these operations lead from a list to another
pub record Lead {S : Type 0} (index : Index) (shown h : BasedList) (ops : List (Op S)) : Type 0 where
  pub entries : List Entry
  pub whole : h ≡ with_entries shown entries
  pub steps : AreSteps index shown ops entries

-- the segment of an End among them holds the graph that its merge makes; `bytes` are those of a seal
abbrev pub Bring : {S : Type 0} → (S → List ℕ) → Index → BasedList → List (Op S) → List Entry → Type 0
Bring bytes index h [] es = Unit {0}
Bring bytes index h (op ∷ ops) [] = Unit {0}
Bring {S} bytes index h (op ∷ ops) (e ∷ es) =
    ((view : IndexView S) → index_of view ≡ index → BringsMerge bytes view h op) × Bring bytes index (with_entry h e) ops es

-- they lead from a list to another, and an End among them brings the graph of its merge
abbrev pub LeadOn : {S : Type 0} → (S → List ℕ) → Index → BasedList → BasedList → List (Op S) → Type 0
LeadOn bytes index shown h ops = (l : Lead index shown h ops) × Bring bytes index shown ops l.entries

-- ---- further entries

-- An account is of a list, and stays one that may be with further entries.
pub record CanNote {S : Type 0} (index : Index) (h : BasedList) (entries : List Entry) (account : AccountView S) : Type 0 where
  pub account_is : IsAccountOf index h account
  pub legal : IsLegal index (with_entries h entries)

-- An account was of a list, and is of the list with these entries; what waited led to the one, and leads to the other.
pub record IsNoted {S : Type 0} (index : Index) (h : BasedList) (entries : List Entry) (old new : AccountView S) : Type 0 where
  pub account_is : IsAccountOf index (with_entries h entries) new
  pub leads : (shown : BasedList) → Lead index shown h old.waiting → Lead index shown (with_entries h entries) new.waiting

-- what waited brought the graphs of merges, and so it does with these entries
abbrev pub StillLead : {S : Type 0} → (S → List ℕ) → Index → BasedList → List Entry → AccountView S → AccountView S → Type 0
StillLead bytes index h entries old new =
    (shown : BasedList) → LeadOn bytes index shown h old.waiting → LeadOn bytes index shown (with_entries h entries) new.waiting

-- the open merge of an account's list may end with a segment
pub record MayEndWith {S : Type 0} (index : Index) (h : BasedList) (by : ℕ) (segment : SegmentView S) (account : AccountView S) : Type 0 where
  pub note : CanNote index h (End by segment.number ∷ []) account
  pub ends : (view : IndexView S) → index_of view ≡ index → StandsFor view h → MayEnd view segment

-- a segment holds the graph that the open merge of a list makes
abbrev pub HoldsMerge : {S : Type 0} → (S → List ℕ) → Index → BasedList → SegmentView S → Type 0
HoldsMerge bytes index h segment =
    Holds index.params index.book (bytes segment.seal) segment (merge_of index (fold_of index h) (fold_of index h).begun)
