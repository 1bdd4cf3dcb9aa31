-- How a count of faults rises, by what is answered.
use Rattle.std.proofs.Common.{◌≡◌, ◌≢◌, ◌∙◌, ◌⊎◌, ◌≤◌, ℕ, Bool, true, List, inl, inr, refl, ap, subst, sym, arith}
use Rattle.std.specs.Prelude.{Option, Some, None, Result, Ok, Err, IsErrOf}
use Rattle.std.proofs.lemmas.Bool.{cases_eq}
use Rattle.ann_types.specs.Fold.{Begun, fold_of}
use Rattle.ann_types.specs.Index.{Index}
use Rattle.ann_types.specs.Lists.{BasedList}
use Rattle.ann_types.specs.declared.change.Change.{Change}
use Rattle.ann_types.specs.declared.params.Params.{Params}
use Rattle.ann_fault.specs.Counts.{next_count}
use Rattle.ann_fault.proofs.Counts.{next_later}
use Rattle.ann_segment.specs.Segment.{SegmentView}
use Rattle.ann_disk.specs.declared.file.LogFile.{Ghosts}
use Rattle.ann_log.specs.LogView.{LogView}
use Rattle.ann_vault.specs.Counted.{CountsFault}
use Rattle.ann_vault.specs.Held.{Holding}
use Rattle.ann_beam.specs.Found.{IsSearched}
use Rattle.ann_beam.specs.Quest.{Quest, Standing}
use Rattle.ann_beam.specs.Refusals.{IsBadIn}
use Rattle.ann_beam.specs.declared.refused.SearchRefused.{SearchRefused}
use Rattle.ann_beam.specs.declared.refused.SearchRefused.TheVariants as search
use Rattle.ann_view.specs.declared.search.Found.{Found}
use Rattle.ann_journal.specs.Journal.{index_in}
use Rattle.ann_journal.specs.declared.refused.Receipt.{Receipt}
use Rattle.ann_journal.specs.declared.refused.UpdateRefused.{UpdateRefused}
use Rattle.ann_journal.specs.declared.refused.UpdateRefused.TheVariants as update
use Rattle.ann_stock.specs.Stock.{ToolsView}
use Rattle.ann_index.specs.Index.{KeptView}
use Rattle.ann_index.specs.Merged.{HasEnded, IsBegun, IsBegunBy, IsMergeOf}
use Rattle.ann_index.specs.Updated.{IsUpdateOf}
use Rattle.ann_index.specs.declared.refusal.Merged.{Merged}
use Rattle.ann_index.specs.declared.refusal.MergeRefused.{MergeRefused}
use Rattle.ann_index.specs.declared.refusal.MergeRefused.TheVariants as merge

-- ---- one refusal is a fault

-- it is this one, and one more was counted
counts_one : {T E : Type 0} (fault : E) (before now : ℕ) → now ≡ next_count before → CountsFault (λ (why : E). why ≡ fault) (let r : Result T E = Err fault in r) before now
counts_one fault before now one = record { calm = tt; failed = λ is. one; refused = λ other. absurd (other refl) }

-- it is another
counts_none : {T E : Type 0} (why fault : E) (before now : ℕ) → (why ≡ fault → ⊥) → now ≡ before → CountsFault (λ (e : E). e ≡ fault) (let r : Result T E = Err why in r) before now
counts_none why fault before now other same = record { calm = tt; failed = λ is. absurd (other is); refused = λ no. same }

counts_calm : {T E : Type 0} (value : T) (fault : E) (before now : ℕ) → now ≡ before → CountsFault (λ (e : E). e ≡ fault) (Ok value) before now
counts_calm value fault before now same = record { calm = same; failed = tt; refused = tt }

-- so a count never falls
later_by : {T E : Type 0} (fault : E) (before now : ℕ) → ((why : E) → (why ≡ fault) ⊎ (why ≡ fault → ⊥)) → (r : Result T E) → CountsFault (λ (e : E). e ≡ fault) r before now → before ≤ now
later_by fault before now cases (Ok value) c = subst (λ n. before ≤ n) (sym c.calm) (omega arith)
later_by fault before now cases (Err why) c = elim (cases why) [
  | inl is ↦ subst (λ n. before ≤ n) (sym (c.failed is)) (next_later before)
  | inr other ↦ subst (λ n. before ≤ n) (sym (c.refused other)) (omega arith)
]

-- ---- searches

bad_is_calm : {S : Type 0} (tells : Type 0) (bytes : S → List ℕ) (params : Params) (block : ℕ) (old new : Standing) (segment : Option (SegmentView S)) → IsBadIn tells bytes segment params block old new → new.faults ≡ old.faults
bad_is_calm tells bytes params block old new None bad = absurd bad
bad_is_calm tells bytes params block old new (Some segment) bad = bad.calm

searched_counts : {S : Type 0} (tells : Type 0) (bytes : S → List ℕ) (quest : Quest S) (old new : Standing) (r : Result Found SearchRefused) → IsSearched tells bytes quest old new r → CountsFault (λ why. why ≡ search.Disk) r old.faults new.faults
searched_counts tells bytes quest old new (Ok found) s = counts_calm found search.Disk old.faults new.faults s.found.read.calm
searched_counts tells bytes quest old new (Err (search.Dimension got want)) s = absurd s.refused
searched_counts tells bytes quest old new (Err search.Disk) s = counts_one search.Disk old.faults new.faults s.refused.faulty
searched_counts tells bytes quest old new (Err (search.BadSegment block)) s = counts_none (search.BadSegment block) search.Disk old.faults new.faults (λ e. cc) (bad_is_calm tells bytes quest.params block old new quest.segment s.refused)
searched_counts tells bytes quest old new (Err search.Shut) s = absurd s.refused

differs_counts : (got want : ℕ) (before now : ℕ) (r : Result Found SearchRefused) → IsErrOf r (search.Dimension got want) → now ≡ before → CountsFault (λ why. why ≡ search.Disk) r before now
differs_counts got want before now r is same =
    subst (λ (x : Result Found SearchRefused). CountsFault (λ why. why ≡ search.Disk) x before now) (sym is)
    (counts_none (search.Dimension got want) search.Disk before now (λ e. cc) same)

-- whether or not the lengths differ
pub search_counts : (got want before now : ℕ) (r : Result Found SearchRefused) → (got ≢ want → IsErrOf r (search.Dimension got want) × (now ≡ before)) → (got ≡ want → CountsFault (λ why. why ≡ search.Disk) r before now) → CountsFault (λ why. why ≡ search.Disk) r before now
search_counts got want before now r differ searched = elim (cases_eq got want) [
  | inl same ↦ searched same
  | inr other ↦ differs_counts got want before now r (differ other).0 (differ other).1
]

search_cases : (why : SearchRefused) → (why ≡ search.Disk) ⊎ (why ≡ search.Disk → ⊥)
search_cases (search.Dimension got want) = inr (λ e. cc)
search_cases search.Disk = inl refl
search_cases (search.BadSegment block) = inr (λ e. cc)
search_cases search.Shut = inr (λ e. cc)

pub search_later : (before now : ℕ) (r : Result Found SearchRefused) → CountsFault (λ why. why ≡ search.Disk) r before now → before ≤ now
search_later before now r c = later_by search.Disk before now search_cases r c

-- ---- the log

-- a log's count of faults
abbrev count_of : {F : Type 0} → Ghosts F → LogView F → ℕ
count_of D log = D.faults log.log

same_count : {F : Type 0} (D : Ghosts F) (old new : LogView F) → new ≡ old → count_of D new ≡ count_of D old
same_count D old new same = ap (λ (log : LogView _). count_of D log) same

-- ---- updates

module _ {F V E S : Type 0} (D : Ghosts F) (tells : Type 0) (bytes : S → List ℕ) (held : V → Holding) (sound : Bool) (h shown : BasedList) (changes : List Change) (old new : KeptView F V E S) where
  abbrev UpdateCounts : Result Receipt UpdateRefused → Type 0
  UpdateCounts r = CountsFault (λ why. why ≡ update.LogFault) r (count_of D old.journal.log) (count_of D new.journal.log)

  unlogged : (why : UpdateRefused) → (why ≡ update.LogFault → ⊥) → new.journal.log ≡ old.journal.log → UpdateCounts (Err why)
  unlogged why other same = counts_none why update.LogFault (count_of D old.journal.log) (count_of D new.journal.log) other (same_count D old.journal.log new.journal.log same)

  pub update_counts : (r : Result Receipt UpdateRefused) → IsUpdateOf D tells bytes held sound h shown changes old new r → UpdateCounts r
  update_counts (Ok receipt) u = counts_calm receipt update.LogFault (count_of D old.journal.log) (count_of D new.journal.log) u.logged.appended.calm
  update_counts (Err (update.Stopped at)) u = unlogged (update.Stopped at) (λ e. cc) (ap (λ (k : KeptView F V E S). k.journal.log) u.same)
  update_counts (Err (update.Dimension index got want at)) u = unlogged (update.Dimension index got want at) (λ e. cc) u.log
  update_counts (Err (update.Full index at)) u = unlogged (update.Full index at) (λ e. cc) u.log
  update_counts (Err (update.Present index tag at)) u = unlogged (update.Present index tag at) (λ e. cc) u.log
  update_counts (Err (update.Absent index tag at)) u = unlogged (update.Absent index tag at) (λ e. cc) u.log
  update_counts (Err update.Memory) u = unlogged update.Memory (λ e. cc) u.log
  update_counts (Err update.LogFault) u = counts_one update.LogFault (count_of D old.journal.log) (count_of D new.journal.log) u.unlogged.fault
  update_counts (Err (update.MemoryLogged receipt)) u = counts_none (update.MemoryLogged receipt) update.LogFault (count_of D old.journal.log) (count_of D new.journal.log) (λ e. cc) u.logged.appended.calm

update_cases : (why : UpdateRefused) → (why ≡ update.LogFault) ⊎ (why ≡ update.LogFault → ⊥)
update_cases (update.Stopped at) = inr (λ e. cc)
update_cases (update.Dimension index got want at) = inr (λ e. cc)
update_cases (update.Full index at) = inr (λ e. cc)
update_cases (update.Present index tag at) = inr (λ e. cc)
update_cases (update.Absent index tag at) = inr (λ e. cc)
update_cases update.Memory = inr (λ e. cc)
update_cases update.LogFault = inl refl
update_cases (update.MemoryLogged receipt) = inr (λ e. cc)

pub update_later : (before now : ℕ) (r : Result Receipt UpdateRefused) → CountsFault (λ why. why ≡ update.LogFault) r before now → before ≤ now
update_later before now r c = later_by update.LogFault before now update_cases r c

-- ---- merges

begun_calm : {F : Type 0} (D : Ghosts F) (index : Index) (h : BasedList) (old : LogView F) (o : Option Begun) (new : LogView F) → IsBegunBy D index h old o new → count_of D new ≡ count_of D old
begun_calm D index h old None new begun = begun.appended.calm
begun_calm D index h old (Some b) new begun = same_count D old new begun

ended_calm : {F : Type 0} (D : Ghosts F) (index : Index) (h : BasedList) (old new : LogView F) → HasEnded D index h old new → count_of D new ≡ count_of D old
ended_calm D index h old new w = w.appended.calm ∙ begun_calm D index h old (fold_of index h).begun w.between w.begun_is

module _ {F V E S : Type 0} (D : Ghosts F) (tells : Type 0) (bytes : S → List ℕ) (held : V → Holding) (vault_faults : V → ℕ) (eye_faults : E → ℕ) (sound : Bool) (h shown : BasedList) (log : LogView F) (tools : ToolsView V E S) (new : KeptView F V E S) where
  abbrev MergeCounts : Result Merged MergeRefused → Type 0
  MergeCounts r = CountsFault (λ why. why ≡ merge.LogFault) r (count_of D log) (count_of D new.journal.log)

  refused_calm : (why : MergeRefused) → (why ≡ merge.LogFault → ⊥) → count_of D new.journal.log ≡ count_of D log → MergeCounts (Err why)
  refused_calm why other same = counts_none why merge.LogFault (count_of D log) (count_of D new.journal.log) other same

  begun_is_calm : IsBegun D (index_in log) h log new.journal.log → count_of D new.journal.log ≡ count_of D log
  begun_is_calm begun = begun_calm D (index_in log) h log (fold_of (index_in log) h).begun new.journal.log begun

  pub merge_counts : (r : Result Merged MergeRefused) → (log.is_closed ≡ true → new.journal.log ≡ log) → IsMergeOf D tells bytes held vault_faults eye_faults sound h shown log tools new r → MergeCounts r
  merge_counts (Ok merged) stopped w = counts_calm merged merge.LogFault (count_of D log) (count_of D new.journal.log) (ended_calm D (index_in log) h log new.journal.log w.logged)
  merge_counts (Err (merge.Stopped at)) stopped w = refused_calm (merge.Stopped at) (λ e. cc) (same_count D log new.journal.log (stopped w.closed))
  merge_counts (Err (merge.Nothing at)) stopped w = refused_calm (merge.Nothing at) (λ e. cc) (same_count D log new.journal.log w.same_log)
  merge_counts (Err merge.Memory) stopped w = refused_calm merge.Memory (λ e. cc) (elim w.left [
    | inl none ↦ same_count D log new.journal.log none.0
    | inr begun ↦ begun_is_calm begun.0
  ])
  merge_counts (Err merge.LogFault) stopped w = counts_one merge.LogFault (count_of D log) (count_of D new.journal.log) (elim w.left [
    | inl at_begin ↦ at_begin.0.unlogged.fault
    | inr at_end ↦ at_end.0.unlogged.fault ∙ ap next_count (begun_calm D (index_in log) h log (fold_of (index_in log) h).begun at_end.0.between at_end.0.begun_is)
  ])
  merge_counts (Err merge.Disk) stopped w = refused_calm merge.Disk (λ e. cc) (begun_is_calm w.0.begun_is)
  merge_counts (Err (merge.BadSegment block)) stopped w = refused_calm (merge.BadSegment block) (λ e. cc) (begun_is_calm w.0.begun_is)
  merge_counts (Err (merge.MemoryLogged receipt)) stopped w = refused_calm (merge.MemoryLogged receipt) (λ e. cc) (elim w.1 [
    | inl at_begin ↦ at_begin.logged.appended.calm
    | inr at_end ↦ ended_calm D (index_in log) h log new.journal.log at_end.logged
  ])

merge_cases : (why : MergeRefused) → (why ≡ merge.LogFault) ⊎ (why ≡ merge.LogFault → ⊥)
merge_cases (merge.Stopped at) = inr (λ e. cc)
merge_cases (merge.Nothing at) = inr (λ e. cc)
merge_cases merge.Memory = inr (λ e. cc)
merge_cases merge.LogFault = inl refl
merge_cases merge.Disk = inr (λ e. cc)
merge_cases (merge.BadSegment block) = inr (λ e. cc)
merge_cases (merge.MemoryLogged receipt) = inr (λ e. cc)

pub merge_later : (before now : ℕ) (r : Result Merged MergeRefused) → CountsFault (λ why. why ≡ merge.LogFault) r before now → before ≤ now
merge_later before now r c = later_by merge.LogFault before now merge_cases r c
