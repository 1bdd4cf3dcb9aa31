-- What judging a list of entries finds.
use Rattle.std.specs.Prelude.{◌≡◌, ◌≤◌, ◌<◌, ◌+◌, ℕ, false, true, List, length, MatchOption, Result, MatchResult}
use Rattle.std.specs.List.{list_any}
use Rattle.std.specs.Option.{option_map}
use Rattle.ann_types.specs.Index.{Index}
use Rattle.ann_types.specs.Lists.{BasedList, IsBaseOf, names_of, length_of, upto, next_pid, live_of}
use Rattle.ann_types.specs.Fold.{Begun, fold_of}
use Rattle.ann_types.specs.Legal.{IsLegal, is_legal}
use Rattle.ann_types.specs.declared.params.Params.{Params}
use Rattle.ann_types.specs.declared.entry.Entry.{Entry}
use Rattle.ann_laws.specs.Replays.{is_end, HasMerge, with_only}
use Rattle.ann_tags.specs.Tags.{map_of}
use Rattle.ann_reopen.specs.Gone.{gone_of}
use Rattle.ann_reopen.specs.declared.basis.Basis.{Basis}
use Rattle.ann_reopen.specs.declared.judged.Merge.{Merge}
use Rattle.ann_reopen.specs.declared.judged.Judged.{Judged}
use Rattle.ann_reopen.specs.declared.judged.JudgeRefused.{JudgeRefused}
use Rattle.ann_reopen.specs.declared.judged.JudgeRefused.TheVariants.{BadLog, Memory}

-- a list of an index has these entries, on a base of which this is known
pub record IsListOn (index : Index) (params : Params) (basis : Basis) (all : List Entry) (h : BasedList) : Type 0 where
  pub same : index.params ≡ params
  pub base : IsBaseOf params h.base
  pub position : h.base.position ≡ basis.position
  pub next : h.base.next ≡ basis.next
  pub tags : basis.tags.pids ≡ map_of (names_of h.base.graph.points)
  pub entries : h.entries ≡ all

-- the last merge of a list that ended
pub record IsLastMerge (h : BasedList) (m : Merge) : Type 0 where
  pub before : List Entry
  pub inside : List Entry
  pub behind : List Entry
  pub merge : HasMerge h before inside m.segment behind
  pub position : m.position ≡ h.base.position + length before
  pub end : m.end ≡ m.position + length inside + 1
  pub next : m.next ≡ next_pid (with_only h before)

-- a legal list, and what was found of it
pub record IsJudged (index : Index) (h : BasedList) (j : Judged) : Type 0 where
  pub legal : IsLegal index h
  pub tags : j.tags.pids ≡ map_of (live_of h)
  pub next : j.next ≡ next_pid h
  pub begun : j.begun ≡ option_map (λ (b : Begun). b.position) (fold_of index h).begun
  pub merge : MatchOption j.merge (list_any is_end h.entries ≡ false) (IsLastMerge h)
  pub gone : j.gone.items ≡ gone_of h

-- the list up to the entry at this position is legal, and with this entry it isn't
pub record IsFirstIllegal (index : Index) (h : BasedList) (entry : ℕ) : Type 0 where
  pub within : (h.base.position ≤ entry) × (entry < length_of h)
  pub before : is_legal index (upto h entry) ≡ true
  pub at : is_legal index (upto h (entry + 1)) ≡ false

abbrev pub IsRefused : Index → BasedList → JudgeRefused → Type 0
IsRefused index h (BadLog entry) = IsFirstIllegal index h entry
IsRefused index h Memory = Unit {0}

abbrev pub IsVerdict : Index → BasedList → Result Judged JudgeRefused → Type 0
IsVerdict index h result = MatchResult result (IsJudged index h) (IsRefused index h)
