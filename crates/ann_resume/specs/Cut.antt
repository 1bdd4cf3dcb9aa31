-- What is left of a list behind the Begin of its last merge.
use Rattle.std.specs.Prelude.{◌≡◌, ◌≤◌, ◌<◌, ◌+◌, ℕ, List, ◌++◌, Option, take, drop}
use Rattle.ann_types.specs.Index.{Index}
use Rattle.ann_types.specs.Legal.{IsLegal}
use Rattle.ann_types.specs.Lists.{BasedList}
use Rattle.ann_types.specs.declared.entry.Entry.{Entry}
use Rattle.ann_laws.specs.Replays.{rebased}
use Rattle.ann_reopen.specs.Gone.{gone_of}
use Rattle.ann_reopen.specs.Judged.{IsLastMerge}
use Rattle.ann_reopen.specs.declared.judged.Merge.{Merge}

-- the items between a Begin and its End, which stand at these places, and those behind the End
abbrev pub without_merge : {A : Type 0} → ℕ → ℕ → List A → List A
without_merge begin end items = drop (begin + 1) (take end items) ++ drop (end + 1) items

-- a merge stands in so many entries behind a position
pub record StandsIn (position : ℕ) (merge : Merge) (count : ℕ) : Type 0 where
  pub behind : position ≤ merge.position
  pub order : merge.position < merge.end
  pub within : merge.end < position + count

-- the list on the graph of its last merge
abbrev pub on_merge : (index : Index) (h : BasedList) (merge : Merge) → IsLastMerge h merge → BasedList
on_merge index h merge last = rebased index h last.before last.inside merge.segment last.behind

-- where these are the entries of a legal list and the Pids that they delete, what is left are those of the list on the graph of
-- its last merge
pub record IsTailOf (index : Index) (position : ℕ) (h : BasedList) (merge : Merge) (last : IsLastMerge h merge) (all : List Entry) (deleted : List (Option ℕ)) (left : List Entry) (left_gone : List (Option ℕ)) : Type 0 where
  pub entries : h.base.position ≡ position → h.entries ≡ all → left ≡ (on_merge index h merge last).entries
  pub gone : h.base.position ≡ position → IsLegal index h → h.entries ≡ all → deleted ≡ gone_of h → left_gone ≡ gone_of (on_merge index h merge last)
