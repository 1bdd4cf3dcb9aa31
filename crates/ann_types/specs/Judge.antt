-- Which changes an index accepts.
use Rattle.std.specs.Prelude.{ℕ, ◌+◌, List, [], ◌∷◌, ◌==◌, not, Option, Some, None, length, if◌then◌else◌}
use Rattle.ann_types.specs.Lists.{BasedList, with_entry, next_pid, is_live, live_of}
use Rattle.ann_types.specs.Legal.{pid_end}
use Rattle.ann_types.specs.declared.params.Params.{Params}
use Rattle.ann_types.specs.declared.change.Change.{Change}
use Rattle.ann_types.specs.declared.change.Change.TheVariants.{Insert, Delete, Replace}
use Rattle.ann_types.specs.declared.entry.Entry.{Entry}
use Rattle.ann_types.specs.declared.entry.Entry.TheVariants.{Insert as InsertEntry, Delete as DeleteEntry, Replace as ReplaceEntry}

-- why a change is refused: its vector's length isn't d (both are told), no Pid is left, its tag is live
-- already, or its tag isn't live
pub data Refusal : Type 0 where
  Dimension : ℕ → ℕ → Refusal
  Full : Refusal
  Present : ℕ → Refusal
  Absent : ℕ → Refusal

-- the entry of a client's change
abbrev pub entry_of : ℕ → Change → Entry
entry_of by (Insert tag vector) = InsertEntry by tag vector
entry_of by (Delete tag) = DeleteEntry by tag
entry_of by (Replace tag vector) = ReplaceEntry by tag vector

-- a vector of another length comes first, then want of a Pid, then what is said of the tag
abbrev pub judge_vector : Params → BasedList → List ℕ → Option Refusal → Option Refusal
judge_vector params h vector of_tag =
    if not (length vector == params.d) then Some (Dimension (length vector) params.d)
    else (if next_pid h == pid_end then Some Full else of_tag)

abbrev pub judge_live : BasedList → ℕ → Option Refusal
judge_live h tag = if is_live (live_of h) tag then None else Some (Absent tag)

abbrev pub judge_new : BasedList → ℕ → Option Refusal
judge_new h tag = if is_live (live_of h) tag then Some (Present tag) else None

-- Judge(h, change): the first refusal that holds, or none where the change is accepted
abbrev pub judge : Params → BasedList → Change → Option Refusal
judge params h (Insert tag vector) = judge_vector params h vector (judge_new h tag)
judge params h (Delete tag) = judge_live h tag
judge params h (Replace tag vector) = judge_vector params h vector (judge_live h tag)

-- JudgeAll(h, changes): each change of an update after h and the entries of the changes before it; the first refusal
-- with its index, which counts from 0, or none. The client is the one that the entries of earlier changes name
abbrev pub judge_from : Params → BasedList → ℕ → ℕ → List Change → Option (ℕ × Refusal)
judge_from params h by index [] = None
judge_from params h by index (c ∷ cs) = elim (judge params h c) [
  | Some refusal ↦ Some (index, refusal)
  | None ↦ judge_from params (with_entry h (entry_of by c)) by (index + 1) cs
]

abbrev pub judge_all : Params → BasedList → ℕ → List Change → Option (ℕ × Refusal)
judge_all params h by changes = judge_from params h by 0 changes
