-- When a view stands for a list of entries, and an operation for an entry.
use Rattle.std.specs.Prelude.{◌≡◌, ℕ, [], ◌∷◌}
use Rattle.ann_types.specs.Lists.{BasedList, length_of, next_pid, pids_at, live_of}
use Rattle.ann_types.specs.Fold.{fold_of}
use Rattle.ann_types.specs.Graph.{Graph}
use Rattle.ann_types.specs.declared.entry.Entry.{Entry}
use Rattle.ann_types.specs.declared.entry.Entry.TheVariants.{Insert as InsertEntry, Delete as DeleteEntry, Begin as BeginEntry, End as EndEntry, Replace as ReplaceEntry}
use Rattle.ann_view.specs.View.{IndexView, index_of, whole}
use Rattle.ann_view.specs.declared.op.Op.{Op}
use Rattle.ann_view.specs.declared.op.Op.TheVariants.{Insert, Delete, Replace, Begin, End, Close}

-- the long-term graph that a list leaves
abbrev pub lti_of : {S : Type 0} → IndexView S → BasedList → Graph
lti_of view h = (fold_of (index_of view) h).lti

-- a view stands for each list of its length and its next Pid that leaves what it has in memory
pub record StandsFor {S : Type 0} (view : IndexView S) (h : BasedList) : Type 0 where
  pub at : view.at ≡ length_of h
  pub next : view.next ≡ next_pid h
  pub state : fold_of (index_of view) h ≡ whole view (lti_of view h)

-- an operation stands for an entry behind a list: it names the Pid of a tag that the entry takes away, and the segment
-- of an End
abbrev pub IsEntryOf : {S : Type 0} → BasedList → Op S → Entry → Type 0
IsEntryOf h (Insert tag vector) entry = (by : ℕ) × (entry ≡ InsertEntry by tag vector)
IsEntryOf h (Delete pid) entry = (by : ℕ) × (tag : ℕ) × (entry ≡ DeleteEntry by tag) × (pids_at (live_of h) tag ≡ pid ∷ [])
IsEntryOf h (Replace tag gone vector) entry = (by : ℕ) × (entry ≡ ReplaceEntry by tag vector) × (pids_at (live_of h) tag ≡ gone ∷ [])
IsEntryOf h Begin entry = (by : ℕ) × (entry ≡ BeginEntry by)
IsEntryOf h (End segment) entry = (by : ℕ) × (entry ≡ EndEntry by segment.value.number)
IsEntryOf h Close entry = ⊥
