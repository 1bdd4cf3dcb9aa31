-- What opening the segment of a list's last merge finds.
use Rattle.std.specs.Prelude.{ℕ, List, Option, Some, None}
use Rattle.ann_types.specs.declared.params.Params.{Params}
use Rattle.ann_vault.specs.Held.{Holding}
use Rattle.ann_segment.specs.Segment.{SegmentView}
use Rattle.ann_reopen.specs.declared.judged.Merge.{Merge}
use Rattle.ann_base.specs.Front.{IsOpenedBelow, IsRightly}
use Rattle.ann_state.specs.declared.refused.ListRefused.{ListRefused}
use Rattle.ann_state.specs.declared.refused.ListRefused.TheVariants.{BadLog, BadSegment, Disk, Memory}

-- the segment of the last merge, and none where none has ended
abbrev pub IsMerged : {S : Type 0} → Type 0 → (S → List ℕ) → Holding → Params → Option Merge → Option (SegmentView S) → Type 0
IsMerged tells bytes held params None None = Unit {0}
IsMerged tells bytes held params None (Some segment) = ⊥
IsMerged tells bytes held params (Some merge) None = ⊥
IsMerged tells bytes held params (Some merge) (Some segment) = IsOpenedBelow tells bytes held params merge.segment merge.next segment

-- there is a last merge; told, its segment is refused for this block
abbrev pub IsMergeFault : Type 0 → Holding → Params → Option Merge → ℕ → Type 0
IsMergeFault tells held params None block = ⊥
IsMergeFault tells held params (Some merge) block = tells → IsRightly held params merge.segment merge.next block

abbrev pub IsMergeRefused : Type 0 → Holding → Params → Option Merge → ListRefused → Type 0
IsMergeRefused tells held params merge (BadSegment block) = IsMergeFault tells held params merge block
IsMergeRefused tells held params merge (BadLog entry) = ⊥
IsMergeRefused tells held params merge Disk = Unit {0}
IsMergeRefused tells held params merge Memory = Unit {0}
