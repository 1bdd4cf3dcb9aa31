-- One run of a delete list.
use Rattle.std.specs.Prelude.{ℕ, ◌^◌, List, [], Option, Some, None}
use Rattle.std.specs.Arc.{arc_slice_items}
use Rattle.std.specs.declared.sync.ArcSlice.{ArcSlice}
use Rattle.std.specs.declared.alloc.Global.{Global}
use Rattle.ann_dead.specs.Pids.{IsAscending, AreBelow}

-- the Pids of a run; one that was never made has none
abbrev pub pids_in : Option (ArcSlice ℕ Global) → List ℕ
pids_in (Some pids) = arc_slice_items pids
pids_in None = []

-- ascending, and each of 32 bits
abbrev pub IsRun : List ℕ → Type 0
IsRun pids = IsAscending pids × AreBelow (2 ^ 32) pids
