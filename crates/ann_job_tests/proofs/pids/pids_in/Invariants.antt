use Rattle.std.proofs.Common.{◌≡◌, ◌++◌, map, take}
use Rattle.std.specs.Arc.{arc_value}
use Rattle.std.specs.List.{flat_map}
use Rattle.std.specs.Option.{option_map}
use Rattle.ann_segment.specs.Directory.{Item}
use Rattle.ann_table.specs.Node.{row_pids}
use Rattle.ann_frozen.specs.Frozen.{FrozenView}
use Rattle.ann_mlaws.specs.Rows.{old_items}
use Rattle.ann_job_tests.proofs.pids.pids_in.Given as goal

-- the graphs so far
abbrev pub invariant-loop-graph : goal.invariant-loop-graph
invariant-loop-graph l = l.pids.items
    ≡ map (λ (item : Item). item.0) (old_items (option_map arc_value l.old)) ++ flat_map (λ (f : FrozenView). row_pids f.nodes) (map arc_value (take l.graph-index l.frozen))
