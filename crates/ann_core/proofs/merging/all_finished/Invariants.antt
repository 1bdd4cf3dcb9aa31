use Rattle.std.proofs.Common.{◌≡◌, ◌-◌}
use Rattle.std.specs.List.{list_all, range_with_len}
use Rattle.ann_core.specs.Made.{is_finished_in, are_finished}
use Rattle.ann_core.proofs.merging.all_finished.Given as goal

-- all pieces so far are finished
abbrev pub invariant-loop-number : goal.invariant-loop-number
invariant-loop-number l = list_all (is_finished_in l.pieces) (range_with_len l.number (l.count - l.number)) ≡ are_finished l.pieces l.count
