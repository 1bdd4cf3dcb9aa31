use Rattle.std.proofs.Common.{◌≡◌, drop, flat_map}
use Rattle.ann_types.specs.Order.{has}
use Rattle.ann_core_laws.specs.State.{of_pin}
use Rattle.ann_core.proofs.removal.is_pinned.Given as goal

-- none of the pins so far names the segment
abbrev pub invariant-loop-pin : goal.invariant-loop-pin
invariant-loop-pin l = has (flat_map (of_pin l.list) (drop l.pin-index l.pins)) l.number ≡ has (flat_map (of_pin l.list) l.pins) l.number
