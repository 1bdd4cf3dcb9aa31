use Rattle.std.proofs.Common.{◌≡◌}
use Rattle.std.specs.Prelude.{replicate}
use Rattle.ann_core.proofs.Starting.{no_pin}
use Rattle.ann_core.proofs.core_type.no_pins.Given as goal

-- so many readers have pinned nothing
abbrev pub invariant-loop : goal.invariant-loop
invariant-loop l = l.pins.items ≡ replicate l.counter no_pin
