-- The outline that code keeps.
use Rattle.std.specs.Prelude.{Option, Some, None}
use Rattle.ann_laws.specs.Outlines.{Opening, Outline}
use Rattle.ann_reopen.specs.declared.shape.OpenMerge.{OpenMerge}
use Rattle.ann_reopen.specs.declared.shape.Shape.{Shape}

-- the open merge
abbrev pub opening_in : Option OpenMerge → Option Opening
opening_in None = None
opening_in (Some o) = Some (record { position = o.position; frozen = o.frozen; clean = o.clean })

-- the outline
abbrev pub drawn : Shape → Outline
drawn s = record { rw = s.rw; ros = s.ros; clean = s.clean; begun = opening_in s.merge }
