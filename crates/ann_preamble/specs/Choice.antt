-- Which of two files is the log.
use Rattle.std.specs.Prelude.{nat_lt, Option, Some, None, if◌then◌else◌}
use Rattle.ann_preamble.specs.Preamble.{Said}
use Rattle.ann_preamble.specs.declared.choice.Side.{Side}
use Rattle.ann_preamble.specs.declared.choice.Side.TheVariants.{First, Second}

-- the one whose preamble has the greater generation, the first on a tie; none where neither has a preamble
abbrev pub chosen : Option Said → Option Said → Option Side
chosen None None = None
chosen None (Some second) = Some Second
chosen (Some first) None = Some First
chosen (Some first) (Some second) = if nat_lt first.fields.generation second.fields.generation then Some Second else Some First
