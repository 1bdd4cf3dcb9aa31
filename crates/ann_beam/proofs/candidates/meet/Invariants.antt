use Rattle.std.proofs.Common.{take}
use Rattle.ann_beam.specs.Candidates.{HasMet}
use Rattle.ann_beam.proofs.candidates.meet.Given as goal

-- the neighbours so far were met
abbrev pub invariant-loop-i : goal.invariant-loop-i
invariant-loop-i g l = HasMet l.tables l.segment.items (take l.i l.node.neighbours) l.fn.guided l.guided
