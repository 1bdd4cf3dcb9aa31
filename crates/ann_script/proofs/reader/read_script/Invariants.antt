use Rattle.std.proofs.Common.{◌≡◌, ◌≤◌, ◌-◌}
use Rattle.ann_outside.specs.Told.{TellsStill}
use Rattle.ann_script.specs.Script.{limit}
use Rattle.ann_script.proofs.Inputs.{Reading}
use Rattle.ann_script.proofs.reader.read_script.Given as goal

-- what was read stands in the draft, and no read failed
abbrev pub invariant-loop-count : goal.invariant-loop-count
invariant-loop-count g l = record {
  reading : Reading l.fn.rules (g.S.Source.left l.fn.input) (g.S.Source.left l.input) l.draft l.count;
  short : l.count ≤ limit;
  told : TellsStill (g.S.Source.left l.fn.input) (g.S.Source.left l.input);
  calm : g.S.Source.faults l.input ≡ g.S.Source.faults l.fn.input;
}

abbrev pub decreases-loop-count : goal.decreases-loop-count
decreases-loop-count g l = limit - l.count
