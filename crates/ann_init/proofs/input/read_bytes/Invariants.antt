use Rattle.std.proofs.Common.{◌≡◌, ◌≤◌, ◌-◌, length}
use Rattle.std.specs.Io.KnownBytes.{Consumes}
use Rattle.ann_outside.specs.Told.{TellsStill}
use Rattle.ann_init.specs.Input.{limit}
use Rattle.ann_init.proofs.input.read_bytes.Given as goal

-- what was read stands in the bytes, and no read failed
abbrev pub invariant-loop-buffer : goal.invariant-loop-buffer
invariant-loop-buffer g l = record {
  read : Consumes (g.S.Source.left l.fn.input) (g.S.Source.left l.input) l.bytes.items;
  short : length l.bytes.items ≤ limit;
  told : TellsStill (g.S.Source.left l.fn.input) (g.S.Source.left l.input);
  calm : g.S.Source.faults l.input ≡ g.S.Source.faults l.fn.input;
}

abbrev pub decreases-loop-buffer : goal.decreases-loop-buffer
decreases-loop-buffer g l = limit - length l.bytes.items
