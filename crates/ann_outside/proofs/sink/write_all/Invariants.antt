use Rattle.std.proofs.Common.{◌≡◌, ◌-◌, ◌≤◌, length, take}
use Rattle.std.specs.Io.KnownBytes.{Appends}
use Rattle.ann_outside.specs.Told.{TellsStill}
use Rattle.ann_outside.proofs.sink.write_all.Given as goal

-- the bytes so far are taken, and no write failed
abbrev pub invariant-loop-at : goal.invariant-loop-at
invariant-loop-at g l = record {
  within : l.at ≤ length l.bytes;
  bytes : Appends (g.K.Sink.taken l.fn.out) (g.K.Sink.taken l.out) (take l.at l.bytes);
  tells : TellsStill (g.K.Sink.taken l.fn.out) (g.K.Sink.taken l.out);
  calm : g.K.Sink.faults l.out ≡ g.K.Sink.faults l.fn.out;
}

abbrev pub decreases-loop-at : goal.decreases-loop-at
decreases-loop-at g l = length l.bytes - l.at
