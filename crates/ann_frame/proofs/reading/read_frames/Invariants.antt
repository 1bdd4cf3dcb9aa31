use Rattle.std.proofs.Common.{◌-◌, ◌<◌, ◌≤◌, length, take, drop}
use Rattle.ann_frame.specs.Frames.{AreFrames}
use Rattle.ann_frame.proofs.reading.read_frames.Given as goal

abbrev pub invariant-loop-at : goal.invariant-loop-at
invariant-loop-at l = record {
  behind : l.gate ≤ l.at;
  inside : l.at < length l.bytes;
  frames : AreFrames l.d (take (l.at - l.gate) (drop l.gate l.bytes)) l.entries;
}

abbrev pub decreases-loop-at : goal.decreases-loop-at
decreases-loop-at l = length l.bytes - l.at
