use Rattle.std.proofs.Common.{◌≡◌, ◌+◌, ◌-◌, ◌≤◌, length}
use Rattle.ann_log.specs.Anew.{StaysShut}
use Rattle.ann_log.proofs.Tails.{TailSoFar}
use Rattle.ann_log.proofs.write.put_tail.Given as goal

abbrev pub invariant-loop-start : goal.invariant-loop-start
invariant-loop-start g l = record {
  within : l.start ≤ length l.tail;
  sofar : TailSoFar g.F.LogFile.tells l.d l.gate (g.F.LogFile.seen l.initial.file) l.tail l.start l.last (g.F.LogFile.seen l.file);
  ends : g.F.LogFile.tells → length (g.F.LogFile.seen l.file) ≡ l.last + 1;
  shut : g.F.LogFile.tells → StaysShut (g.F.LogFile.unsynced l.file);
  past : g.F.LogFile.tells → g.F.LogFile.past l.file ≡ g.F.LogFile.past l.initial.file;
  calm : g.F.LogFile.faults l.file ≡ g.F.LogFile.faults l.initial.file;
}

abbrev pub decreases-loop-start : goal.decreases-loop-start
decreases-loop-start g l = length l.tail - l.start
