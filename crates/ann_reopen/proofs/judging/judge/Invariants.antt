use Rattle.std.proofs.Common.{◌≡◌, ◌≤◌, ◌+◌, take}
use Rattle.ann_types.specs.Index.{Index}
use Rattle.ann_types.specs.Lists.{BasedList}
use Rattle.ann_laws.specs.Replays.{with_only}
use Rattle.ann_reopen.specs.Judged.{IsListOn}
use Rattle.ann_reopen.specs.Reading.{reading_of}
use Rattle.ann_reopen.proofs.Knowing.{Knows}
use Rattle.ann_reopen.proofs.judging.judge.Given as goal

-- the entries so far are known, and so many of them count no further
abbrev pub invariant-loop-entry : goal.invariant-loop-entry
invariant-loop-entry l = record {
  knows : (index : Index) (h : BasedList) → IsListOn index l.params l.fn.basis l.entries h → Knows index (with_only h (take l.entry-index l.entries)) (reading_of l.reading);
  position : l.reading.position ≡ l.fn.basis.position + l.entry-index;
  points : l.reading.shape.rw ≤ l.entry-index;
  graphs : l.reading.shape.ros ≤ l.entry-index;
}
