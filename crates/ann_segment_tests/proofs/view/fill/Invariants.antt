use Rattle.std.proofs.Common.{◌≡◌, ◌≤◌, ◌+◌, false}
use Rattle.ann_segment_tests.proofs.view.fill.Given as goal

abbrev pub invariant-loop-tag : goal.invariant-loop-tag
invariant-loop-tag l = record {
  going : l.view.closed ≡ false;
  same : l.view.params ≡ l.fn.view.params;
  begun : l.view.memory.begun ≡ l.fn.view.memory.begun;
  at : l.view.at + 1 ≡ l.tag;
  next : l.view.next + 1 ≡ l.tag;
  few : l.tag ≤ 6;
}
