use Rattle.std.proofs.Common.{◌≡◌, ◌+◌, ◌-◌, ◌++◌, length}
use Rattle.ann_script.specs.Generator.{inserts}
use Rattle.ann_script.proofs.filling.Filling.next_batch.Given as goal

-- the inserts so far, one a turn, and those to come are all that were
abbrev pub invariant-loop-index : goal.invariant-loop-index
invariant-loop-index l = record {
  all : l.changes ++ inserts l.self-inside.d l.generator.state (l.self-inside.first + (l.self-inside.done + l.index)) (l.self-inside.count - (l.self-inside.done + l.index)) ≡ l.fn.self;
  made : length l.changes ≡ l.index;
}
