use Rattle.std.proofs.Common.{◌≡◌}
use Rattle.ann_merge_tests.specs.Line.{line_lists}
use Rattle.ann_merge_tests.proofs.rows.line.Given as goal

-- the lists so far
abbrev pub invariant-loop-row : goal.invariant-loop-row
invariant-loop-row l = l.lists ≡ line_lists l.count l.row
