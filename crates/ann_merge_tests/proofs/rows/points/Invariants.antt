use Rattle.std.proofs.Common.{◌≡◌, ◌<◌, ◌+◌, map, length, All}
use Rattle.std.specs.List.{range_with_len}
use Rattle.ann_types.specs.Legal.{pid_end}
use Rattle.ann_merge_tests.proofs.rows.points.Given as goal

-- the points so far
abbrev pub invariant-loop-component : goal.invariant-loop-component
invariant-loop-component l = record {
  next : l.pid ≡ l.fn.first + l.component-index;
  pids : map (λ x. x.pid) l.points.items ≡ range_with_len l.fn.first l.component-index;
  small : All (λ x. x.pid < pid_end) l.points.items;
  vectors : All (λ x. length x.vector ≡ 1) l.points.items;
}
