use Rattle.std.proofs.Common.{◌<◌}
use Rattle.std.specs.Prelude.{All}
use Rattle.ann_graph_tests.proofs.prune.on_grid.Given as goal

abbrev pub invariant-loop-row : goal.invariant-loop-row
invariant-loop-row l = All (λ row. row < 9) l.candidates.rows
