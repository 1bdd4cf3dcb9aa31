use Rattle.std.proofs.Common.{◌-◌}
use Rattle.ann_greedy.specs.Rows.{ground_at}
use Rattle.ann_greedy.specs.Shows.{IsKept}
use Rattle.ann_greedy.proofs.Pooling.{Pooling}
use Rattle.ann_greedy.proofs.greedy.walk_noted.Given as goal

-- the pool shows the walk with the visits that were noted
abbrev pub invariant-loop-turn : goal.invariant-loop-turn
invariant-loop-turn g l = record {
  pooling : Pooling (ground_at (g.G.Graph.rows l.graph) l.query l.entry) l.fn.pool.limit (g.G.Graph.rows l.graph).count (l.turn-end - l.turn) l.visited.items l.pool;
  kept : IsKept (g.G.Graph.rows l.graph) l.query l.fn.pool l.pool;
}
