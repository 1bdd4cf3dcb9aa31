use Rattle.std.proofs.Common.{◌-◌, ℕ, List}
use Rattle.ann_greedy.specs.Rows.{ground_at}
use Rattle.ann_greedy.specs.Shows.{IsKept}
use Rattle.ann_greedy.proofs.Pooling.{Pooling}
use Rattle.ann_greedy.proofs.greedy.walk_from.Given as goal

-- the pool shows the walk, which has so many visits to go
abbrev pub invariant-loop-turn : goal.invariant-loop-turn
invariant-loop-turn g l = record {
  pooling : (visited : List ℕ) × Pooling (ground_at (g.G.Graph.rows l.graph) l.query l.entry) l.fn.pool.limit (g.G.Graph.rows l.graph).count (l.turn-end - l.turn) visited l.pool;
  kept : IsKept (g.G.Graph.rows l.graph) l.query l.fn.pool l.pool;
}
