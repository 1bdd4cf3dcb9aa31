use Rattle.std.proofs.Common.{take}
use Rattle.ann_greedy.specs.Shows.{IsKept, Meets}
use Rattle.ann_greedy.proofs.greedy.offer_all.Given as goal

-- the rows so far were offered
abbrev pub invariant-loop-row : goal.invariant-loop-row
invariant-loop-row g l = record {
  kept : IsKept (g.G.Graph.rows l.graph) l.query l.fn.pool l.pool;
  shows : Meets (g.G.Graph.rows l.graph) l.query (take l.row-index l.rows) l.fn.pool l.pool;
}
