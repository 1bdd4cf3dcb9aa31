use Rattle.std.proofs.Common.{◌≡◌, ◌++◌, take}
use Rattle.ann_table.specs.Node.{graph_of}
use Rattle.ann_view.specs.Collected.{alive_in}
use Rattle.ann_view.proofs.collect.add_graph.Given as goal

-- the live points of the rows so far were added
abbrev pub invariant-loop-row : goal.invariant-loop-row
invariant-loop-row g l = l.out ≡ l.fn.out ++ alive_in l.dead (take l.row (graph_of (g.G.Named.nodes l.graph)).points)
