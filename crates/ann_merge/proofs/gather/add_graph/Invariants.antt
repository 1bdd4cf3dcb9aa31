use Rattle.std.proofs.Common.{◌≡◌, ◌<◌, ◌^◌, ◌++◌, take, All}
use Rattle.ann_merge.specs.Gathered.{kept_rows}
use Rattle.ann_merge.proofs.gather.add_graph.Given as goal

-- the rows so far
abbrev pub invariant-loop-row : goal.invariant-loop-row
invariant-loop-row l = record {
  points : l.points.items ≡ l.fn.points.items ++ kept_rows l.gone (take l.row l.graph.nodes);
  tags : All (λ x. x.tag < 2 ^ 64) (kept_rows l.gone (take l.row l.graph.nodes));
}
