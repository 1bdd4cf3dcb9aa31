use Rattle.std.proofs.Common.{◌≡◌, ◌<◌, take, map}
use Rattle.std.specs.Prelude.{All}
use Rattle.ann_prune.specs.Rows.{row_of, IsMeasured}
use Rattle.ann_prune.proofs.robust.measure.Given as goal

-- those so far are measured
abbrev pub invariant-loop-i : goal.invariant-loop-i
invariant-loop-i g l = record {
  rows : map row_of l.items ≡ map row_of l.fn.items;
  inside : All (λ c. c.row < g.M.Metric.size l.metric) l.items;
  far : All (IsMeasured (g.M.Metric.apart l.metric l.p)) (take l.i l.items);
}
