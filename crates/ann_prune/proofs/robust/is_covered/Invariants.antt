use Rattle.std.proofs.Common.{◌≡◌, drop}
use Rattle.ann_types.specs.Kept.{rule_of, covered}
use Rattle.ann_prune.proofs.robust.is_covered.Given as goal

-- none so far leaves the candidate out
abbrev pub invariant-loop-k : goal.invariant-loop-k
invariant-loop-k g l = covered (rule_of l.params) (g.M.Metric.apart l.metric) l.p (drop l.k-index l.kept) l.candidate.row ≡ covered (rule_of l.params) (g.M.Metric.apart l.metric) l.p l.kept l.candidate.row
