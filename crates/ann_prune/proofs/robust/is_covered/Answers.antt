use Rattle.std.proofs.Common.{sym, ◌∙◌}
use Rattle.ann_types.specs.Kept.{rule_of}
use Rattle.ann_prune.proofs.Prunes.{covered_here}
use Rattle.ann_prune.proofs.robust.is_covered.Goals as goal

pub returns-then-a-from : goal.returns-then-a-from
returns-then-a-from g c =
    let out = rw (c.from-a.ensures, c.from-b.ensures, c.from.ensures, c.from-in-loop-k.ensures, c.distance.ensures.apart, c.requires.candidate.measured.0) at c.if-a-from.true in
    sym (covered_here (rule_of c.args.params.now) (g.M.Metric.apart c.args.metric.now) c.args.p c.args.candidate.now.row c.args.kept.now c.loop-k.k-index c.loop-k-test.true out) ∙ c.loop-k.invariant
