use Rattle.std.proofs.Common.{◌<◌, ℕ, List, sym, ap, ◌∙◌, subst}
use Rattle.std.specs.Prelude.{All}
use Rattle.ann_types.specs.Kept.{rule_of, covered}
use Rattle.ann_prune.proofs.Prunes.{covered_fresh, fresh_inside}
use Rattle.ann_prune.proofs.robust.is_left_out.Goals as goal

pub is_covered-requires-clause-kept : goal.is_covered-requires-clause-kept
is_covered-requires-clause-kept g c =
    let inside : ℕ → Type 0 = λ k. k < g.M.Metric.size c.args.metric.now in
    subst (All inside) (sym c.requires.kept.fresh_are) (fresh_inside inside c.args.newer c.args.kept.now c.requires.kept.inside)

pub returns-then-candidate-newer : goal.returns-then-candidate-newer
returns-then-candidate-newer g c =
    let apart : ℕ → ℕ → ℕ = g.M.Metric.apart c.args.metric.now in
    let row : ℕ = c.args.candidate.now.row in
    c.is_covered.ensures ∙ ap (λ (t : List ℕ). covered (rule_of c.args.params.now) apart c.args.p t row) c.requires.kept.fresh_are
    ∙ covered_fresh (rule_of c.args.params.now) apart c.args.p c.args.newer row c.args.kept.now (c.requires.new.spared c.if-candidate-newer.true)
