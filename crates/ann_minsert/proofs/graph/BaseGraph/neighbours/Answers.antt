use Rattle.std.proofs.Common.{◌≡◌, ◌≢◌, ◌<◌, ℕ, List, sym, ap, subst, ◌∙◌, arith, length}
use Rattle.std.specs.List.{All}
use Rattle.ann_minsert.specs.Base.{BaseView}
use Rattle.ann_minsert.proofs.graph.BaseGraph.neighbours.Goals as goal

pub returns-clause-inside : goal.returns-clause-inside
returns-clause-inside c =
    let vectors_are : c.self.inside.decoded ≡ c.args.self.now.vectors = ap (λ (b : BaseView). b.vectors) c.self.view_is in
    let same : length c.self.inside.lists ≡ length c.args.self.now.vectors = c.self.invariant.lists.count ∙ ap length vectors_are in
    let row = c.requires in
    subst (λ (n : ℕ). All (λ other. other < n) c.get.result.now) same
    (subst (λ (t : List ℕ). All (λ other. other < length c.self.inside.lists) t) (sym c.get.ensures) (c.self.invariant.lists.links c.args.row (omega arith)).inside)

pub returns-clause-others : goal.returns-clause-others
returns-clause-others c =
    let vectors_are : c.self.inside.decoded ≡ c.args.self.now.vectors = ap (λ (b : BaseView). b.vectors) c.self.view_is in
    let same : length c.self.inside.lists ≡ length c.args.self.now.vectors = c.self.invariant.lists.count ∙ ap length vectors_are in
    let row = c.requires in
    subst (All (λ other. other ≢ c.args.row)) (sym c.get.ensures) (c.self.invariant.lists.links c.args.row (omega arith)).others
