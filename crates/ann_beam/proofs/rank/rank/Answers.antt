use Rattle.std.proofs.Common.{◌≡◌, ℕ, Bool, true, false, not, cond, [], ◌∷◌, sym, ap, ap₂, ◌∙◌}
use Rattle.ann_types.specs.Order.{has}
use Rattle.ann_types.specs.Distance.{distance}
use Rattle.ann_beam.specs.Ranking.{Ranked, with_all, with_ranked}
use Rattle.ann_beam.proofs.rank.rank.Goals as goal

pub returns-then-contains-clause-points : goal.returns-then-contains-clause-points
returns-then-contains-clause-points g c =
    let x : Ranked = record { pid = c.args.pid; tag = c.args.node.now.tag; distance = distance c.args.query.now c.args.node.now.vector } in
    let there : has (g.D.Deleted.pids c.args.dead.now) c.args.pid ≡ true = sym c.contains.ensures ∙ c.if-contains.true in
    ap (λ (t : Bool). with_all c.args.ranking.now.limit (cond (not t) (x ∷ []) []) c.args.ranking.now.points) (sym there)

pub returns-clause-points : goal.returns-clause-points
returns-clause-points g c =
    let x : Ranked = record { pid = c.args.pid; tag = c.args.node.now.tag; distance = distance c.args.query.now c.args.node.now.vector } in
    let there : has (g.D.Deleted.pids c.args.dead.now) c.args.pid ≡ false = sym c.contains.ensures ∙ c.if-contains.false in
    c.add.ensures.points
    ∙ ap₂ (λ (tag far : ℕ). with_ranked c.args.ranking.now.limit (record { pid = c.args.pid; tag = tag; distance = far }) c.args.ranking.now.points) c.tag.ensures (c.squared.ensures.value ∙ ap (distance c.args.query.now) c.vector.ensures)
    ∙ ap (λ (t : Bool). with_all c.args.ranking.now.limit (cond (not t) (x ∷ []) []) c.args.ranking.now.points) (sym there)
