use Rattle.std.proofs.Common.{◌≡◌, ◌<◌, ℕ, sym, ap, ◌∙◌, subst}
use Rattle.ann_types.specs.Distance.{distance}
use Rattle.ann_pool.specs.Pool.{IsSameWhereThere, fresh, pooled}
use Rattle.ann_greedy.specs.Rows.{far_row}
use Rattle.ann_greedy.specs.Shows.{AreFar, AreRows}
use Rattle.ann_pool.proofs.Each.{all_take, all_offered}
use Rattle.ann_greedy.proofs.Pooled.{far_there}
use Rattle.ann_greedy.proofs.Pooling.{shows_known, shows_offered}
use Rattle.ann_greedy.proofs.greedy.offer.Goals as goal

pub returns-then-has_met-clause-shows : goal.returns-then-has_met-clause-shows
returns-then-has_met-clause-shows g c = λ visited order w. shows_known (far_row (g.G.Graph.rows c.args.graph.now) c.args.query.now) visited order c.args.pool.now c.args.row (c.has_met.ensures c.if-has_met.true) w

pub offer-requires : goal.offer-requires
offer-requires g c =
    let far : ℕ → ℕ = far_row (g.G.Graph.rows c.args.graph.now) c.args.query.now in
    let is : c.squared.result ≡ far c.args.row = c.squared.ensures.value ∙ ap (distance c.args.query.now) c.vector.ensures.vector in
    subst (λ d. IsSameWhereThere (fresh d c.args.row) c.args.pool.now.items) (sym is) (far_there far c.args.row c.args.pool.now.items c.requires.of.far)

pub returns-clause-kept : goal.returns-clause-kept
returns-clause-kept g c =
    let far : ℕ → ℕ = far_row (g.G.Graph.rows c.args.graph.now) c.args.query.now in
    let count : ℕ = (g.G.Graph.rows c.args.graph.now).count in
    let is : c.squared.result ≡ far c.args.row = c.squared.ensures.value ∙ ap (distance c.args.query.now) c.vector.ensures.vector in
    record {
      limit = c.offer.ensures.limit;
      far = subst (AreFar far) (sym c.offer.ensures.items) (all_take (λ i. i.distance ≡ far i.number) _ _ (all_offered (λ i. i.distance ≡ far i.number) _ _ is c.requires.of.far));
      rows = subst (AreRows count) (sym c.offer.ensures.items) (all_take (λ i. i.number < count) _ _ (all_offered (λ i. i.number < count) _ _ c.requires.row c.requires.of.rows));
    }

pub returns-clause-shows : goal.returns-clause-shows
returns-clause-shows g c = λ visited order w.
    let far : ℕ → ℕ = far_row (g.G.Graph.rows c.args.graph.now) c.args.query.now in
    let is : c.squared.result ≡ far c.args.row = c.squared.ensures.value ∙ ap (distance c.args.query.now) c.vector.ensures.vector in
    shows_offered far visited order c.args.pool.now c.offer.new.self c.args.row c.offer.ensures.limit
    (c.offer.ensures.items ∙ ap (λ d. pooled c.args.pool.now.limit (fresh d c.args.row) c.args.pool.now.items) is) c.offer.ensures.met w
