use Rattle.std.proofs.Common.{◌≡◌, ◌<◌, ℕ, length, refl, sym, ap, ◌∙◌, subst}
use Rattle.ann_pool.specs.Pool.{IsSameWhereThere, fresh, pooled}
use Rattle.ann_greedy.specs.Shows.{AreFar, AreRows}
use Rattle.ann_pool.proofs.Each.{all_take, all_offered}
use Rattle.ann_greedy.proofs.Pooled.{far_there}
use Rattle.ann_greedy.proofs.Pooling.{shows_known, shows_offered}
use Rattle.ann_pq.specs.Tables.{looked_up}
use Rattle.ann_beam.specs.Candidates.{far_row}
use Rattle.ann_beam.proofs.candidates.offer.Goals as goal

pub returns-then-has_met : goal.returns-then-has_met
returns-then-has_met g c = record {
  limit = refl;
  candidates = c.requires.candidates;
  shows = λ visited order w. shows_known (far_row c.args.tables.now c.args.segment.now.items) visited order c.args.guided.now c.args.row (c.has_met.ensures c.if-has_met.true) w;
}

pub offer-requires : goal.offer-requires
offer-requires g c =
    let far : ℕ → ℕ = far_row c.args.tables.now c.args.segment.now.items in
    let is : c.distance.result ≡ far c.args.row = c.distance.ensures.sum ∙ ap (looked_up c.args.tables.now) c.code.ensures.value in
    subst (λ (d : ℕ). IsSameWhereThere (fresh d c.args.row) c.args.guided.now.items) (sym is) (far_there far c.args.row c.args.guided.now.items c.requires.candidates.far)

pub returns : goal.returns
returns g c =
    let far : ℕ → ℕ = far_row c.args.tables.now c.args.segment.now.items in
    let count : ℕ = length c.args.segment.now.items in
    let is : c.distance.result ≡ far c.args.row = c.distance.ensures.sum ∙ ap (looked_up c.args.tables.now) c.code.ensures.value in
    record {
      limit = c.offer.ensures.limit;
      candidates = record {
        far = subst (AreFar far) (sym c.offer.ensures.items) (all_take (λ i. i.distance ≡ far i.number) _ _ (all_offered (λ i. i.distance ≡ far i.number) _ _ is c.requires.candidates.far));
        rows = subst (AreRows count) (sym c.offer.ensures.items) (all_take (λ i. i.number < count) _ _ (all_offered (λ i. i.number < count) _ _ c.requires.row c.requires.candidates.rows));
      };
      shows = λ visited order w.
          shows_offered far visited order c.args.guided.now c.offer.new.self c.args.row c.offer.ensures.limit
          (c.offer.ensures.items ∙ ap (λ (d : ℕ). pooled c.args.guided.now.limit (fresh d c.args.row) c.args.guided.now.items) is) c.offer.ensures.met w;
    }
