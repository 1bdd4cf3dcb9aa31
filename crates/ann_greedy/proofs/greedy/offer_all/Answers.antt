use Rattle.std.proofs.Common.{ℕ, List, subst, sym, ◌∙◌}
use Rattle.ann_greedy.specs.Rows.{far_row}
use Rattle.ann_greedy.specs.Shows.{Shows}
use Rattle.ann_greedy.proofs.Pooling.{all_placed_one}
use Rattle.ann_greedy.proofs.greedy.offer_all.Goals as goal

pub loop-row-preserved : goal.loop-row-preserved
loop-row-preserved g c =
    let far : ℕ → ℕ = far_row (g.G.Graph.rows c.args.graph.now) c.args.query.now in
    record {
      kept = record { limit = c.offer.ensures.kept.limit ∙ c.loop-row.invariant.kept.limit; far = c.offer.ensures.kept.far; rows = c.offer.ensures.kept.rows };
      shows = λ visited order w.
          subst (λ (t : List ℕ). Shows far visited t c.offer.new.pool) (sym (all_placed_one far order c.args.rows.now c.loop-row.row-index 0 c.loop-row-test.true))
          (c.offer.ensures.shows visited _ (c.loop-row.invariant.shows visited order w));
    }
