use Rattle.std.proofs.Common.{ℕ, List, [], take, refl, ap, subst, sym, ◌∙◌, arith}
use Rattle.ann_types.specs.Order.{placed, all_placed}
use Rattle.ann_pool.specs.Pool.{PoolView}
use Rattle.ann_segment.specs.Directory.{Item}
use Rattle.ann_greedy.specs.Shows.{Shows}
use Rattle.ann_greedy.proofs.Pooling.{all_placed_one}
use Rattle.ann_beam.specs.Candidates.{HasMet, far_row}
use Rattle.ann_beam.proofs.candidates.meet.Goals as goal

pub loop-i-init : goal.loop-i-init
loop-i-init g c =
    let tables : List (List ℕ) = c.args.tables.now in
    let items : List Item = c.args.segment.now.items in
    subst (λ (pool : PoolView). HasMet tables items [] c.args.guided.now pool) (sym c.keep_warm.ensures)
    (record { limit = refl; candidates = c.requires.candidates; shows = λ visited order w. w })

pub loop-i-preserved : goal.loop-i-preserved
loop-i-preserved g c =
    let far : ℕ → ℕ = far_row c.args.tables.now c.args.segment.now.items in
    record {
      limit = c.offer.ensures.limit ∙ c.loop-i.invariant.limit;
      candidates = c.offer.ensures.candidates;
      shows = λ visited order w.
          subst (λ (t : List ℕ). Shows far visited t c.offer.new.guided)
          (ap (λ (row : ℕ). placed far row (all_placed far order (take c.loop-i.i c.args.node.now.neighbours))) c.neighbour.ensures
          ∙ sym (all_placed_one far order c.args.node.now.neighbours c.loop-i.i 0 (omega (arith, c.loop-i-test.true, c.degree-i-end.ensures))))
          (c.offer.ensures.shows visited _ (c.loop-i.invariant.shows visited order w));
    }
