use Rattle.std.proofs.Common.{◌≤◌, ◌+◌, ◌*◌, ℕ, sym, ◌∙◌, arith, map, ap, refl}
use Rattle.std.proofs.lemmas.Simd.{length-zip2, Each1-weaker}
use Rattle.ann_lanes.specs.Lanes.{square}
use Rattle.ann_lanes.proofs.Differences.{sums_fit, sums_small}
use Rattle.ann_pq.proofs.Columns.{block_more}
use Rattle.ann_pq.proofs.turned.block_distances.Goals as goal

pub overflow_add-sums : goal.overflow_add-sums
overflow_add-sums c = sums_fit _ (65025 * c.loop-i.i) 65025 (λ a b p q. record { fits = omega arith }) _ _ c.loop-i.invariant.small c.squares_of-sums.ensures.small

pub loop-i-preserved : goal.loop-i-preserved
loop-i-preserved c = record {
  lanes = length-zip2 _ c.loop-i.sums c.squares_of-sums.result (c.loop-i.invariant.lanes ∙ sym c.squares_of-sums.ensures.lanes) ∙ c.loop-i.invariant.lanes;
  value = block_more c.args.part.now c.args.turned.now c.args.at c.loop-i.i _ c.loop-i.sums c.squares_of-sums.result c.loop-i-test.true refl (omega arith) c.loop-i.invariant.lanes
      (c.squares_of-sums.ensures.value ∙ ap (map square) c.differences_at.ensures.value) c.squares_of-sums.ensures.lanes c.loop-i.invariant.value;
  small = sums_small _ (65025 * c.loop-i.i) 65025 (65025 * (c.loop-i.i + 1)) (λ a b p q. omega arith) _ _ c.loop-i.invariant.small c.squares_of-sums.ensures.small;
}

pub returns-clause-small : goal.returns-clause-small
returns-clause-small c = Each1-weaker {A = ℕ} (λ sum. sum ≤ 65025 * c.loop-i.i) (λ sum. sum ≤ 66585600) (λ a l. omega arith) c.loop-i.sums c.loop-i.invariant.small
