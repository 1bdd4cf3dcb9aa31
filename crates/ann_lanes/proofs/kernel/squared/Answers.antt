use Rattle.std.proofs.Common.{◌≡◌, ◌+◌, ◌*◌, length, ℕ, sym, ap, ◌∙◌, arith, take, ◌/◌, w32}
use Rattle.std.proofs.lemmas.Simd.{length-zip2, sum_fits, sum_bound}
use Rattle.std.proofs.lemmas.List.{take_rest}
use Rattle.ann_types.specs.Distance.{distance}
use Rattle.ann_lanes.proofs.Differences.{sums_fit, sums_small, blocks_more, blocks_all, lanes_small}
use Rattle.ann_lanes.proofs.kernel.squared.Goals as goal

pub overflow_add-sums : goal.overflow_add-sums
overflow_add-sums c = sums_fit _ (65025 * c.loop-block.block) 65025 (λ a b p q. record { fits = omega arith }) _ _ c.loop-block.invariant.small c.squares_of-sums.ensures.small

pub loop-block-preserved : goal.loop-block-preserved
loop-block-preserved c = record {
  lanes = length-zip2 _ c.loop-block.sums c.squares_of-sums.result (c.loop-block.invariant.lanes ∙ sym c.squares_of-sums.ensures.lanes) ∙ c.loop-block.invariant.lanes;
  sum = blocks_more c.loop-block.block _ _ c.differences_at.result _ _ c.requires.same c.loop-block.invariant.lanes c.squares_of-sums.ensures.lanes c.loop-block.invariant.sum c.squares_of-sums.ensures.value c.differences_at.ensures.value;
  small = sums_small _ (65025 * c.loop-block.block) 65025 (65025 * (c.loop-block.block + 1)) (λ a b p q. omega arith) _ _ c.loop-block.invariant.small c.squares_of-sums.ensures.small;
}

pub overflow_add-result : goal.overflow_add-result
overflow_add-result c =
    let bound = sum_bound (65025 * c.loop-block.block) c.loop-block.sums c.loop-block.invariant.small in
    let lanes = ap (λ n. 65025 * c.loop-block.block * n) c.loop-block.invariant.lanes in
    sum_fits w32 0 c.loop-block.sums (omega arith)

pub overflow_add-result-2 : goal.overflow_add-result-2
overflow_add-result-2 c = record { fits = omega (arith, lanes_small (65025 * c.loop-block.block) c.loop-block.sums c.loop-block.invariant.lanes c.loop-block.invariant.small) }

pub returns-clause-value : goal.returns-clause-value
returns-clause-value c =
    let blocks : c.loop-block.block ≡ length c.args.x.now / 16 = omega arith in
    let whole : ℕ = 16 * (length c.args.x.now / 16) in
    blocks_all whole c.loop-block.sums c.args.x.now c.args.y.now c.squared_rest.result c.requires.same
    (c.loop-block.invariant.sum ∙ ap (λ n. distance (take (16 * n) c.args.x.now) (take (16 * n) c.args.y.now)) blocks)
    (simp take_rest at c.squared_rest.ensures.value)

pub returns-clause-small : goal.returns-clause-small
returns-clause-small c = omega (arith, lanes_small (65025 * c.loop-block.block) c.loop-block.sums c.loop-block.invariant.lanes c.loop-block.invariant.small)
