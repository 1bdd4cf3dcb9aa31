use Rattle.std.proofs.Common.{◌*◌, ◌∙◌, arith}
use Rattle.std.proofs.lemmas.Simd.{length-put_chunk}
use Rattle.ann_pq.proofs.Columns.{blocks_more, blocks_small}
use Rattle.ann_pq.proofs.Pushes.{small_all}
use Rattle.ann_pq.proofs.turned.distances.Goals as goal

pub loop-block-preserved : goal.loop-block-preserved
loop-block-preserved c =
    let size = c.loop-block.invariant.size in
    record {
      size = length-put_chunk (16 * c.loop-block.block) c.loop-block.out c.block_distances.result ∙ size;
      value = λ n l. blocks_more c.args.part.now c.args.turned.now (16 * c.loop-block.block) c.loop-block.out c.block_distances.result (omega arith) c.block_distances.ensures.lanes c.loop-block.invariant.value c.block_distances.ensures.value n (omega arith);
      small = λ n l. blocks_small 66585600 (16 * c.loop-block.block) c.loop-block.out c.block_distances.result (omega arith) c.block_distances.ensures.lanes c.loop-block.invariant.small c.block_distances.ensures.small n (omega arith);
    }

pub returns-clause-value : goal.returns-clause-value
returns-clause-value c = λ n l. c.loop-block.invariant.value n (omega arith)

pub returns-clause-small : goal.returns-clause-small
returns-clause-small c =
    let size = c.loop-block.invariant.size in
    small_all 66585600 c.loop-block.out (λ n l. c.loop-block.invariant.small n (omega arith))
