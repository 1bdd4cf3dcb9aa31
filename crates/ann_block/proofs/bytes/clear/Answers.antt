use Rattle.std.proofs.Common.{rules}
use Rattle.ann_block.specs.Block.{zeros}
use Rattle.ann_block.proofs.bytes.clear.Goals as goal

pub returns : goal.returns
unfolding zeros
returns c = c.fill.ensures.after (λ y same. search rules)
