use Rattle.std.proofs.Common.{◌+◌, ◌-◌, ◌*◌, drop, length-drop, arith}
use Rattle.ann_block.proofs.Listed.{chunks_are}
use Rattle.ann_block.proofs.neighbours.rows_at.Goals as goal

pub returns-clause-numbers : goal.returns-clause-numbers
returns-clause-numbers c =
    chunks_are (drop c.args.at c.args.block.now) c.args.count (c.args.at + 4 * c.args.count - c.args.at) _
    (omega (arith, length-drop c.args.at c.args.block.now, c.requires)) (omega arith) c.as_chunks.ensures.front
