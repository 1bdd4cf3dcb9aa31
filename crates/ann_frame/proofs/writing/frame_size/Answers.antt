use Rattle.std.proofs.Common.{arith}
use Rattle.ann_frame.proofs.Filling.{sizes_most}
use Rattle.ann_frame.proofs.writing.frame_size.Goals as goal

pub returns-clause-enough : goal.returns-clause-enough
returns-clause-enough c entries have few = let most = sizes_most c.args.d 64 entries have few in omega (arith, most, c.from.ensures)
