use Rattle.std.proofs.Common.{sym}
use Rattle.ann_mdelete.proofs.Vectors.{count_vectors}
use Rattle.ann_mdelete.proofs.decoded.Decoded.len.Goals as goal

pub returns : goal.returns
returns c = sym (count_vectors _ _ _ c.args.self.now c.self.view_is)
