use Rattle.ann_mphases.proofs.Widths.{decode_long}
use Rattle.ann_mphases.proofs.left.know_code.Goals as goal

pub returns : goal.returns
returns c = decode_long c.args.book.now c.known.ensures c.args.code.now c.requires (λ k h. (c.type_inv.code k).fits)
