use Rattle.std.proofs.Common.{sym}
use Rattle.ann_mdelete.proofs.Gone.{gone_is}
use Rattle.ann_mdelete.proofs.delete.Phase.is_gone.Goals as goal

pub returns : goal.returns
returns c = sym (gone_is c.args.self.now.gone.now c.args.row c.requires)
