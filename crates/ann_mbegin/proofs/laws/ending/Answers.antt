use Rattle.ann_mbegin.proofs.Ended.{may_end_merge}
use Rattle.ann_mbegin.proofs.laws.ending.Goals as goal

pub returns : goal.returns
returns g c index h order segment legal job is = may_end_merge g.S.Sealed.tells g.S.Sealed.bytes index h order segment legal job is
