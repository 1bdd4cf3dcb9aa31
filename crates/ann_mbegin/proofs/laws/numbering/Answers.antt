use Rattle.ann_mbegin.proofs.Lasts.{numbered_below}
use Rattle.ann_mbegin.proofs.laws.numbering.Goals as goal

pub returns : goal.returns
returns g c index h b segment = numbered_below index h b segment
