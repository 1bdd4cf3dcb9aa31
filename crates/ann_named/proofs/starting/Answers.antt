use Rattle.ann_named.proofs.Current.{base_current}
use Rattle.ann_named.proofs.starting.Goals as goal

pub returns : goal.returns
returns g c index h segment = base_current index h segment
