use Rattle.ann_named.proofs.Current.{stays_current}
use Rattle.ann_named.proofs.staying.Goals as goal

pub returns : goal.returns
returns g c index h e segment = stays_current index h e segment
