use Rattle.ann_named.proofs.Current.{end_current}
use Rattle.ann_named.proofs.ending.Goals as goal

pub returns : goal.returns
returns g c index h by segment = end_current index h by segment
