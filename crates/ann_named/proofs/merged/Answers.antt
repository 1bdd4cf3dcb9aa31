use Rattle.ann_named.proofs.LastEnd.{merged_current}
use Rattle.ann_named.proofs.merged.Goals as goal

pub returns : goal.returns
returns g c index h before inside behind segment = merged_current index h before inside behind segment
