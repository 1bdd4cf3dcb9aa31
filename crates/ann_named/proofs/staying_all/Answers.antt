use Rattle.ann_named.proofs.Frames.{all_current}
use Rattle.ann_named.proofs.staying_all.Goals as goal

pub returns : goal.returns
returns g c index h es segment = all_current index h es segment
