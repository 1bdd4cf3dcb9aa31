use Rattle.ann_kept.proofs.Keeps.{unnamed_working}
use Rattle.ann_kept.proofs.unnamed.working.Goals as goal

pub returns : goal.returns
returns g c index h order = unnamed_working index h order
