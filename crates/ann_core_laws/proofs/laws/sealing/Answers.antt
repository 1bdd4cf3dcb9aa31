use Rattle.ann_core_laws.proofs.Replies.{seals}
use Rattle.ann_core_laws.proofs.laws.sealing.Goals as goal

pub returns : goal.returns
returns c = seals
