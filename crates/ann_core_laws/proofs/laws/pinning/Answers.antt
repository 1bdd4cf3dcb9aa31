use Rattle.ann_core_laws.proofs.Replies.{pins_rise}
use Rattle.ann_core_laws.proofs.laws.pinning.Goals as goal

pub returns : goal.returns
returns c = pins_rise
