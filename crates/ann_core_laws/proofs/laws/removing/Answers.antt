use Rattle.ann_core_laws.proofs.Replies.{removes}
use Rattle.ann_core_laws.proofs.laws.removing.Goals as goal

pub returns : goal.returns
returns c = removes
