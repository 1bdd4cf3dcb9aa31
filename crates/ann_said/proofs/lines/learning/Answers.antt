use Rattle.ann_said.proofs.Adding.{said_learned}
use Rattle.ann_said.proofs.lines.learning.Goals as goal

pub returns : goal.returns
returns c = said_learned
