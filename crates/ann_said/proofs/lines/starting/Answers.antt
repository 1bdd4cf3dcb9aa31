use Rattle.ann_said.proofs.Adding.{said_first}
use Rattle.ann_said.proofs.lines.starting.Goals as goal

pub returns : goal.returns
returns c = said_first
