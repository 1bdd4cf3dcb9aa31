use Rattle.ann_said.proofs.Adding.{said_whole, say_from_each}
use Rattle.ann_said.proofs.lines.closing.Goals as goal

pub returns-clause-client : goal.returns-clause-client
returns-clause-client c = said_whole

pub returns-clause-all : goal.returns-clause-all
returns-clause-all c = say_from_each
