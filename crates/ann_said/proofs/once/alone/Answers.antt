use Rattle.ann_said.proofs.Unaccompanied.{said_once}
use Rattle.ann_said.proofs.once.alone.Goals as goal

pub returns : goal.returns
returns c = said_once
