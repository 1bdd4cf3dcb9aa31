use Rattle.ann_said.proofs.Replying.{said_stopped}
use Rattle.ann_said.proofs.lines.stopping.Goals as goal

pub returns : goal.returns
returns c index h0 known changes batch at stop lines = said_stopped index h0 known lines changes batch at stop
