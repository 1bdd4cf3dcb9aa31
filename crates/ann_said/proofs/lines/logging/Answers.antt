use Rattle.ann_said.proofs.Replying.{said_logged}
use Rattle.ann_said.proofs.lines.logging.Goals as goal

pub returns : goal.returns
returns c index h0 known changes batch at lines = said_logged index h0 known lines changes batch at
