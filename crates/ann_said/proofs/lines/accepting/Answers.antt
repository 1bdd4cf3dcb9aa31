use Rattle.ann_said.proofs.Replying.{said_accepted}
use Rattle.ann_said.proofs.lines.accepting.Goals as goal

pub returns : goal.returns
returns c index h0 before known changes batch at has is lines = said_accepted index h0 before known lines changes batch at has is
