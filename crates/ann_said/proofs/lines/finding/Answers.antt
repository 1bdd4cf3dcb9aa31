use Rattle.ann_said.proofs.Replying.{said_found}
use Rattle.ann_said.proofs.lines.finding.Goals as goal

pub returns : goal.returns
returns c index h0 known k l vector covers lines = said_found index h0 known lines k l vector covers
