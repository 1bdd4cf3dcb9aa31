use Rattle.ann_said.proofs.Replying.{said_judged}
use Rattle.ann_said.proofs.lines.judging.Goals as goal

pub returns : goal.returns
returns c index h0 known changes batch place why at has refused lines = said_judged index h0 known lines changes batch place why at has refused
