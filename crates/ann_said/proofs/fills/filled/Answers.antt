use Rattle.ann_said.proofs.FillReplies.{said_filled}
use Rattle.ann_said.proofs.fills.filled.Goals as goal

pub returns : goal.returns
returns c index h0 known seed count first at some told makes ends lines = said_filled index h0 known lines seed count first at some told makes ends
