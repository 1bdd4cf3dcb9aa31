use Rattle.ann_said.proofs.MergeReplies.{said_nothing, said_running}
use Rattle.ann_said.proofs.merges.idling.Goals as goal

pub returns-clause-nothing : goal.returns-clause-nothing
returns-clause-nothing c index h0 known at has begun work lines = said_nothing index h0 known lines at has begun work

pub returns-clause-running : goal.returns-clause-running
returns-clause-running c index h0 known at begun has is lines = said_running index h0 known lines at begun has is
