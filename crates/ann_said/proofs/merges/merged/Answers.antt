use Rattle.ann_said.proofs.MergeReplies.{said_merged}
use Rattle.ann_said.proofs.merges.merged.Goals as goal

pub returns : goal.returns
returns c index h0 before known count segment at makes has is lines = said_merged index h0 before known lines count segment at makes has is
