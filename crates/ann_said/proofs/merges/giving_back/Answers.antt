use Rattle.ann_said.proofs.MergeReplies.{said_given_back, said_merge_stopped, said_merge_logged}
use Rattle.ann_said.proofs.merges.giving_back.Goals as goal

pub returns-clause-caused : goal.returns-clause-caused
returns-clause-caused c index h0 known count word cause makes lines = said_given_back index h0 known lines count word cause makes

pub returns-clause-stopped : goal.returns-clause-stopped
returns-clause-stopped c index h0 known count at stop makes lines = said_merge_stopped index h0 known lines count at stop makes

pub returns-clause-logged : goal.returns-clause-logged
returns-clause-logged c index h0 known count at some few lines = said_merge_logged index h0 known lines count at some few
