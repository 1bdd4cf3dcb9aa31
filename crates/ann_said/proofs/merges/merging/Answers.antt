use Rattle.ann_said.specs.Table.{MayBegin}
use Rattle.ann_said.proofs.Adding.{made_learned}
use Rattle.ann_said.proofs.MergeReplies.{made_none, made_begin, made_last}
use Rattle.ann_said.proofs.merges.merging.Goals as goal

pub returns-clause-first : goal.returns-clause-first
returns-clause-first c = made_none

pub returns-clause-begun : goal.returns-clause-begun
returns-clause-begun c = made_begin

pub returns-clause-learned : goal.returns-clause-learned
returns-clause-learned c index h0 old new count more makes = made_learned index h0 old new count MayBegin more makes

pub returns-clause-last : goal.returns-clause-last
returns-clause-last c = made_last
