use Rattle.std.proofs.Common.{◌≡◌}
use Rattle.ann_said.specs.Owned.{reach}
use Rattle.ann_said.specs.Table.{AreFirst}
use Rattle.ann_said.proofs.Adding.{made_learned}
use Rattle.ann_said.proofs.FillReplies.{filled_none, filled_next, filled_end}
use Rattle.ann_said.proofs.fills.filling.Goals as goal

pub returns-clause-first : goal.returns-clause-first
returns-clause-first c = filled_none

pub returns-clause-next : goal.returns-clause-next
returns-clause-next c = filled_next

pub returns-clause-end : goal.returns-clause-end
returns-clause-end c = filled_end

pub returns-clause-learned : goal.returns-clause-learned
returns-clause-learned c index h0 old new seed first done more makes = made_learned index h0 old new done (λ client ps. AreFirst index client seed first done ps) more makes

pub returns-clause-end_learned : goal.returns-clause-end_learned
returns-clause-end_learned c index h0 old new done at more makes = made_learned index h0 old new done (λ client ps. reach ps ≡ at) more makes
