use Rattle.std.proofs.Common.{ap, ◌∙◌}
use Rattle.std.specs.FinMap.{get}
use Rattle.ann_tags.specs.Tags.{TagsView}
use Rattle.ann_tags.proofs.Maps.{gone}
use Rattle.ann_account.proofs.account.Account.enter.Goals as goal

pub add-requires-in-Replace-clause-absent : goal.add-requires-in-Replace-clause-absent
add-requires-in-Replace-clause-absent g c = ap (λ (t : TagsView). get t.pids c.in-Replace.tag) c.remove-in-Replace.ensures ∙ gone c.self-in-Replace.inside.tags.pids c.in-Replace.tag
