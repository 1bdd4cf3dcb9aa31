use Rattle.std.proofs.Common.{ap, ◌∙◌}
use Rattle.ann_tags.specs.Tags.{TagsView}
use Rattle.std.specs.FinMap as map
use Rattle.ann_tags.proofs.Maps.{removed}
use Rattle.ann_tags.proofs.tags.Tags.remove.Goals as goal

pub returns : goal.returns
returns c =
    ap (λ m. record { pids = m; spare = c.self.inside.spare }) (removed c.self.inside.pids.entries c.remove.new.self.entries c.args.tag c.remove.ensures.updates.0)
    ∙ ap (λ (s : TagsView). record { pids = map.remove s.pids c.args.tag; spare = s.spare }) c.self.view_is
