use Rattle.std.proofs.Common.{ap, ◌∙◌, sym}
use Rattle.std.specs.FinMap as map
use Rattle.ann_tags.specs.Tags.{TagsView}
use Rattle.ann_tags.proofs.Maps.{get_is}
use Rattle.ann_tags.proofs.tags.Tags.get.Goals as goal

pub returns : goal.returns
returns c =
    c.copied.ensures
    ∙ c.get.ensures.value
    ∙ sym (get_is c.args.tag c.self.inside.pids.entries)
    ∙ ap (λ (s : TagsView). map.get s.pids c.args.tag) c.self.view_is
