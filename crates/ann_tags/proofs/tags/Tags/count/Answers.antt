use Rattle.std.proofs.Common.{ap, ◌∙◌, sym}
use Rattle.ann_tags.specs.Tags.{TagsView}
use Rattle.std.specs.FinMap.{len}
use Rattle.ann_tags.proofs.Maps.{count_is, differ_from_distinct}
use Rattle.ann_tags.proofs.tags.Tags.count.Goals as goal

pub returns : goal.returns
returns c =
    c.len.ensures.len
    ∙ sym (count_is c.self.inside.pids.entries (differ_from_distinct c.self.inside.pids.entries c.len.ensures.unique))
    ∙ ap (λ (s : TagsView). len s.pids) c.self.view_is
