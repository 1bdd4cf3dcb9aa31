use Rattle.std.proofs.Common.{length, sym, ap, ◌∙◌}
use Rattle.ann_segment.specs.Segment.{SegmentView}
use Rattle.ann_segment.proofs.Rows.{length-items}
use Rattle.ann_segment.proofs.segment.Segment.count.Goals as goal

pub returns : goal.returns
returns g c =
    sym (length-items c.self.inside.m c.self.inside.count c.self.inside.directory.items) ∙ ap (λ (s : SegmentView g.row.S.Denot). length s.items) c.self.view_is
