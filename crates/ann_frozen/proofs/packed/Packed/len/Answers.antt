use Rattle.std.proofs.Common.{◌∙◌}
use Rattle.ann_frozen.proofs.Rows.{seen_count}
use Rattle.ann_frozen.proofs.packed.Packed.len.Goals as goal

pub returns : goal.returns
returns c = c.len.ensures ∙ c.self.inside.labels.ok.0 ∙ seen_count c.self.inside.width c.self.inside.labels.items c.self.inside.bytes.items c.self.inside.numbers.items c.args.self.now c.self.view_is
