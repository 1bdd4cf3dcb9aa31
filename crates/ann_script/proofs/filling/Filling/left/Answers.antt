use Rattle.std.proofs.Common.{◌-◌, ◌+◌, sym, ap, ◌∙◌, length}
use Rattle.ann_script.proofs.Generating.{length-inserts}
use Rattle.ann_script.proofs.filling.Filling.left.Goals as goal

pub returns : goal.returns
returns c = sym (length-inserts c.self.inside.d c.self.inside.generator.state (c.self.inside.first + c.self.inside.done) (c.self.inside.count - c.self.inside.done)) ∙ ap length c.self.view_is
