use Rattle.ann_core.specs.Core.{seen}
use Rattle.ann_core.proofs.Starting.{goes_on}
use Rattle.ann_core.proofs.core_type.Core.step.Goals as goal

pub invariant_of-self : goal.invariant_of-self
invariant_of-self g c =
    let i = c.self.invariant in
    goes_on i.0 i.1 c.args.event.now (seen c.self.inside.state) (seen c.step.new.self) c.step.result i.2 (c.step.ensures.comes i.0 i.1 i.2) c.step.ensures.refused
