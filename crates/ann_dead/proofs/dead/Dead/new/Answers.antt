use Rattle.ann_dead.proofs.Runs.{no_runs}
use Rattle.ann_dead.proofs.dead.Dead.new.Goals as goal

pub invariant_of-result : goal.invariant_of-result
invariant_of-result c = no_runs c.new.result.capacity c.new.result.items c.new.ensures.items c.new.ensures.capacity
