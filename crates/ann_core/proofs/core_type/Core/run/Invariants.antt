use Rattle.ann_types.specs.Index.{Index}
use Rattle.ann_core_laws.specs.State.{CoreState}
use Rattle.ann_core.specs.Core.{IsCoreOf}
use Rattle.ann_core.proofs.Starting.{Goes}
use Rattle.ann_core.proofs.core_type.Core.run.Given as goal

-- the core is behind the events so far, and these are their steps
abbrev pub invariant-loop-event : goal.invariant-loop-event
invariant-loop-event g l = (index : Index) (c : CoreState) → IsCoreOf index l.fn.self c → Goes index c l.events l.event-index l.self l.steps
