use Rattle.std.proofs.Common.{◌+◌, ◌<◌, ◌++◌, ◌∷◌, [], List, length, sym, subst, arith}
use Rattle.ann_core_laws.specs.declared.step.Step.{Step}
use Rattle.ann_core.specs.Core.{HasStopped}
use Rattle.ann_core.proofs.Starting.{Goes, goes_more, on_err}
use Rattle.ann_core.proofs.core_type.Core.run.Goals as goal

pub returns-in_err-push-clause-stopped : goal.returns-in_err-push-clause-stopped
returns-in_err-push-clause-stopped g c = λ index state core.
    let i = c.loop-event.event-index in
    let within : i < length c.args.events.now = c.loop-event-test.true in
    let goes : Goes index state c.args.events.now (i + 1) c.step.new.self (c.loop-event.steps ++ c.in_ok-step.field-0 ∷ []) = goes_more index state c.args.events.now i c.event-item.result c.loop-event.self c.step.new.self c.loop-event.steps c.in_ok-step.field-0 within c.event-item.is (c.loop-event.invariant index state core) (λ x is. c.in_ok-step.ensures.comes index x is) in
    on_err c.from_residual-in_err-push.result (HasStopped index state c.args.events.now c.step.new.self) (record { count = i + 1; within = omega (arith, within); state = goes.state })

pub loop-event-preserved : goal.loop-event-preserved
loop-event-preserved g c = λ index state core.
    let i = c.loop-event.event-index in
    let within : i < length c.args.events.now = c.loop-event-test.true in
    subst (λ (t : List Step). Goes index state c.args.events.now (i + 1) c.step.new.self t) (sym c.in_ok-push.ensures.pushed)
    (goes_more index state c.args.events.now i c.event-item.result c.loop-event.self c.step.new.self c.loop-event.steps c.in_ok-step.field-0 within c.event-item.is (c.loop-event.invariant index state core) (λ x is. c.in_ok-step.ensures.comes index x is))
