use Rattle.ann_script.proofs.Generating.{made-on, after-on}
use Rattle.std.proofs.Common.{◌∙◌, ap, ◌++◌, ◌∷◌, []}
use Rattle.ann_script.specs.Generator.{component_of, made, after}
use Rattle.std.proofs.Common.{◌-◌, ◌+◌}
use Rattle.ann_script.proofs.generator.Generator.components.Goals as goal

pub loop-preserved : goal.loop-preserved
loop-preserved c =
    let x = c.loop.self.state in
    let i = c.loop.counter in
    let pushed = c.in_ok-push.ensures.items ∙ ap (λ b. c.loop.bytes.items ++ b ∷ []) (c.component.ensures.value ∙ ap component_of c.component.ensures.step) in
    record {
      all = ap (λ y. c.push.new.self.items ++ made y (c.args.d - (i + 1))) c.component.ensures.step ∙ made-on x c.args.d i c.loop.bytes.items c.push.new.self.items _ c.loop-test.true c.loop.invariant.all pushed;
      steps = ap (λ y. after y (c.args.d - (i + 1))) c.component.ensures.step ∙ after-on x c.args.d i _ c.loop-test.true c.loop.invariant.steps;
    }
