use Rattle.std.proofs.Common.{◌≡◌, ◌-◌, ◌++◌}
use Rattle.ann_script.specs.Generator.{after, made}
use Rattle.ann_script.proofs.generator.Generator.components.Given as goal

-- the components so far and those to come are all, and the steps to come lead to the last state
abbrev pub invariant-loop : goal.invariant-loop
invariant-loop l = record {
  all : l.bytes.items ++ made l.self.state (l.d - l.counter) ≡ made l.fn.self.state l.d;
  steps : after l.self.state (l.d - l.counter) ≡ after l.fn.self.state l.d;
}
