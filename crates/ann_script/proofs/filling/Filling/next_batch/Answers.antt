use Rattle.std.proofs.Common.{◌≡◌, ◌<◌, ◌+◌, ◌-◌, ◌*◌, List, take, drop, ◌++◌, ◌∷◌, [], ◌∙◌, ap, arith, length, min}
use Rattle.std.proofs.lemmas.List.{length-append, drop-drop}
use Rattle.ann_types.specs.declared.change.Change.{Change}
use Rattle.ann_types.specs.declared.change.Change.TheVariants.{Insert}
use Rattle.ann_script.specs.Generator.{made, inserts}
use Rattle.ann_script.proofs.Generating.{inserts-on, batch}
use Rattle.ann_script.proofs.filling.Filling.next_batch.Goals as goal

pub loop-index-preserved : goal.loop-index-preserved
loop-index-preserved c =
    let s = c.self.inside in
    let x = c.loop-index.generator.state in
    let more : s.done + c.loop-index.index < s.count = grind (arith, c.loop-index-test.true, c.min-size.ensures) in
    let pushed = c.in_ok-push.ensures.ok ∙ ap (λ (change : Change). c.loop-index.changes ++ change ∷ []) (c.in_ok-insert.ensures.made ∙ ap (λ t. Insert (s.first + t) (made x s.d)) c.from.ensures) in
    record {
      all = inserts-on s.d x c.insert.new.generator.state s.first s.done s.count c.loop-index.index c.loop-index.changes c.push.new.self c.args.self.now more c.loop-index.invariant.all pushed c.in_ok-insert.ensures.after;
      made = ap length c.in_ok-push.ensures.ok ∙ length-append c.loop-index.changes _ ∙ ap (λ n. n + 1) c.loop-index.invariant.made;
    }

pub returns-clause-batch : goal.returns-clause-batch
returns-clause-batch c =
    let s = c.self.inside in
    let i = c.loop-index.index in
    let most : i ≡ min 64 (i + (s.count - (s.done + i))) = grind (arith, c.loop-index-test.false, c.loop-index.auto.index-end, c.min-size.ensures, c.self.invariant.0) in
    (batch s.d c.loop-index.generator.state (s.first + (s.done + i)) (s.count - (s.done + i)) i c.loop-index.changes c.args.self.now c.loop-index.invariant.all c.loop-index.invariant.made most).0

pub returns-clause-rest : goal.returns-clause-rest
returns-clause-rest c =
    let s = c.self.inside in
    let i = c.loop-index.index in
    let x = c.loop-index.generator.state in
    let end : c.min-size.result ≡ i = grind (arith, c.loop-index-test.false, c.loop-index.auto.index-end) in
    let most : i ≡ min 64 (i + (s.count - (s.done + i))) = grind (arith, c.loop-index-test.false, c.loop-index.auto.index-end, c.min-size.ensures, c.self.invariant.0) in
    ap (λ n. inserts s.d x (s.first + (s.done + n)) (s.count - (s.done + n))) end
    ∙ (batch s.d x (s.first + (s.done + i)) (s.count - (s.done + i)) i c.loop-index.changes c.args.self.now c.loop-index.invariant.all c.loop-index.invariant.made most).1

pub returns-clause-in_turn : goal.returns-clause-in_turn
returns-clause-in_turn c = λ d seed count first index same. returns-clause-batch c ∙ ap (take 64) same

pub returns-clause-goes_on : goal.returns-clause-goes_on
returns-clause-goes_on c = λ d seed count first index same.
    let all : List Change = inserts d seed first count in
    returns-clause-rest c ∙ ap (drop 64) same ∙ drop-drop 64 (64 * index) all
    ∙ ap (λ n. drop n all) (let more : 64 * index + 64 ≡ 64 * (index + 1) = omega arith in more)
