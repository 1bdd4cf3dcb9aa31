use Rattle.std.proofs.Common.{ap, ◌∙◌, arith, length, length-drop}
use Rattle.std.proofs.lemmas.List.{length-take}
use Rattle.ann_said.specs.Knowing.{with_more}
use Rattle.ann_session.proofs.Fills.{all_left, turn_left, turns_over, filling_none, filling_more, filling_done, filling_cut}
use Rattle.ann_session.proofs.fill.fill.Goals as goal

pub loop-updates-init : goal.loop-updates-init
loop-updates-init g c =
    let C = g.C.Connection in
    let seed = c.args.seed in
    let count = c.args.count in
    let first = c.args.first in
    let d = c.dimension.result in
    let left = c.new-filling.result in
    let size = all_left d seed count first left c.new-filling.ensures in
    record {
      left = omega (arith, size);
      made = λ run known knows. filling_none run known (C.knows c.args.connection.now run) (C.counts c.args.connection.now) d seed count first left knows (c.dimension.ensures run known knows) c.new-filling.ensures;
    }

pub update-requires-clause-few : goal.update-requires-clause-few
update-requires-clause-few g c =
    let size = ap length (c.items.ensures ∙ c.in_ok-batch.ensures.batch) ∙ length-take 64 c.loop-updates.filling in
    omega (arith, size)

pub returns-in-Err : goal.returns-in-Err
returns-in-Err g c run known knows =
    let C = g.C.Connection in
    let l = c.loop-updates in
    let f = l.invariant.made run known knows in
    let less = turn_left c.args.count l.updates c.div_ceil-updates-end.result c.div_ceil-updates-end.ensures c.loop-updates-test.true in
    let batch_is = c.items.ensures ∙ c.in_ok-batch.ensures.in_turn run.index.params.d c.args.seed c.args.count c.args.first l.updates f.rest in
    filling_cut run known (C.knows l.connection run) (C.knows c.update.new.self run) C.alone (C.counts c.args.connection.now) (C.counts l.connection) (C.counts c.update.new.self) c.args.seed c.args.count c.args.first l.updates l.filling c.items.result.now l.at f less batch_is c.in-Err.refused
    (c.in-Err.ensures.said run (with_more f.known f.done) f.knows)
    (c.in-Err.ensures.cause run (with_more f.known f.done) f.knows)

pub loop-updates-preserved : goal.loop-updates-preserved
loop-updates-preserved g c =
    let C = g.C.Connection in
    let l = c.loop-updates in
    let less = turn_left c.args.count l.updates c.div_ceil-updates-end.result c.div_ceil-updates-end.ensures c.loop-updates-test.true in
    let rest = ap length c.in_ok-batch.ensures.rest ∙ length-drop 64 l.filling in
    let left = l.invariant.left in
    record {
      left = omega (arith, rest, left);
      made = λ run known knows.
          let f = l.invariant.made run known knows in
          let d = run.index.params.d in
          let batch_is = c.items.ensures ∙ c.in_ok-batch.ensures.in_turn d c.args.seed c.args.count c.args.first l.updates f.rest in
          let caused = c.in-Ok.ensures.cause run (with_more f.known f.done) f.knows in
          filling_more run known (C.knows l.connection run) (C.knows c.update.new.self run) (C.counts c.args.connection.now) (C.counts l.connection) (C.counts c.update.new.self) c.args.seed c.args.count c.args.first l.updates l.filling c.next_batch.new.self c.items.result.now l.at c.in-Ok.end f less batch_is
          (c.in_ok-batch.ensures.goes_on d c.args.seed c.args.count c.args.first l.updates f.rest)
          (c.in-Ok.ensures.said run (with_more f.known f.done) f.knows) caused.on;
    }

pub returns : goal.returns
returns g c run known knows =
    let C = g.C.Connection in
    let l = c.loop-updates in
    let over = turns_over c.args.count l.updates c.div_ceil-updates-end.result c.div_ceil-updates-end.ensures c.loop-updates-test.false in
    filling_done run known (C.knows l.connection run) C.alone (C.counts c.args.connection.now) (C.counts l.connection) c.args.seed c.args.count c.args.first l.updates l.filling l.at (l.invariant.made run known knows) c.requires.1 over
