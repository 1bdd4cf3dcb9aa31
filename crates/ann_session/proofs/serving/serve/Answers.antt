use Rattle.std.proofs.Common.{arith, map}
use Rattle.std.proofs.lemmas.List.{length-map}
use Rattle.ann_script.specs.Order.{order_of}
use Rattle.ann_session.proofs.Lines.{not_served, serving_more, serving_broken, serving_cut, serving_all}
use Rattle.ann_session.proofs.serving.serve.Goals as goal

pub returns-in_err-reply : goal.returns-in_err-reply
returns-in_err-reply g c run known knows said =
    let C = g.C.Connection in
    let l = c.loop-command in
    let s = l.invariant.served run known knows said in
    let Knows = C.knows c.reply.new.connection run in
    let before = C.counts c.args.connection.now in
    let next = C.counts c.reply.new.connection in
    let orders = map order_of c.args.commands.now in
    not_served run known Knows C.alone before next c.args.name.now orders c.args.transcript.now l.transcript c.from_residual.result c.from_residual.ensures.0
    (serving_broken run known (C.knows l.connection run) Knows C.alone before (C.counts l.connection) next c.args.name.now orders l.command-index c.args.transcript.now l.transcript s (c.in_err-reply.ensures run s.known s.knows))

pub returns-in_err-line : goal.returns-in_err-line
returns-in_err-line g c run known knows said =
    let C = g.C.Connection in
    let l = c.loop-command in
    let s = l.invariant.served run known knows said in
    let Knows = C.knows c.reply.new.connection run in
    let before = C.counts c.args.connection.now in
    let next = C.counts c.reply.new.connection in
    let orders = map order_of c.args.commands.now in
    not_served run known Knows C.alone before next c.args.name.now orders c.args.transcript.now c.line.new.self c.from_residual-in_err-line.result c.from_residual-in_err-line.ensures.0
    (serving_cut run known (C.knows l.connection run) Knows C.alone before (C.counts l.connection) next c.args.name.now orders l.command-index c.args.transcript.now l.transcript (order_of c.command-item.result) c.in_ok-reply.reply s (c.in_ok-reply.ensures run s.known s.knows))

pub loop-command-preserved : goal.loop-command-preserved
loop-command-preserved g c =
    let C = g.C.Connection in
    let l = c.loop-command in
    let counted = l.invariant.counted in
    record {
      counted = omega (arith, counted);
      served = λ run known knows said.
          let s = l.invariant.served run known knows said in
          serving_more run known (C.knows l.connection run) (C.knows c.reply.new.connection run) C.alone (C.counts c.args.connection.now) (C.counts l.connection) (C.counts c.reply.new.connection) c.args.name.now c.args.commands.now l.command-index l.number c.args.transcript.now l.transcript c.line.new.self c.command-item.result c.in_ok-reply.reply s c.loop-command-test.true c.command-item.is counted
          (c.in_ok-reply.ensures run s.known s.knows) c.in_ok-line.ensures.ok;
    }

pub returns : goal.returns
returns g c run known knows said =
    let C = g.C.Connection in
    let l = c.loop-command in
    let orders = map order_of c.args.commands.now in
    let size = length-map c.args.commands.now order_of in
    let over = c.loop-command-test.false in
    serving_all run known (C.knows l.connection run) C.alone (C.counts c.args.connection.now) (C.counts l.connection) c.args.name.now orders l.command-index c.args.transcript.now l.transcript (l.invariant.served run known knows said) (omega (arith, size, over))
