use Rattle.std.proofs.Common.{sym, subst}
use Rattle.ann_script.specs.Order.{Apply}
use Rattle.ann_session.specs.Served.{IsAnswered}
use Rattle.ann_session.proofs.Updates.{answered_accepted, answered_refused}
use Rattle.ann_session.proofs.reply.reply_update.Goals as goal

pub returns-in-Ok : goal.returns-in-Ok
returns-in-Ok g c run known knows =
    let C = g.C.Connection in
    let before = C.counts c.args.connection.now in
    let now = C.counts c.update.new.self in
    subst (IsAnswered run known (C.knows c.update.new.self run) C.alone before now (Apply c.args.changes.now c.args.batch)) (sym c.accepted.ensures)
    (answered_accepted run known (C.knows c.update.new.self run) C.alone before now c.args.changes.now c.args.batch c.in-Ok.at (c.in-Ok.ensures.said run known knows) (c.in-Ok.ensures.cause run known knows))

pub returns-in-Err : goal.returns-in-Err
returns-in-Err g c run known knows =
    let C = g.C.Connection in
    answered_refused run known (C.knows c.update.new.self run) C.alone (C.counts c.args.connection.now) (C.counts c.update.new.self) c.args.changes.now c.args.batch c.in-Err.refused (c.in-Err.ensures.said run known knows) (c.in-Err.ensures.cause run known knows)
