use Rattle.std.proofs.Common.{◌+◌, arith}
use Rattle.ann_script.specs.Script.{limit}
use Rattle.ann_script.specs.declared.verbs.Verbs.TheVariants.{All as AllVerbs}
use Rattle.ann_session.proofs.Scripts.{client_orders, client_short}
use Rattle.ann_session.proofs.tests.serves.Goals as goal

pub serve-requires-clause-verbs : goal.serve-requires-clause-verbs
serve-requires-clause-verbs c = client_orders AllVerbs (limit + 1) c.in_ok-script.script 0 c.commands.result.now (omega (arith, c.if-clients-eq0.false, c.clients.ensures)) c.in_ok-script.ensures.allowed c.commands.ensures

pub serve-requires-clause-short : goal.serve-requires-clause-short
serve-requires-clause-short c = client_short AllVerbs (limit + 1) c.in_ok-script.script 0 c.commands.result.now (omega (arith, c.if-clients-eq0.false, c.clients.ensures)) c.in_ok-script.ensures.allowed c.commands.ensures
