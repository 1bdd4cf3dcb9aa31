use Rattle.std.proofs.Common.{◌+◌, arith}
use Rattle.ann_script.specs.Script.{limit}
use Rattle.ann_script.specs.declared.verbs.Verbs.TheVariants.{Once}
use Rattle.ann_once.proofs.Commands.{first_orders, first_short}
use Rattle.ann_once.proofs.once.transcript_of.Goals as goal

abbrev pub lines-requires-clause-verbs : goal.lines-requires-clause-verbs
lines-requires-clause-verbs c = first_orders Once (limit + 1) c.args.script.now c.commands.result.now (omega (arith, c.if-clients-eq0.false, c.clients.ensures)) c.requires.script c.commands.ensures

abbrev pub lines-requires-clause-short : goal.lines-requires-clause-short
lines-requires-clause-short c = first_short Once (limit + 1) c.args.script.now c.commands.result.now (omega (arith, c.if-clients-eq0.false, c.clients.ensures)) c.requires.script c.commands.ensures
