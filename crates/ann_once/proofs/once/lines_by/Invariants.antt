use Rattle.std.proofs.Common.{map}
use Rattle.ann_script.specs.Order.{order_of}
use Rattle.ann_once.proofs.Transcribing.{Transcribing}
use Rattle.ann_once.proofs.once.lines_by.Given as goal

abbrev pub invariant-loop-command : goal.invariant-loop-command
invariant-loop-command l = Transcribing l.fn.session.params l.name (map order_of l.commands) l.command-index l.number l.session l.transcript
