use Rattle.std.proofs.Common.{refl, arith}
use Rattle.ann_script.specs.Order.{Find}
use Rattle.ann_transcript.specs.declared.reply.Reply.TheVariants.{Search}
use Rattle.ann_said.proofs.Replying.{said_idle, said_caused}
use Rattle.ann_said.proofs.lines.failing.Goals as goal

pub returns-clause-update : goal.returns-clause-update
returns-clause-update c index h0 known changes batch why cause lines = said_caused index h0 known lines changes batch why cause

pub returns-clause-search : goal.returns-clause-search
returns-clause-search c index h0 known k l vector why right lines so h may = said_idle index h0 h known lines (Find k l vector) (Search why) (so h may) (right, refl) (omega arith)
