use Rattle.ann_core_laws.proofs.Replies.{answers}
use Rattle.ann_core_laws.proofs.laws.answering.Goals as goal

pub returns : goal.returns
returns c = answers
