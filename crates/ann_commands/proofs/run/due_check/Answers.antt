use Rattle.ann_commands.proofs.Checks.{checked, said_calm}
use Rattle.ann_commands.proofs.run.due_check.Goals as goal

pub returns-clause-is : goal.returns-clause-is
returns-clause-is g c = λ left. checked _ _ left c.args.place.now c.check_index-ended.new.place c.check_index-ended.result c.said.result c.requires.words c.check_index-ended.ensures.ended c.said.ensures

pub returns-clause-count : goal.returns-clause-count
returns-clause-count g c = λ count. said_calm c.check_index-ended.result c.said.result count c.said.ensures
