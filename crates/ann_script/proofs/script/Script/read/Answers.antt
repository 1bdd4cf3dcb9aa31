use Rattle.ann_script.specs.Script.{rules}
use Rattle.ann_script.proofs.Inputs.{tells}
use Rattle.ann_script.proofs.Allowed.{reads_allowed}
use Rattle.ann_script.proofs.script.Script.read.Goals as goal

pub returns-clause-tells : goal.returns-clause-tells
returns-clause-tells g c = tells (rules c.args.verbs c.args.clients) (g.S.Source.left c.args.input.now) (g.S.Source.left c.read_script.new.input) c.read_script.result c.read_script.ensures.reads

pub returns-clause-allowed : goal.returns-clause-allowed
returns-clause-allowed g c = reads_allowed (rules c.args.verbs c.args.clients) (g.S.Source.left c.args.input.now) (g.S.Source.left c.read_script.new.input) c.read_script.result c.read_script.ensures.reads
