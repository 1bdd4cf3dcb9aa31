use Rattle.ann_once.specs.Once.{once_index}
use Rattle.ann_once.proofs.Live.{script_tells}
use Rattle.ann_commands.proofs.run.run_alone.Goals as goal

pub returns-clause-live : goal.returns-clause-live
returns-clause-live g c = λ params script. script_tells (once_index params) script
