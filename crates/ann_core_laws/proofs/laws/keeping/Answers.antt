use Rattle.ann_core_laws.proofs.Kept.{first_facts, kept_step, kept_all}
use Rattle.ann_core_laws.proofs.laws.keeping.Goals as goal

pub returns-clause-first : goal.returns-clause-first
returns-clause-first c = first_facts

pub returns-clause-each : goal.returns-clause-each
returns-clause-each c = kept_step

pub returns-clause-all : goal.returns-clause-all
returns-clause-all c = kept_all
