use Rattle.ann_mbegin.proofs.Lasts.{job_lasts, lti_lasts}
use Rattle.ann_mbegin.proofs.laws.lasting.Goals as goal

pub returns-clause-job : goal.returns-clause-job
returns-clause-job g c index h e order legal = job_lasts index h e order

pub returns-clause-lti : goal.returns-clause-lti
returns-clause-lti g c index h e order legal = lti_lasts g.S.Sealed.bytes index h e order
